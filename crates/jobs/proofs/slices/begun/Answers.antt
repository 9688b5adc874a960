-- `begun` meets its contract. Assumes nothing.
use Rattle.std.proofs.Common.{◌∙◌}
use Rattle.model.specs.Jobs.{started}
use Rattle.jobs.proofs.slices.begun.Goals as goal

pub returns : goal.returns
unfolding started
returns c = rw (c.from-n.ensures ∙ c.byte_or_zero.ensures, c.from-m.ensures ∙ c.byte_or_zero-2.ensures)
