-- `in_range` meets its contract. Assumes nothing.
use Rattle.foundations.specs.Machine.{machine}
use Rattle.job_items.specs.Work.{in_range}
use Rattle.job_items.proofs.work.in_range.Goals as goal

pub returns : goal.returns
unfolding in_range
returns c = simp (machine, c.ranges.z)
