-- `in_range` meets its contract. Assumes nothing.
use Rattle.foundations.specs.Machine.{machine}
use Rattle.model.specs.Weights.{in_range}
use Rattle.integers.proofs.in_range.Goals as goal

pub returns : goal.returns
unfolding in_range
returns c = simp (machine, c.ranges.w)
