-- `is_forbidden` meets its contract. Assumes nothing.
use Rattle.integers.specs.Laws.{forbidden_bits}
use Rattle.integers.proofs.is_forbidden.Goals as goal

pub returns : goal.returns
returns c = forbidden_bits c.args.w c.ranges.w
