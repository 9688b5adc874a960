-- `is_zero` meets its contract. Assumes nothing.
use Rattle.std.proofs.Common.{pos}
use Rattle.std.specs.Int.{w32}
use Rattle.foundations.specs.Int.{ints}
use Rattle.records.specs.Equal.{same_bits}
use Rattle.record_rules.proofs.numbers.is_zero.Goals as goal

pub returns : goal.returns
returns c = same_bits w32 c.args.x (pos 0) c.ranges.x (omega ints)
