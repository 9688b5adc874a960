-- `add` meets its contract. Assumes nothing.
use Rattle.std.proofs.Common.{◌+ℤ◌, SFits, to_z-of_z}
use Rattle.std.specs.Int.{w32}
use Rattle.foundations.specs.Int.{ints}
use Rattle.mappings.proofs.weigh.add.Goals as goal

pub overflow_add-result : goal.overflow_add-result
overflow_add-result c = simp (to_z-of_z, c.ranges.s, c.ranges.t) (omega ints)

pub returns : goal.returns
returns c =
    let f : SFits w32 (c.args.s +ℤ c.args.t) = omega ints in
    simp (to_z-of_z, c.ranges.s, c.ranges.t, f)
