-- `stored_value` meets its contract: the sum fits an i64, and the lesser of it and the ceiling an i32. Assumes nothing.
use mathlib.Core.Path.{◌≡◌, subst}
use native.Mathlib.Omega.{arith}
use lib.IntN.{ℤ, pos, ◌+ℤ◌}
use mir.Syntax.{w32, w64}
use mir.Val.{to_z, of_z, SFits}
use mir.Facts.{to_z_pos, to_z-of_z}
use Rattle.foundations.specs.Int.{ints, plus, canon}
use Rattle.foundations.specs.Machine.{machine}
use Rattle.model.specs.Weights.{stored}
use Rattle.integers.specs.Results.{StoredValue}
use Rattle.integers.specs.Laws.{stored_within}
use Rattle.integers.proofs.stored_value.Goals as goal

pub returns : goal.returns
unfolding stored
returns c =
    let sum : ℤ = c.args.weight +ℤ pos c.args.total in
    let total_is : to_z w64 c.args.total ≡ pos c.args.total = to_z_pos w64 (omega arith) in
    let fits_sum : SFits w64 sum = omega (ints, plus c.args.weight (pos c.args.total), canon sum) in
    let lesser : c.min-clipped.result ≡ stored c.args.weight c.args.total = simp (machine, to_z-of_z, c.ranges.weight, total_is, fits_sum) at c.min-clipped.ensures.value in
    let value : StoredValue c.args.weight c.args.total c.min-clipped.result = stored_within c.requires.weight_value lesser in
    let same_64 : to_z w64 (of_z w64 c.min-clipped.result) ≡ c.min-clipped.result = to_z-of_z {w = w64} (record { sfits = c.min-clipped.type_inv }) in
    let fits-32 : SFits w32 c.min-clipped.result = omega (ints, value.least, value.most) in
    let same_32 : to_z w32 (of_z w32 c.min-clipped.result) ≡ c.min-clipped.result = to_z-of_z fits-32 in
    subst (λ (z : ℤ). StoredValue c.args.weight c.args.total z) (grind arith) value
