-- `gain` meets its contract. Assumes nothing.
use mathlib.Core.Path.{◌≡◌, refl}
use Prim.Native.Nat.{zero, suc}
use native.Mathlib.Omega.{arith}
use Rattle.std.proofs.Common.{le-leb}
use lib.IntN.{ℤ, pos, negsuc, ◌+ℤ◌}
use mir.Syntax.{w64}
use mir.Val.{to_z, of_z}
use mir.Facts.{to_z-of_z}
use Rattle.std.specs.Int.{int_max}
use Rattle.foundations.specs.Int.{up, plus, canon}
use Rattle.foundations.specs.Machine.{machine, signed}
use Rattle.integers.proofs.gain.Goals as goal

max_zero : (x : ℤ) → int_max x (pos 0) ≡ pos (up x)
max_zero (pos zero) = refl
max_zero (pos (suc n)) = simp (le-leb 1 (suc n) (omega arith))
max_zero (negsuc n) = refl

pub returns : goal.returns
returns c =
    let total : ℤ = c.args.edge +ℤ c.args.value in
    let f = c.ranges in
    let greater : c.max.result ≡ pos (up total) = simp (machine, f.edge, f.value, max_zero) at c.max.ensures.value in
    let same : to_z w64 (of_z w64 c.max.result) ≡ c.max.result = to_z-of_z {w = w64} (record { sfits = c.max.type_inv }) in
    rw (same, greater) (record { is = refl; small = omega (signed, canon total, plus c.args.edge c.args.value) })
