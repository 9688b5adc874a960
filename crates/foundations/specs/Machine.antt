-- What the machine's signed operations ask and tell, for numbers that fit. Assumes nothing.
use Rattle.std.specs.Prelude.{◌≡◌, ℕ, ◌+◌, ◌<◌, T, ℤ, pos, negsuc, ◌+ℤ◌, ◌-ℤ◌, nat_abs}
use Rattle.std.proofs.Common.{arith, SFits, to_z, of_z, to_z-of_z}
use Rattle.std.specs.Int.Signed.{mag, non_neg}
use Rattle.std.specs.Int.{w32, w64}
use Rattle.std.proofs.Math.Facts.{sfits_widen}
use Rattle.foundations.specs.Int.{up, dn, neg, int, ints}

pub sfits_64 : {z : ℤ} → SFits w32 z → SFits w64 z
sfits_64 f = sfits_widen tt f

pub sfits_sum : {a b : ℤ} → SFits w32 a → SFits w32 b → SFits w64 (a +ℤ b)
sfits_sum f g = omega ints

-- a cast to an unsigned type asks `T (non_neg z) × Fits w (nat_abs z)`, and gives `nat_abs z`
pub nonneg_out : (z : ℤ) → dn z ≡ 0 → T (non_neg z)
nonneg_out (pos n) h = tt
nonneg_out (negsuc n) h = let x : ⊥ = omega arith in absurd x

pub nat_abs_is : (z : ℤ) → nat_abs z ≡ up z + dn z
nat_abs_is (pos n) = omega arith
nat_abs_is (negsuc n) = omega arith

-- for `simp`, with the facts that the parameters fit: what is read back from the bits of a number is the number
pub back_32 : (z : ℤ) → SFits w32 z → to_z w32 (of_z w32 z) ≡ z
back_32 z f = to_z-of_z f

pub back_64 : (z : ℤ) → SFits w32 z → to_z w64 (of_z w64 z) ≡ z
back_64 z f = to_z-of_z (sfits_64 f)

pub back_sum : (a b : ℤ) → SFits w32 a → SFits w32 b → to_z w64 (of_z w64 (a +ℤ b)) ≡ a +ℤ b
back_sum a b f g = to_z-of_z (sfits_sum f g)

-- for `omega`, at the needs of a function with signed locals
pub ruleset signed = (ints, nonneg_out)

-- −1 − k
pub minus_one : (k : ℕ) → negsuc 0 -ℤ pos k ≡ negsuc k
minus_one k = omega (int, neg (pos k))

pub ruleset machine = (back_32, back_64, back_sum)

-- of a call's signed result, and of an element of a slice of signed numbers, a need is handed the bound alone (`c.f.ok`, `c.x.given`)
pub back : {z : ℤ} → mag z < 2147483648 → to_z w32 (of_z w32 z) ≡ z
back h = to_z-of_z {w = w32} (record { sfits = h })

-- what is read back from z's bits is z. At a need: `let a : Same z = search needs in`, for any signed z that the place knows
abbrev pub Same : ℤ → Type 0
Same z = to_z w32 (of_z w32 z) ≡ z
