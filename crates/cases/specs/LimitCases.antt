-- The numbers of paper 02, [2]; work numbers at them, and what is stored (weights at the limits are in `FurtherPlants`, certificates in
-- `CertificateCases`). Assumes nothing.
use Rattle.std.specs.Prelude.{◌≡◌, refl, true, false, ◌≤◌, ℤ, pos, neg_ℤ}
use Rattle.std.proofs.Common.{arith}
use Rattle.model.specs.Limits.{weight_limit, ceiling, dual_limit, forbidden}
use Rattle.model.specs.Weights.{none, some, is_forbidden, stored}
use Rattle.model.specs.Jobs.{number_ok}
use Rattle.model.specs.Values.{clipped}
use Rattle.cases.specs.Plants.{most, least, too_low, near_forbidden}

-- the limit of weights, the stored ceiling, the forbidden number; the limit of duals fits 4 signed bytes
limits : (weight_limit ≡ 16000000) × (ceiling ≡ 2032000000) × (forbidden ≡ neg_ℤ (pos 2147483648)) × (dual_limit ≤ 2147483647)
limits = (refl, refl, refl, omega arith)

-- item 16 lets pass: either end at an allowed pair, whatever it weighs
ends_pass : (w : ℤ) → (number_ok (some w) (pos 2032000000) ≡ true) × (number_ok (some w) least ≡ true)
unfolding number_ok
ends_pass w = (refl, refl)

-- item 16 refuses: one beyond either end at an allowed pair, the forbidden number there, and one above it
beyond_refused : (w : ℤ) → (number_ok (some w) (pos 2032000001) ≡ false) × (number_ok (some w) too_low ≡ false) × (number_ok (some w) forbidden ≡ false) × (number_ok (some w) near_forbidden ≡ false)
unfolding number_ok
beyond_refused w = (refl, refl, refl, refl)

-- a forbidden pair has the forbidden number: not one above it, not 0, and neither end
forbidden_alone : (number_ok none forbidden ≡ true) × (number_ok none near_forbidden ≡ false) × (number_ok none (pos 0) ≡ false) × (number_ok none least ≡ false) × (number_ok none (pos 2032000000) ≡ false)
unfolding number_ok is_forbidden
forbidden_alone = (refl, refl, refl, refl, refl)

-- a value is stored as it is up to the ceiling, and as the ceiling above it: one above, and all that a vertex pair and eight branches can weigh
ceilings : (clipped (some least) ≡ least) × (clipped (some (pos 2032000000)) ≡ pos 2032000000) × (clipped (some (pos 2032000001)) ≡ pos 2032000000) × (clipped (some (pos 16400000000)) ≡ pos 2032000000) × (clipped none ≡ forbidden)
unfolding clipped
ceilings = (refl, refl, refl, refl, refl)

-- the same of a weight and a total of gains
totals : (stored least 0 ≡ least) × (stored most 2016000000 ≡ pos 2032000000) × (stored most 2016000001 ≡ pos 2032000000) × (stored most 16384000000 ≡ pos 2032000000)
unfolding stored
totals = (refl, refl, refl, refl)
