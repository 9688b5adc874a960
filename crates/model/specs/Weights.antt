-- A weight is forbidden or a number, so that nothing is ever added to the forbidden number. Paper 01, "Bytes of a table and a layout" and "The mapping";
-- the range is that of paper 02, [2].
use Rattle.std.specs.Prelude.{ℕ, Bool, false, cond, ◌&&◌, ◌||◌, eqb, ℤ, pos, negsuc, ◌+ℤ◌, neg_ℤ, ◌≤ℤ◌}
use Rattle.std.specs.Int.Signed.{le_z, lt_z}
use Rattle.foundations.specs.Int.{up}
use Rattle.model.specs.Limits.{weight_limit, ceiling, forbidden_rank}

-- ---- a number of 4 bytes as a weight

unfoldable pub is_forbidden : ℤ → Bool
is_forbidden (pos n) = false
is_forbidden (negsuc n) = eqb n forbidden_rank

unfoldable pub in_range : ℤ → Bool
in_range z = le_z (neg_ℤ (pos weight_limit)) z && le_z z (pos weight_limit)

-- it may stand in a table
unfoldable pub weight_ok : ℤ → Bool
weight_ok z = is_forbidden z || in_range z

-- ---- forbidden (`none`) or a number

pub data Weight : Type 0 where
  none : Weight
  some : ℤ → Weight

unfoldable pub weighed : ℤ → Weight
weighed z = cond (is_forbidden z) none (some z)

-- the order: forbidden is least
infix 50 ◌⊑◌
abbrev pub ◌⊑◌ : Weight → Weight → Type 0
none ⊑ y = Unit {0}
some a ⊑ none = ⊥
some a ⊑ some b = a ≤ℤ b

-- the sum: forbidden if either is
abbrev pub plus_w : Weight → Weight → Weight
plus_w none y = none
plus_w (some a) none = none
plus_w (some a) (some b) = some (a +ℤ b)

abbrev pub max_w : Weight → Weight → Weight
max_w none y = y
max_w (some a) none = some a
max_w (some a) (some b) = cond (le_z a b) (some b) (some a)

-- ---- the arithmetic of one subproblem, on numbers that are not forbidden

-- the gain of a branch: the greater of 0 and its edge weight plus its value, a natural number
abbrev pub gain_of : ℤ → ℤ → ℕ
gain_of edge value = up (edge +ℤ value)

-- what is stored: the weight plus a natural total, or the ceiling where the sum is more
unfoldable pub stored : ℤ → ℕ → ℤ
stored w total = cond (lt_z (pos ceiling) (w +ℤ pos total)) (pos ceiling) (w +ℤ pos total)
