-- What the tests of the certificate's rules say. Assumes nothing.
use Rattle.std.specs.Prelude.{◌≡◌, true, ℤ, neg_ℤ, pos, ◌≤ℤ◌}
use Rattle.std.specs.Int.Signed.{le_z, le_z_yes}
use Rattle.foundations.specs.Int.{ints, ≤ℤ_antisym}
use Rattle.foundations.specs.Tests.{true→T, and_split, and_both}
use Rattle.model.specs.Limits.{weight_limit}
use Rattle.model.specs.Weights.{Weight, some, weighed}
use Rattle.model.specs.Certificate.{eq_z, at_most}
use Rattle.subtrees.proofs.ValueRange.{not_forbidden}

pub eq_z_says : (a b : ℤ) → eq_z a b ≡ true → a ≡ b
unfolding eq_z
eq_z_says a b h = let q = and_split (le_z a b) (le_z b a) h in ≤ℤ_antisym (le_z_yes (true→T q.0)) (le_z_yes (true→T q.1))

pub eq_z_same : (a b : ℤ) → a ≡ b → eq_z a b ≡ true
unfolding eq_z
eq_z_same a b e = and_both (le_z a b) (le_z b a) (omega ints) (omega ints)

pub at_most_says : (x : Weight) (a y : ℤ) → at_most x y ≡ true → x ≡ some a → a ≤ℤ y
unfolding at_most
at_most_says x a y h e = le_z_yes (true→T (rw e at h))

-- what is at least the least weight is recorded as itself
pub weighed_some : (z : ℤ) → neg_ℤ (pos weight_limit) ≤ℤ z → weighed z ≡ some z
unfolding weighed
weighed_some z h = rw (not_forbidden z h)
