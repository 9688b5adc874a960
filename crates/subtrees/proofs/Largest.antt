-- The greater of 0 and the largest value with s = v. It bounds every mapping, and one attains it. Assumes nothing.
use Rattle.std.specs.Prelude.{◌≡◌, refl, Bool, true, false, List, ℕ, ◌<◌, ℤ, pos, T}
use Rattle.std.proofs.Common.{sym, ap, ◌∙◌, ⊎_elim}
use Rattle.foundations.specs.Lists.{below}
use Rattle.foundations.specs.Members.{mem, mem_below, below_mem}
use Rattle.foundations.specs.Sums.{sumℤ_zero}
use Rattle.model.specs.Values.{greatest}
use Rattle.model.specs.Weights.{Weight, none, some, ◌⊑◌}
use Rattle.subtrees.proofs.Bound.{upper}
use Rattle.subtrees.specs.Connected.{ConnectedSet}
use Rattle.subtrees.proofs.HandDown.{attained}
use Rattle.subtrees.specs.Problem.{Instance, Mapping, weight_of, Solved, Bounding}
use Rattle.subtrees.specs.Quick.{FoundRooting}
use Rattle.subtrees.specs.Rooted.{inner, total}
use Rattle.subtrees.specs.WeightLaws.{⊑_trans, none≢some, above_some, greatest_default, greatest_at, greatest_is}

-- the numbers below n
abbrev all : ℕ → List ℕ
all n = below (λ u. true) n

mem_all : (n x : ℕ) → x < n → T (mem x (all n))
mem_all n x l = below_mem (λ u. true) n x l refl

all_mem : (n x : ℕ) → T (mem x (all n)) → x < n
all_mem n x t = (mem_below (λ u. true) n x t).0

unfoldable pub largest_w : Instance → (ℕ → ℕ → ℕ → Weight) → Weight
largest_w P val = greatest (all P.n) (λ u. greatest (all P.m) (λ v. val u v v) none) (some (pos 0))

pub largest_bounds : (P : Instance) (val : ℕ → ℕ → ℕ → Weight) → Bounding P val → (on : ℕ → Bool) (to : ℕ → ℕ) → Mapping P on to → some (weight_of P on to) ⊑ largest_w P val
unfolding largest_w
largest_bounds P val B on to M = ⊎_elim
    (λ h. ⊑_trans (some (weight_of P on to)) (some (pos 0)) (largest_w P val) h (greatest_default (all P.n) (λ u. greatest (all P.m) (λ v. val u v v) none) (some (pos 0))))
    (λ q. ⊑_trans (some (weight_of P on to)) (val q.0 (to q.0) (to q.0)) (largest_w P val) q.3
    (⊑_trans (val q.0 (to q.0) (to q.0)) (greatest (all P.m) (λ v. val q.0 v v) none) (largest_w P val)
    (greatest_at (all P.m) (λ v. val q.0 v v) none (to q.0) (mem_all P.m (to q.0) q.2))
    (greatest_at (all P.n) (λ u. greatest (all P.m) (λ v. val u v v) none) (some (pos 0)) q.0 (mem_all P.n q.0 q.1))))
    (upper P val B on to M)

pub empty : (P : Instance) → Mapping P (λ u. false) (λ u. 0)
unfolding inner ConnectedSet
empty P = record {
  inside = λ u l o. absurd o;
  apart = λ u x l k o. absurd o;
  joins = λ u x l k o. absurd o;
  vertices = λ u l o. absurd o;
  edges = λ c l i. absurd i;
  connected = λ x y l o. absurd o;
}

pub empty_weight : (P : Instance) → weight_of P (λ u. false) (λ u. 0) ≡ pos 0
unfolding weight_of total inner
empty_weight P = rw (sumℤ_zero P.n)

pub largest_attained : (P : Instance) (val : ℕ → ℕ → ℕ → Weight) → Solved P val → (fpar fdep : ℕ → ℕ) → FoundRooting P fpar fdep →
    (on : ℕ → Bool) × (to : ℕ → ℕ) × Mapping P on to × (largest_w P val ≡ some (weight_of P on to))
unfolding largest_w
largest_attained P val S fpar fdep F = ⊎_elim
    (λ e. (λ u. false, λ u. 0, empty P, e ∙ ap some (sym (empty_weight P))))
    (λ q. ⊎_elim
    (λ e. absurd (none≢some z.0 (sym (q.2 ∙ e) ∙ z.1)))
    (λ r. let a = attained P val S q.0 r.0 (all_mem P.n q.0 q.1) (all_mem P.m r.0 r.1) z.0 (sym (q.2 ∙ r.2) ∙ z.1) fpar fdep F in
    (a.0, a.1, a.2, z.1 ∙ ap some (sym a.3)))
    (greatest_is (all P.m) (λ v. val q.0 v v) none))
    (greatest_is (all P.n) (λ u. greatest (all P.m) (λ v. val u v v) none) (some (pos 0)))
  where
    z : (y : ℤ) × (largest_w P val ≡ some y)
    z = above_some (pos 0) (largest_w P val) (greatest_default (all P.n) (λ u. greatest (all P.m) (λ v. val u v v) none) (some (pos 0)))
