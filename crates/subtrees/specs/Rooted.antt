-- A rooted tree, and sums over a set of its vertices: each vertex but the root is in exactly one list of children. Assumes nothing.
use Rattle.std.specs.Prelude.{◌≡◌, refl, ◌≢◌, Bool, true, false, not, ◌&&◌, List, ℕ, ◌<◌, ℤ, ◌+ℤ◌, T, eqb, ◌≤ℤ◌}
use Rattle.std.proofs.Math.Path.{sym, ap}
use Rattle.std.proofs.Common.{◌∙◌, subst}
use Rattle.std.proofs.Math.Logic.{⊎_elim}
use Rattle.std.proofs.Math.IntN.{pos, +ℤ_idl, +ℤ_idr, +ℤ_assoc}
use Rattle.foundations.specs.Int.{int}
use Rattle.foundations.specs.Members.{mem, Distinct, below_of, lsum_sumℤ}
use Rattle.foundations.specs.Sums.{pick_zero}
use Rattle.foundations.specs.Sums.{pick, pick_comm, pick_and, pick_add, pick_le, pick_eq, sumℤ, sumℤ_ext, sumℤ_le, sumℤ_add, sumℤ_zero, sumℤ_swap, pick_sumℤ, sumℤ_one, lsum}
use Rattle.foundations.specs.Tests.{same, T→true, not_T→false, and_false}

-- a tree of n vertices, rooted at 0
pub record RootedTree (n : ℕ) (children : ℕ → List ℕ) (parent depth : ℕ → ℕ) : Type 0 where
  pub up : (c : ℕ) → c < n → c ≢ 0 → (parent c < n) × (depth (parent c) < depth c)
  pub child : (u c : ℕ) → u < n → T (mem c (children u)) → (c < n) × (c ≢ 0) × (parent c ≡ u)
  pub child_of_lem : (c : ℕ) → c < n → c ≢ 0 → T (mem c (children (parent c)))
  pub once : (u : ℕ) → Distinct (children u)

-- c and its parent are in the set; u is in the set and its parent is not
unfoldable pub inner : (ℕ → ℕ) → (ℕ → Bool) → ℕ → Bool
inner parent on c = on c && (not (eqb c 0) && on (parent c))

unfoldable pub top : (ℕ → ℕ) → (ℕ → Bool) → ℕ → Bool
top parent on c = on c && not (not (eqb c 0) && on (parent c))

-- the total of a set: w over its vertices, e over its vertices whose parent is in it
unfoldable pub total : ℕ → (ℕ → ℕ) → (ℕ → Bool) → (ℕ → ℤ) → (ℕ → ℤ) → ℤ
total n parent on w e = sumℤ n (λ u. pick (on u) (w u)) +ℤ sumℤ n (λ c. pick (inner parent on c) (e c))

-- the set is its tops and the rest
pub split : (n : ℕ) (parent : ℕ → ℕ) (on : ℕ → Bool) (X : ℕ → ℤ) → sumℤ n (λ u. pick (on u) (X u)) ≡ sumℤ n (λ u. pick (inner parent on u) (X u)) +ℤ sumℤ n (λ u. pick (top parent on u) (X u))
unfolding inner top
split n parent on X = sumℤ_ext n _ _ (λ u h. cut (on u) (not (eqb u 0) && on (parent u)) (X u)) ∙ sumℤ_add n _ _
  where
    cut : (a b : Bool) (z : ℤ) → pick a z ≡ pick (a && b) z +ℤ pick (a && not b) z
    cut true true z = sym (+ℤ_idr z)
    cut true false z = sym (+ℤ_idl z)
    cut false b z = refl

module _ (n : ℕ) (children : ℕ → List ℕ) (parent depth : ℕ → ℕ) (R : RootedTree n children parent depth) (on : ℕ → Bool) where
  pub lsum_children : (u : ℕ) → u < n → (f : ℕ → ℤ) → lsum (children u) f ≡ sumℤ n (λ c. pick (mem c (children u)) (f c))
  lsum_children u h f = lsum_sumℤ n (children u) f (R.once u) (below_of n (children u) (λ x t. (R.child u x h t).0))

  mem_child : (u c : ℕ) → u < n → c < n → c ≢ 0 → mem c (children u) ≡ eqb (parent c) u
  mem_child u c h k z = ⊎_elim
      (λ e. T→true _ (subst (λ (x : ℕ). T (mem c (children x))) e.0 (R.child_of_lem c k z)) ∙ sym e.1)
      (λ e. not_T→false _ (λ t. e.0 (R.child u c h t).2) ∙ sym e.1)
      (same (parent c) u)

  -- the terms of one c: it is a child of its parent alone
  column : (g : ℕ → ℤ) (c : ℕ) → c < n → sumℤ n (λ u. pick (on u) (pick (mem c (children u)) (pick (on c) (g c)))) ≡ pick (inner parent on c) (g c)
  unfolding inner
  column g c h = ⊎_elim
      (λ e. sumℤ_ext n _ (λ u. pos 0) (λ u k. rw (not_T→false (mem c (children u)) (λ t. (R.child u c k t).1 e.0)) (pick_zero (on u))) ∙ sumℤ_zero n ∙ rw (e.1, and_false (on c)))
      (λ e. sumℤ_ext n _ (λ u. pick (eqb (parent c) u) (pick (on u) (pick (on c) (g c)))) (λ u k. rw (mem_child u c k h e.0) (pick_comm (on u) (eqb (parent c) u) (pick (on c) (g c))))
      ∙ sumℤ_one n (parent c) (λ u. pick (on u) (pick (on c) (g c))) (R.up c h e.0).0
      ∙ rw e.1 (pick_comm (on (parent c)) (on c) (g c) ∙ sym (pick_and (on c) (on (parent c)) (g c))))
      (same c 0)

  -- sums over children, over all vertices of the set
  pub children_sum : (g : ℕ → ℤ) → sumℤ n (λ u. pick (on u) (lsum (children u) (λ c. pick (on c) (g c)))) ≡ sumℤ n (λ c. pick (inner parent on c) (g c))
  children_sum g =
      sumℤ_ext n _ _ (λ u h. ap (pick (on u)) (lsum_children u h (λ c. pick (on c) (g c))) ∙ pick_sumℤ (on u) n (λ c. pick (mem c (children u)) (pick (on c) (g c))))
      ∙ sumℤ_swap n n (λ u c. pick (on u) (pick (mem c (children u)) (pick (on c) (g c))))
      ∙ sumℤ_ext n _ _ (column g)

  -- one step below X at each vertex, summed
  pub steps_sum : (w e X : ℕ → ℤ) → sumℤ n (λ u. pick (on u) (w u +ℤ lsum (children u) (λ c. pick (on c) (e c +ℤ X c)))) ≡ total n parent on w e +ℤ sumℤ n (λ c. pick (inner parent on c) (X c))
  unfolding total
  steps_sum w e X =
      sumℤ_ext n _ _ (λ u h. pick_add (on u) (w u) (lsum (children u) (λ c. pick (on c) (e c +ℤ X c))))
      ∙ sumℤ_add n _ _
      ∙ ap (λ (z : ℤ). sumℤ n (λ u. pick (on u) (w u)) +ℤ z) (children_sum (λ c. e c +ℤ X c) ∙ sumℤ_ext n _ _ (λ c h. pick_add (inner parent on c) (e c) (X c)) ∙ sumℤ_add n _ _)
      ∙ sym (+ℤ_assoc (sumℤ n (λ u. pick (on u) (w u))) _ _)

  -- where X is at least one step at each vertex of the set, the total is at most X over the tops
  pub total_le : (w e X : ℕ → ℤ) → ((u : ℕ) → u < n → T (on u) → (w u +ℤ lsum (children u) (λ c. pick (on c) (e c +ℤ X c))) ≤ℤ X u) → total n parent on w e ≤ℤ sumℤ n (λ u. pick (top parent on u) (X u))
  total_le w e X h =
      let a = sumℤ_le n (λ u. pick (on u) (w u +ℤ lsum (children u) (λ c. pick (on c) (e c +ℤ X c)))) (λ u. pick (on u) (X u)) (λ u k. pick_le (on u) _ _ (h u k)) in
      let b = steps_sum w e X in
      let c = split n parent on X in
      omega int

  -- and with equality at each vertex, equal
  pub total_eq : (w e X : ℕ → ℤ) → ((u : ℕ) → u < n → T (on u) → w u +ℤ lsum (children u) (λ c. pick (on c) (e c +ℤ X c)) ≡ X u) → total n parent on w e ≡ sumℤ n (λ u. pick (top parent on u) (X u))
  total_eq w e X h =
      let a = sumℤ_ext n (λ u. pick (on u) (w u +ℤ lsum (children u) (λ c. pick (on c) (e c +ℤ X c)))) (λ u. pick (on u) (X u)) (λ u k. pick_eq (on u) _ _ (h u k)) in
      let b = steps_sum w e X in
      let c = split n parent on X in
      omega int
