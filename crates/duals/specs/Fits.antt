-- Work numbers that are the values: what duals over them add up to, and that each fits. Assumes nothing.
use Rattle.std.specs.Prelude.{◌≡◌, refl, List, ◌++◌, ℕ, zero, suc, ◌+◌, ◌≤◌, ◌<◌, length, get_or, take, drop, ℤ, pos, ◌+ℤ◌}
use Rattle.std.proofs.Common.{sym, ap, ◌∙◌, subst, ⊎_elim, arith, take-append-drop}
use Rattle.std.proofs.Math.ListN.{get_or-append}
use Rattle.foundations.specs.Int.{int}
use Rattle.foundations.specs.Sums.{sum}
use Rattle.foundations.specs.Tests.{same?}
use Rattle.model.specs.Limits.{dual_limit}
use Rattle.model.specs.Weights.{Weight, none, some}
use Rattle.model.specs.Graph.{neighbours}
use Rattle.model.specs.Order.{children, subproblems, u_at, v_at, s_at}
use Rattle.model.specs.Pairs.{vertex_pair}
use Rattle.model.specs.Values.{Subproblem, value, value_from, values, number, recalled}
use Rattle.model.specs.Calls.{input_item}
use Rattle.formats.specs.Inputs.{input_accepted}
use Rattle.subtrees.proofs.Filling.{values_long, values_at, recalled_values}
use Rattle.subtrees.proofs.Theorems.{work_solves}
use Rattle.subtrees.proofs.ValueRange.{value_range, vertex_range}
use Rattle.duals.specs.Left.{DualsAt}

-- no term is more than the sum
term_most : (n i : ℕ) (g : ℕ → ℕ) → i < n → g i ≤ sum n g
unfolding sum
term_most zero i g h = absurd (omega arith)
term_most (suc n) i g h = ⊎_elim (λ e. rw e (omega arith)) (λ e. let q = term_most n i g (omega arith) in omega arith) (same? i n)

module _ (table r f : List ℕ) (passes : input_item table r f ≡ 0) (work : List ℤ) (right : take (subproblems r f) work ≡ values table r f) where
  work_is : values table r f ++ drop (subproblems r f) work ≡ work
  work_is = ap (λ (x : List ℤ). x ++ drop (subproblems r f) work) (sym right) ∙ take-append-drop (subproblems r f) work

  -- each work number is its subproblem's value, and follows from the others
  pub work_recalls : (u v s : ℕ) → Subproblem r f u v s → recalled r f work u v s ≡ value table r f u v s
  work_recalls u v s q = subst (λ (x : List ℤ). recalled r f x u v s ≡ value table r f u v s) work_is (recalled_values table r f (input_accepted table r f passes) (drop (subproblems r f) work) u v s q)

  pub work_value : (u v s : ℕ) → Subproblem r f u v s → value table r f u v s ≡ value_from table r f (recalled r f work) u v s
  work_value u v s q =
      sym (work_recalls u v s q)
      ∙ subst (λ (x : List ℤ). recalled r f x u v s ≡ value_from table r f (recalled r f x) u v s) work_is (work_solves table r f passes (drop (subproblems r f) work) u v s q)

  pub work_at : (k : ℕ) → k < subproblems r f → get_or work k (pos 0) ≡ number (value table r f (u_at r f k) (v_at f k) (s_at f k))
  work_at k l =
      let A = input_accepted table r f passes in
      ap (λ (x : List ℤ). get_or x k (pos 0)) (sym work_is)
      ∙ get_or-append (values table r f) (drop (subproblems r f) work) (pos 0) k (rw (values_long table r f A) l)
      ∙ values_at table r f A k l

  -- the value is the weight of the pair plus all duals
  pub duals_value : (u v s : ℕ) (y z : List ℕ) → DualsAt table r f work u v s y z → Subproblem r f u v s → (w : ℤ) → vertex_pair table r f u v ≡ some w → value table r f u v s ≡ some (w +ℤ pos (sum (length (children r u)) (λ i. get_or y i 0) + sum (length (neighbours f v)) (λ j. get_or z j 0)))
  duals_value u v s y z D q w e = work_value u v s q ∙ D.total w e

-- the value is at most the ceiling, and the weight at least the least weight
pub dual_fits : (table r f : List ℕ) (work : List ℤ) (u v s : ℕ) (y z : List ℕ) → DualsAt table r f work u v s y z → Subproblem r f u v s → input_item table r f ≡ 0 → take (subproblems r f) work ≡ values table r f →
    ((i : ℕ) → i < length (children r u) → get_or y i 0 ≤ dual_limit) × ((j : ℕ) → j < length (neighbours f v) → get_or z j 0 ≤ dual_limit)
dual_fits table r f work u v s y z D q passes right = go (vertex_pair table r f u v) refl
  where
    go : (x : Weight) → vertex_pair table r f u v ≡ x → ((i : ℕ) → i < length (children r u) → get_or y i 0 ≤ dual_limit) × ((j : ℕ) → j < length (neighbours f v) → get_or z j 0 ≤ dual_limit)
    go none e = (λ i h. let a = (D.zeros e).0 i h in omega arith, λ j h. let a = (D.zeros e).1 j h in omega arith)
    go (some w) e =
        let A = input_accepted table r f passes in
        let S = sum (length (children r u)) (λ i. get_or y i 0) in
        let Z = sum (length (neighbours f v)) (λ j. get_or z j 0) in
        let high = (value_range table r f A u v s q _ (duals_value table r f passes work right u v s y z D q w e)).1 in
        let low = (vertex_range table r f A u v q.u_low q.v_low w e).0 in
        let all : S + Z ≤ dual_limit = omega int in
        (λ i h. let a = term_most (length (children r u)) i (λ i. get_or y i 0) h in omega arith, λ j h. let a = term_most (length (neighbours f v)) j (λ j. get_or z j 0) h in omega arith)
