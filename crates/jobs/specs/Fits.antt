-- Item 16: work numbers that it lets pass are forbidden where the pair is, and the values pass it. Assumes nothing.
use Rattle.std.specs.Prelude.{◌≡◌, refl, ◌≢◌, List, ℕ, ◌≤◌, ◌<◌, get_or, ℤ, pos, neg_ℤ, ◌≤ℤ◌}
use Rattle.std.proofs.Common.{subst, arith, ltb-false}
use Rattle.std.proofs.Math.Logic.{⊎_elim}
use Rattle.std.proofs.Math.Bool.{true}
use Rattle.std.specs.Int.Signed.{le_z}
use Rattle.foundations.specs.Lists.{every_at, every_all}
use Rattle.foundations.specs.Tests.{T→true}
use Rattle.model.specs.Limits.{weight_limit, ceiling}
use Rattle.model.specs.Weights.{Weight, none, some, is_forbidden, weighed}
use Rattle.model.specs.Calls.{input_item}
use Rattle.model.specs.Order.{subproblems, index, u_at, v_at, s_at}
use Rattle.model.specs.Pairs.{vertex_pair}
use Rattle.model.specs.Values.{recalled, values}
use Rattle.model.specs.declared.JobRecord.{JobRecord}
use Rattle.model.specs.Jobs.{number_ok, work_ok, is_left, finish_item}
use Rattle.trees.specs.Positions.{Sub, index_once}
use Rattle.formats.specs.Inputs.{Accepted, input_accepted}
use Rattle.subtrees.specs.Accepted.{recorded_tree, found_tree}
use Rattle.subtrees.proofs.Filling.{sub_here, index_low_at}
use Rattle.subtrees.proofs.Theorems.{values_range}
use Rattle.subtrees.specs.Trees.{IsTree}
use Rattle.readout.specs.Read.{WorkFits}
use Rattle.job_items.specs.Items.{early_passed, advance_passed, finish_passed}

-- a number that passes at a forbidden pair says so
forbidden_number : (z : ℤ) → number_ok none z ≡ true → weighed z ≡ none
unfolding number_ok weighed
forbidden_number z h = rw h

-- a number in range passes at an allowed pair
allowed_number : (w : Weight) (z : ℤ) → w ≢ none → neg_ℤ (pos weight_limit) ≤ℤ z → z ≤ℤ pos ceiling → number_ok w z ≡ true
unfolding number_ok
allowed_number none z n a b = absurd (n refl)
allowed_number (some x) z n a b = rw (T→true (le_z (neg_ℤ (pos weight_limit)) z) a.le, T→true (le_z z (pos ceiling)) b.le)

module _ (table r f : List ℕ) (passes : input_item table r f ≡ 0) (work : List ℤ) where
  A : Accepted table r f
  A = input_accepted table r f passes

  -- all of them tested
  pub work_fits : work_ok table r f work (subproblems r f) ≡ true → WorkFits table r f work
  unfolding work_ok recalled
  work_fits h u v s q e =
      let tr : IsTree r = recorded_tree A in
      let tf : IsTree f = found_tree A in
      let k = index r f u v s in
      let low = index_low_at table r f A u v s q in
      let S : Sub r f k u v s = record { here = refl; u_low = q.u_low; v_low = q.v_low; s_in = q.s_in } in
      let same = index_once r f tr.ends tr.loopless tf.ends tf.loopless k (u_at r f k) (v_at f k) (s_at f k) u v s (sub_here table r f A k low) S in
      let pair : vertex_pair table r f (u_at r f k) (v_at f k) ≡ none = at_same same.0 same.1 e in
      forbidden_number (get_or work k (pos 0)) (subst (λ (w : Weight). number_ok w (get_or work k (pos 0)) ≡ true) pair (every_at (λ i. number_ok (vertex_pair table r f (u_at r f i) (v_at f i)) (get_or work i (pos 0))) k (subproblems r f) h low))
    where
      at_same : {a b c d : ℕ} → a ≡ c → b ≡ d → vertex_pair table r f c d ≡ none → vertex_pair table r f a b ≡ none
      at_same p q g = rw (p, q) g

  -- the values pass
  pub values_pass : (p : ℕ) → p ≤ subproblems r f → ((k : ℕ) → k < p → get_or work k (pos 0) ≡ get_or (values table r f) k (pos 0)) → work_ok table r f work p ≡ true
  unfolding work_ok number_ok is_forbidden
  values_pass p l same = every_all (λ k. number_ok (vertex_pair table r f (u_at r f k) (v_at f k)) (get_or work k (pos 0))) p (λ k h. one k h (omega arith))
    where
      one : (k : ℕ) → k < p → k < subproblems r f → number_ok (vertex_pair table r f (u_at r f k) (v_at f k)) (get_or work k (pos 0)) ≡ true
      one k h low = ⊎_elim
          (λ e. rw (e.0, same k h, e.1))
          (λ e. rw (same k h) (allowed_number (vertex_pair table r f (u_at r f k) (v_at f k)) (get_or (values table r f) k (pos 0)) e.0 e.1 e.2))
          (values_range table r f passes k low)

-- where no item refuses a finish, every work number was tested
pub finish_fits : (table r f : List ℕ) (work : List ℤ) (j : JobRecord) (mapping : List ℕ) → finish_item j table r f work mapping ≡ 0 → WorkFits table r f work
unfolding is_left
finish_fits table r f work j mapping h =
    let p = finish_passed table r f work j mapping h in
    let a = advance_passed table r f work j p.0 in
    let e = early_passed table r f work j a.0 in
    let most : j.position ≤ subproblems r f = e.4 in
    let all : subproblems r f ≤ j.position = ltb-false j.position (subproblems r f) p.1 in
    let same : j.position ≡ subproblems r f = omega arith in
    work_fits table r f e.0 work (subst (λ (k : ℕ). work_ok table r f work k ≡ true) same a.1)
