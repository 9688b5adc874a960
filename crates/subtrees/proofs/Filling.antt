-- The values as work numbers in the paper's order: filling any work leaves them, and the numbers before a position decide the rest.
-- Assumes nothing.
use Rattle.std.specs.Prelude.{◌≡◌, ◌⊎◌, ◌≢◌, false, ℤ, neg_ℤ, ◌≤ℤ◌, length, take}
use Rattle.std.proofs.Math.Path.{refl, sym, ap, subst}
use Rattle.std.proofs.Common.{◌∙◌, ⊎_elim, zero-add, add-suc, length-set, take-append-drop, get_or-set_other, take_all}
use Rattle.std.proofs.Math.Logic.{inl, inr}
use mathlib.Core.List.{List, ◌++◌}
use Prim.Native.Nat.{ℕ, zero, suc, ◌+◌, ◌≤◌, ◌<◌}
use native.Mathlib.Omega.{arith}
use Rattle.std.proofs.Math.Nat.{add-zero}
use Rattle.std.proofs.Math.IntN.{pos}
use Rattle.std.proofs.Math.Dec.{T}
use Rattle.std.proofs.Math.ListN.{get_or, drop, get_or-append}
use Rattle.foundations.specs.Int.{int, le_lt_z}
use Rattle.foundations.specs.Lists.{tab, length_tab, get_d_tab, tab_more}
use Rattle.foundations.specs.Members.{mem, mem_there, del, del_mem}
use Rattle.foundations.specs.Lists.{take_tab}
use Rattle.model.specs.Graph.{neighbours}
use Rattle.model.specs.Limits.{weight_limit, forbidden, ceiling}
use Rattle.model.specs.Order.{children, subproblems, index, u_at, v_at, s_at}
use Rattle.model.specs.Pairs.{vertex_pair, edge_pair}
use Rattle.model.specs.Values.{best, branch, value_from, Subproblem, Solves, value, number, value_at, values, recalled, clipped, solve_at, solve, fill}
use Rattle.model.specs.Weights.{is_forbidden, Weight, none, some, weighed, plus_w, stored}
use Rattle.trees.specs.Positions.{Sub, index_low, index_child, index_once, sub_at}
use Rattle.trees.specs.Rooted.{child_of_lem}
use Rattle.formats.specs.Inputs.{Accepted}
use Rattle.subtrees.specs.Accepted.{recorded_tree, found_tree}
use Rattle.subtrees.specs.Matching.{best_ext}
use Rattle.subtrees.proofs.Optimal.{value_solves}
use Rattle.subtrees.specs.Trees.{IsTree, joined_swap, joined_mem, mem_joined}
use Rattle.subtrees.proofs.ValueRange.{not_forbidden, value_range, value_forbidden}
use Rattle.subtrees.specs.WeightLaws.{none≢some}

-- ---- over any bytes and any work

pub length_fill : (table r f : List ℕ) (work : List ℤ) (k c : ℕ) → length (fill table r f work k c) ≡ length work
unfolding fill
length_fill table r f work k zero = refl
length_fill table r f work k (suc c) = length-set (fill table r f work k c) (k + c) _ ∙ length_fill table r f work k c

-- what is not due stays
pub fill_keeps : (table r f : List ℕ) (work : List ℤ) (k c i : ℕ) → (i < k) ⊎ (k + c ≤ i) → get_or (fill table r f work k c) i (pos 0) ≡ get_or work i (pos 0)
unfolding fill
fill_keeps table r f work k zero i h = refl
fill_keeps table r f work k (suc c) i h =
    get_or-set_other (fill table r f work k c) (k + c) i _ (pos 0) (λ e. ⊎_elim (λ a. before a e) (λ a. after a e) h)
    ∙ fill_keeps table r f work k c i (⊎_elim inl (λ a. inr (less a)) h)
  where
    before : i < k → i ≡ k + c → ⊥
    before a e = omega arith

    after : k + suc c ≤ i → i ≡ k + c → ⊥
    after a e = omega arith

    less : k + suc c ≤ i → k + c ≤ i
    less a = omega arith

-- two slices are one
pub fill_more : (table r f : List ℕ) (work : List ℤ) (k c d : ℕ) → fill table r f (fill table r f work k c) (k + c) d ≡ fill table r f work k (c + d)
unfolding fill
fill_more table r f work k c zero = rw add-zero
fill_more table r f work k c (suc d) =
    let e : k + c + d ≡ k + (c + d) = omega arith in
    rw (add-suc, fill_more table r f work k c d, e)

-- ---- what a work number says

weighed_number : (x : Weight) → ((z : ℤ) → x ≡ some z → is_forbidden z ≡ false) → weighed (number x) ≡ x
unfolding weighed number is_forbidden
weighed_number none h = refl
weighed_number (some z) h = rw (h z refl)

-- what is not above the ceiling is stored as it is
clipped_number : (x : Weight) → ((z : ℤ) → x ≡ some z → z ≤ℤ pos ceiling) → clipped x ≡ number x
unfolding clipped number
clipped_number none h = refl
clipped_number (some z) h = let q : z ≤ℤ pos ceiling = h z refl in rw (le_lt_z (pos ceiling) z (omega int))

-- the sum that code makes: weight and a natural total
pub clipped_stored : (w : ℤ) (total : ℕ) → clipped (plus_w (some w) (some (pos total))) ≡ stored w total
unfolding clipped stored
clipped_stored w total = refl

-- one subproblem over any work, as code finds it
pub solve_forbidden : (table r f : List ℕ) (work : List ℤ) (u v s : ℕ) → vertex_pair table r f u v ≡ none → solve_at table r f work u v s ≡ forbidden
unfolding solve_at value_from clipped
solve_forbidden table r f work u v s e = rw e

pub solve_stored : (table r f : List ℕ) (work : List ℤ) (u v s : ℕ) (w : ℤ) (total : ℕ) → vertex_pair table r f u v ≡ some w → best (branch table r f (recalled r f work) u v) (children r u) (del s (neighbours f v)) ≡ some (pos total) → solve_at table r f work u v s ≡ stored w total
unfolding solve_at value_from
solve_stored table r f work u v s w total e b = rw (e, b) (clipped_stored w total)

-- the first k work numbers are the values
unfoldable pub Right : List ℕ → List ℕ → List ℕ → List ℤ → ℕ → Type 0
Right table r f work k = (i : ℕ) → i < k → get_or work i (pos 0) ≡ value_at table r f i

module _ (table r f : List ℕ) (A : Accepted table r f) where
  abbrev tr : IsTree r
  tr = recorded_tree A

  abbrev tf : IsTree f
  tf = found_tree A

  -- subproblem k and (u, v, s)
  sub_of : (k u v s : ℕ) → Sub r f k u v s → Subproblem r f u v s
  sub_of k u v s q = record { u_low = q.u_low; v_low = q.v_low; s_in = q.s_in }

  pub sub_here : (k : ℕ) → k < subproblems r f → Sub r f k (u_at r f k) (v_at f k) (s_at f k)
  sub_here k l = sub_at r f tr.ends tr.loopless tf.ends tf.loopless k l

  pub index_low_at : (u v s : ℕ) → Subproblem r f u v s → index r f u v s < subproblems r f
  index_low_at u v s q = index_low r f tr.ends tr.loopless tf.ends tf.loopless u v s q.u_low q.v_low q.s_in

  -- the number of (u, v, s) leads back to it
  pub value_at_lem : (u v s : ℕ) → Subproblem r f u v s → value_at table r f (index r f u v s) ≡ number (value table r f u v s)
  unfolding value_at
  value_at_lem u v s q =
      let k = index r f u v s in
      let S : Sub r f k u v s = record { here = refl; u_low = q.u_low; v_low = q.v_low; s_in = q.s_in } in
      let e = index_once r f tr.ends tr.loopless tf.ends tf.loopless k (u_at r f k) (v_at f k) (s_at f k) u v s (sub_here k (index_low_at u v s q)) S in
      same_value e.0 e.1 e.2
    where
      same_value : {u v s u' v' s' : ℕ} → u ≡ u' → v ≡ v' → s ≡ s' → number (value table r f u v s) ≡ number (value table r f u' v' s')
      same_value a b c = rw (a, b, c)

  pub right_recalled : (work : List ℤ) (k : ℕ) → Right table r f work k → (u v s : ℕ) → Subproblem r f u v s → index r f u v s < k → recalled r f work u v s ≡ value table r f u v s
  unfolding recalled Right
  right_recalled work k R u v s q l =
      ap weighed (R (index r f u v s) l ∙ value_at_lem u v s q)
      ∙ weighed_number (value table r f u v s) (λ z e. not_forbidden z (value_range table r f A u v s q z e).0)

  -- the pair behind a branch is a subproblem with v as its s
  pub branch_sub : (u v s : ℕ) → Subproblem r f u v s → (c x : ℕ) → T (mem c (children r u)) → T (mem x (del s (neighbours f v))) → Subproblem r f c x v
  branch_sub u v s q c x tc tx =
      let h = child_of_lem r tr.ends tr.loopless u c q.u_low tc in
      let n = mem_joined f tf v x (del_mem x s (neighbours f v) tx).0 in
      record { u_low = h.0; v_low = n.0; s_in = mem_there v x (neighbours f x) (joined_mem f tf x v (joined_swap f tf v x n.1)) }

  -- one subproblem from right numbers
  pub right_solve : (work : List ℤ) (k : ℕ) → k < subproblems r f → Right table r f work k → solve table r f work k ≡ value_at table r f k
  unfolding solve solve_at value_from value_at
  right_solve work k l R =
      let u = u_at r f k in
      let v = v_at f k in
      let s = s_at f k in
      let S = sub_here k l in
      let q = sub_of k u v s S in
      ap clipped (ap (plus_w (vertex_pair table r f u v)) (best_ext (branch table r f (recalled r f work) u v) (branch table r f (value table r f) u v) (children r u) (del s (neighbours f v)) (alike u v s S q)) ∙ sym (value_solves table r f tr tf u v s q))
      ∙ clipped_number (value table r f u v s) (λ z e. (value_range table r f A u v s q z e).1)
    where
      alike : (u v s : ℕ) → Sub r f k u v s → Subproblem r f u v s → (c x : ℕ) → T (mem c (children r u)) → T (mem x (del s (neighbours f v))) → branch table r f (recalled r f work) u v c x ≡ branch table r f (value table r f) u v c x
      alike u v s S q c x tc tx =
          let h = child_of_lem r tr.ends tr.loopless u c q.u_low tc in
          let b = branch_sub u v s q c x tc tx in
          let i : index r f c x v < k = subst (λ (j : ℕ). index r f c x v < j) S.here (index_child r f tr.ends tr.loopless tf.ends tf.loopless c x v u v s h.0 h.1 h.2 b.v_low b.s_in) in
          ap (plus_w (edge_pair table r f u c v x)) (right_recalled work k R c x v b i)

  -- ---- as lists

  pub values_long : length (values table r f) ≡ subproblems r f
  unfolding values
  values_long = length_tab (value_at table r f) (subproblems r f)

  right_list : (work : List ℤ) (k : ℕ) (rest : List ℤ) → work ≡ tab (value_at table r f) k ++ rest → Right table r f work k
  unfolding Right
  right_list work k rest e i l = ap (λ (w : List ℤ). get_or w i (pos 0)) e ∙ get_or-append (tab (value_at table r f) k) rest (pos 0) i (rw length_tab l) ∙ get_d_tab (value_at table r f) k i (pos 0) l

  fill_tab : (work : List ℤ) (k c : ℕ) → k + c ≤ subproblems r f → subproblems r f ≤ length work → work ≡ tab (value_at table r f) k ++ drop k work → fill table r f work k c ≡ tab (value_at table r f) (k + c) ++ drop (k + c) work
  unfolding fill
  fill_tab work k zero h long e = rw add-zero e
  fill_tab work k (suc c) h long e =
      let now : fill table r f work k c ≡ tab (value_at table r f) (k + c) ++ drop (k + c) work = fill_tab work k c (omega arith) long e in
      let step : k + suc c ≡ k + c + 1 = omega arith in
      let new = right_solve (fill table r f work k c) (k + c) (omega arith) (right_list (fill table r f work k c) (k + c) (drop (k + c) work) now) in
      rw (new, now, step) (tab_more (value_at table r f) work (k + c) (omega arith))

  -- the numbers before a position decide the rest
  pub fill_right : (work : List ℤ) (k c : ℕ) → k + c ≤ subproblems r f → subproblems r f ≤ length work → take k work ≡ take k (values table r f) → fill table r f work k c ≡ take (k + c) (values table r f) ++ drop (k + c) work
  unfolding values
  fill_right work k c h long e =
      fill_tab work k c h long (sym (take-append-drop k work) ∙ ap (λ (w : List ℤ). w ++ drop k work) (e ∙ take_tab (value_at table r f) k (subproblems r f) (omega arith)))
      ∙ ap (λ (w : List ℤ). w ++ drop (k + c) work) (sym (take_tab (value_at table r f) (k + c) (subproblems r f) h))

  -- from any work: all values in order, then what was there
  pub fill_all : (work : List ℤ) → subproblems r f ≤ length work → fill table r f work 0 (subproblems r f) ≡ values table r f ++ drop (subproblems r f) work
  fill_all work long =
      fill_right work 0 (subproblems r f) (omega arith) long refl
      ∙ rw (zero-add, take_all (subproblems r f) (values table r f) (rw values_long (omega arith)))

  -- work that begins with the values solves every subproblem
  pub recalled_values : (rest : List ℤ) (u v s : ℕ) → Subproblem r f u v s → recalled r f (values table r f ++ rest) u v s ≡ value table r f u v s
  unfolding values
  recalled_values rest u v s q = right_recalled (tab (value_at table r f) (subproblems r f) ++ rest) (subproblems r f) (right_list _ (subproblems r f) rest refl) u v s q (index_low_at u v s q)

  pub recalled_solves : (rest : List ℤ) → Solves table r f (recalled r f (values table r f ++ rest))
  unfolding value_from
  recalled_solves rest u v s q =
      recalled_values rest u v s q
      ∙ value_solves table r f tr tf u v s q
      ∙ ap (plus_w (vertex_pair table r f u v)) (best_ext (branch table r f (value table r f) u v) (branch table r f (recalled r f (values table r f ++ rest)) u v) (children r u) (del s (neighbours f v))
      (λ c x tc tx. let b = branch_sub u v s q c x tc tx in ap (plus_w (edge_pair table r f u c v x)) (sym (recalled_values rest c x v b))))

  -- each value as a number: forbidden with its pair, in range else
  pub value_number : (u v s : ℕ) → Subproblem r f u v s → ((vertex_pair table r f u v ≡ none) × (number (value table r f u v s) ≡ forbidden)) ⊎ ((vertex_pair table r f u v ≢ none) × (neg_ℤ (pos weight_limit) ≤ℤ number (value table r f u v s)) × (number (value table r f u v s) ≤ℤ pos ceiling))
  unfolding number
  value_number u v s q = go (value table r f u v s) refl
    where
      go : (x : Weight) → value table r f u v s ≡ x → ((vertex_pair table r f u v ≡ none) × (number (value table r f u v s) ≡ forbidden)) ⊎ ((vertex_pair table r f u v ≢ none) × (neg_ℤ (pos weight_limit) ≤ℤ number (value table r f u v s)) × (number (value table r f u v s) ≤ℤ pos ceiling))
      go none e = inl ((value_forbidden table r f A u v s q).0 e, ap number e)
      go (some z) e =
          let h = value_range table r f A u v s q z e in
          inr (λ n. none≢some z (sym ((value_forbidden table r f A u v s q).1 n) ∙ e), rw e h.0, rw e h.1)

  pub values_at : (k : ℕ) → k < subproblems r f → get_or (values table r f) k (pos 0) ≡ number (value table r f (u_at r f k) (v_at f k) (s_at f k))
  unfolding values value_at
  values_at k l = get_d_tab (value_at table r f) (subproblems r f) k (pos 0) l

  pub values_in_range : (k : ℕ) → k < subproblems r f → ((vertex_pair table r f (u_at r f k) (v_at f k) ≡ none) × (get_or (values table r f) k (pos 0) ≡ forbidden)) ⊎ ((vertex_pair table r f (u_at r f k) (v_at f k) ≢ none) × (neg_ℤ (pos weight_limit) ≤ℤ get_or (values table r f) k (pos 0)) × (get_or (values table r f) k (pos 0) ≤ℤ pos ceiling))
  values_in_range k l = rw (values_at k l) (value_number (u_at r f k) (v_at f k) (s_at f k) (sub_of k (u_at r f k) (v_at f k) (s_at f k) (sub_here k l)))

  pub value_clipped : (u v s : ℕ) → Subproblem r f u v s → clipped (value table r f u v s) ≡ number (value table r f u v s)
  value_clipped u v s q = clipped_number (value table r f u v s) (λ z e. (value_range table r f A u v s q z e).1)
