-- A certificate that holds a heaviest mapping, the values and duals of every subproblem is accepted. Assumes nothing.
use Rattle.std.specs.Prelude.{◌≡◌, ◌≢◌, List, [], ◌∷◌, ◌++◌, ℕ, zero, suc, ◌+◌, ◌≤◌, ◌<◌, take, T, eqb, ℤ, ◌+ℤ◌}
use Rattle.std.proofs.Math.Path.{refl, ap}
use Rattle.std.proofs.Common.{sym, ◌∙◌, ⊎_elim, arith, take-suc, eq-eqb}
use Rattle.std.proofs.Math.Bool.{true}
use Rattle.std.proofs.Math.ListN.{length, get_or}
use Rattle.std.proofs.Math.IntN.{pos}
use Rattle.std.specs.Int.Signed.{le_z}
use Rattle.foundations.specs.Int.{ints}
use Rattle.foundations.specs.Lists.{every, every_all, tab, tab_ext}
use Rattle.foundations.specs.Members.{mem, mem_here, mem_there, get_d_mem, Distinct, del, del_mem, distinct_del, mem_occ, place, place_low, place_at, lsum_ext, lsum_place}
use Rattle.foundations.specs.Sums.{sum, sumℤ, sumℤ_ext, lsum}
use Rattle.foundations.specs.Tests.{same, and_both}
use Rattle.model.specs.Bytes.{byte_at, is_mark}
use Rattle.model.specs.Weights.{Weight, none, some, weighed, plus_w, is_forbidden}
use Rattle.model.specs.Tree.{count}
use Rattle.model.specs.Graph.{neighbours}
use Rattle.model.specs.Order.{children, subproblems, index, u_at, v_at, s_at}
use Rattle.model.specs.Pairs.{vertex_pair, edge_pair}
use Rattle.model.specs.Mapping.{weight, Heaviest}
use Rattle.model.specs.Values.{branch, value_from, Subproblem, Solves, value, values, number, recalled, largest, answer}
use Rattle.model.specs.Calls.{input_item}
use Rattle.model.specs.Certificate.{head_mark, partner_mark, record_mark, partner_at, certificate_length, others, record_at, weight_in, mapping_in, value_in, child_dual, other_dual, value_of, eq_z, at_most, shape_ok, forbidden_ok, cover_ok, duals_ok, pair_ok, subproblem_ok, check_of}
use Rattle.trees.specs.Neighbours.{once_neighbours}
use Rattle.formats.specs.Inputs.{Accepted, input_accepted}
use Rattle.subtrees.proofs.Filling.{sub_here, index_low_at, branch_sub}
use Rattle.subtrees.specs.Matching.{best_ext}
use Rattle.subtrees.proofs.Theorems.{quick_mapping, solved_answer}
use Rattle.subtrees.proofs.ValueRange.{value_forbidden}
use Rattle.certificate.specs.Items.{check_none}
use Rattle.certificate.specs.Rules.{eq_z_same}
use Rattle.duals.specs.Left.{RecordLeft, FrontLeft}
use Rattle.duals.specs.Fits.{work_at, work_recalls, work_value, duals_value}

-- ---- sums of duals

sum_pos : (n : ℕ) (g : ℕ → ℕ) → sumℤ n (λ i. pos (g i)) ≡ pos (sum n g)
unfolding sum sumℤ
sum_pos zero g = refl
sum_pos (suc n) g = rw (sum_pos n g)

-- the terms of a list by place
sum_list : (l : List ℕ) (b : ℕ → ℤ) → Distinct l → sumℤ (length l) (λ j. b (get_or l j 0)) ≡ lsum l b
sum_list l b d =
    sym (lsum_place l (λ j. b (get_or l j 0)) d)
    ∙ lsum_ext l (λ x. b (get_or l (place x l) 0)) b (λ x t. ap b (place_at x l (mem_occ x l t)))

-- what is left out is 0
del_zero : (s : ℕ) (l : List ℕ) (b : ℕ → ℤ) → (T (mem s l) → b s ≡ pos 0) → lsum (del s l) b ≡ lsum l b
unfolding lsum del
del_zero s [] b h = refl
del_zero s (x ∷ l) b h = ⊎_elim
    (λ e. let z : b x ≡ pos 0 = ap b (sym e.0) ∙ h (rw e.0 (mem_here x l)) in rw (e.1, del_zero s l b (λ t. h (mem_there s x l t)), z) (omega ints))
    (λ e. rw (e.1, del_zero s l b (λ t. h (mem_there s x l t))))
    (same s x)

-- the duals of the others are those of all, since that of s is 0
others_sum : (s : ℕ) (l x : List ℕ) → Distinct l → ((j : ℕ) → j < length l → get_or l j 0 ≡ s → get_or x j 0 ≡ 0) → sumℤ (length (del s l)) (λ j. pos (get_or x (place (get_or (del s l) j 0) l) 0)) ≡ pos (sum (length l) (λ j. get_or x j 0))
others_sum s l x d own =
    sum_list (del s l) (λ c. pos (get_or x (place c l) 0)) (distinct_del s l d)
    ∙ del_zero s l (λ c. pos (get_or x (place c l) 0)) (λ t. ap pos (own (place s l) (place_low s l (mem_occ s l t)) (place_at s l (mem_occ s l t))))
    ∙ lsum_place l (λ j. pos (get_or x j 0)) d
    ∙ sum_pos (length l) (λ j. get_or x j 0)

-- ---- one record

-- the dual of the j-th of the others stands in its place among all
record Other (f : List ℕ) (v s j : ℕ) : Type 0 where
  low : place (get_or (others f v s) j 0) (neighbours f v) < length (neighbours f v)
  is : get_or (neighbours f v) (place (get_or (others f v s) j 0) (neighbours f v)) 0 ≡ get_or (others f v s) j 0
  apart : get_or (neighbours f v) (place (get_or (others f v s) j 0) (neighbours f v)) 0 ≢ s

other_at : (f : List ℕ) (v s j : ℕ) → j < length (others f v s) → Other f v s j
other_at f v s j h =
    let q = del_mem (get_or (others f v s) j 0) s (neighbours f v) (get_d_mem (others f v s) j h) in
    let o = mem_occ (get_or (others f v s) j 0) (neighbours f v) q.0 in
    let e = place_at (get_or (others f v s) j 0) (neighbours f v) o in
    record { low = place_low (get_or (others f v s) j 0) (neighbours f v) o; is = e; apart = λ p. q.1 (sym e ∙ p) }

module _ (table r f : List ℕ) (passes : input_item table r f ≡ 0) (work : List ℤ) (right : take (subproblems r f) work ≡ values table r f) (z : List ℕ) (left : (k : ℕ) → k < subproblems r f → RecordLeft table r f work z k) where
  A : Accepted table r f
  A = input_accepted table r f passes

  sub_at : (k : ℕ) → k < subproblems r f → Subproblem r f (u_at r f k) (v_at f k) (s_at f k)
  sub_at k l = let q = sub_here table r f A k l in record { u_low = q.u_low; v_low = q.v_low; s_in = q.s_in }

  -- the recorded values are the work numbers, and so the values
  value_recalled : (u v s : ℕ) → Subproblem r f u v s → value_of r f z u v s ≡ recalled r f work u v s
  unfolding value_of recalled
  value_recalled u v s q = ap weighed (left (index r f u v s) (index_low_at table r f A u v s q)).value

  -- a forbidden pair
  forbidden_ok_lem : (k : ℕ) → k < subproblems r f → vertex_pair table r f (u_at r f k) (v_at f k) ≡ none → forbidden_ok r f z k (u_at r f k) (v_at f k) (s_at f k) ≡ true
  unfolding forbidden_ok number is_forbidden
  forbidden_ok_lem k l e =
      let L = left k l in
      let v = v_at f k in
      let s = s_at f k in
      let none_is : value table r f (u_at r f k) v s ≡ none = (value_forbidden table r f A (u_at r f k) v s (sub_at k l)).1 e in
      and_both (is_forbidden (value_in r f z k)) _ (ap is_forbidden (L.value ∙ work_at table r f passes work right k l ∙ ap number none_is))
      (and_both (every (λ i. eq_z (child_dual r f z k i) (pos 0)) (length (children r (u_at r f k)))) _
      (every_all (λ i. eq_z (child_dual r f z k i) (pos 0)) (length (children r (u_at r f k))) (λ i h. eq_z_same (child_dual r f z k i) (pos 0) (L.of_child i h ∙ ap pos ((L.duals.zeros e).0 i h))))
      (every_all (λ j. eq_z (other_dual r f z k j) (pos 0)) (length (others f v s)) (λ j h. eq_z_same (other_dual r f z k j) (pos 0) (L.of_other j h ∙ ap pos ((L.duals.zeros e).1 (place (get_or (others f v s) j 0) (neighbours f v)) (other_at f v s j h).low)))))

  -- a pair of branches is covered by its two duals
  cover_ok_lem : (k : ℕ) → k < subproblems r f → (w : ℤ) → vertex_pair table r f (u_at r f k) (v_at f k) ≡ some w → (i j : ℕ) → i < length (children r (u_at r f k)) → j < length (others f (v_at f k) (s_at f k)) → cover_ok table r f z k (u_at r f k) (v_at f k) (s_at f k) i j ≡ true
  unfolding cover_ok
  cover_ok_lem k l w e i j hi hj =
      let L = left k l in
      let u = u_at r f k in
      let v = v_at f k in
      let s = s_at f k in
      let c = get_or (children r u) i 0 in
      let x = get_or (others f v s) j 0 in
      let o = other_at f v s j hj in
      let q = branch_sub table r f A u v s (sub_at k l) c x (get_d_mem (children r u) i hi) (get_d_mem (others f v s) j hj) in
      let D = L.duals.cover w e i (place x (neighbours f v)) hi o.low o.apart in
      moved
      (ap (plus_w (edge_pair table r f u c v x)) (value_recalled c x v q) ∙ ap (branch table r f (recalled r f work) u v c) (sym o.is))
      (ap (λ (t : ℤ). t +ℤ other_dual r f z k j) (L.of_child i hi) ∙ ap (λ (t : ℤ). pos (get_or L.y i 0) +ℤ t) (L.of_other j hj))
      D
    where
      moved : {a b : Weight} {x y : ℤ} → a ≡ b → x ≡ y → at_most b y ≡ true → at_most a x ≡ true
      moved p q h = rw (p, q) h

  -- any other
  duals_ok_lem : (k : ℕ) → k < subproblems r f → (w : ℤ) → vertex_pair table r f (u_at r f k) (v_at f k) ≡ some w → duals_ok table r f z k (u_at r f k) (v_at f k) (s_at f k) w ≡ true
  unfolding duals_ok number
  duals_ok_lem k l w e =
      let L = left k l in
      let u = u_at r f k in
      let v = v_at f k in
      let s = s_at f k in
      let n = length (children r u) in
      let m = length (others f v s) in
      let first : sumℤ n (child_dual r f z k) ≡ pos (sum n (λ i. get_or L.y i 0)) = sumℤ_ext n (child_dual r f z k) (λ i. pos (get_or L.y i 0)) L.of_child ∙ sum_pos n (λ i. get_or L.y i 0) in
      let second : sumℤ m (other_dual r f z k) ≡ pos (sum (length (neighbours f v)) (λ j. get_or L.x j 0)) = sumℤ_ext m (other_dual r f z k) (λ j. pos (get_or L.x (place (get_or (others f v s) j 0) (neighbours f v)) 0)) L.of_other ∙ others_sum s (neighbours f v) L.x (once_neighbours f v) L.duals.own in
      let total : value_in r f z k ≡ w +ℤ (pos (sum n (λ i. get_or L.y i 0)) +ℤ pos (sum (length (neighbours f v)) (λ j. get_or L.x j 0))) = L.value ∙ work_at table r f passes work right k l ∙ ap number (duals_value table r f passes work right u v s L.y L.x L.duals (sub_at k l) w e) in
      and_both (every (λ i. le_z (pos 0) (child_dual r f z k i)) n) _ (every_all (λ i. le_z (pos 0) (child_dual r f z k i)) n (λ i h. natural (L.of_child i h)))
      (and_both (every (λ j. le_z (pos 0) (other_dual r f z k j)) m) _ (every_all (λ j. le_z (pos 0) (other_dual r f z k j)) m (λ j h. natural (L.of_other j h)))
      (and_both (every (λ i. every (cover_ok table r f z k u v s i) m) n) _ (every_all (λ i. every (cover_ok table r f z k u v s i) m) n (λ i hi. every_all (cover_ok table r f z k u v s i) m (λ j hj. cover_ok_lem k l w e i j hi hj)))
      (eq_z_same (value_in r f z k) (w +ℤ (sumℤ n (child_dual r f z k) +ℤ sumℤ m (other_dual r f z k))) (total ∙ rw (first, second)))))
    where
      natural : {a : ℤ} {n : ℕ} → a ≡ pos n → le_z (pos 0) a ≡ true
      natural e = omega ints

  record_ok_lem : (k : ℕ) → k < subproblems r f → subproblem_ok table r f z k ≡ true
  unfolding subproblem_ok pair_ok
  record_ok_lem k l = go (vertex_pair table r f (u_at r f k) (v_at f k)) refl
    where
      go : (x : Weight) → vertex_pair table r f (u_at r f k) (v_at f k) ≡ x → pair_ok table r f z k (u_at r f k) (v_at f k) (s_at f k) x ≡ true
      go none e = forbidden_ok_lem k l e
      go (some w) e = duals_ok_lem k l w e

  -- the recorded values solve the subproblems, and so the largest is the answer
  given_solves : Solves table r f (value_of r f z)
  unfolding value_from
  given_solves u v s q =
      value_recalled u v s q
      ∙ work_recalls table r f passes work right u v s q
      ∙ work_value table r f passes work right u v s q
      ∙ ap (plus_w (vertex_pair table r f u v)) (best_ext (branch table r f (recalled r f work) u v) (branch table r f (value_of r f z) u v) (children r u) (del s (neighbours f v))
      (λ c x tc tx. ap (plus_w (edge_pair table r f u c v x)) (sym (value_recalled c x v (branch_sub table r f A u v s q c x tc tx)))))

  given_largest : largest r f (value_of r f z) ≡ answer table r f
  given_largest = solved_answer table r f passes (value_of r f z) given_solves

-- ---- head and partners

first_bytes : (p : List ℕ) (n : ℕ) → n ≤ length p → tab (λ u. get_or p u 0) n ≡ take n p
unfolding tab
first_bytes p zero h = refl
first_bytes p (suc n) h = ap (λ (x : List ℕ). x ++ (get_or p n 0 ∷ [])) (first_bytes p n (omega arith)) ∙ sym (take-suc p n 0 h)

left_mapping : (r f z p : List ℕ) (w : ℤ) → count r ≤ length p → FrontLeft r f z p w → mapping_in r z ≡ take (count r) p
unfolding mapping_in
left_mapping r f z p w h F = tab_ext (λ u. byte_at z (partner_at u + 2)) (λ u. get_or p u 0) (count r) F.partners ∙ first_bytes p (count r) h

left_shape : (r f z p : List ℕ) (w : ℤ) → length z ≡ certificate_length r f → FrontLeft r f z p w → ((k : ℕ) → k < subproblems r f → is_mark z (record_at r f k) record_mark ≡ true) → shape_ok r f z ≡ true
unfolding shape_ok
left_shape r f z p w long F marks =
    and_both (eqb (length z) (certificate_length r f)) _ (eq-eqb (length z) (certificate_length r f) long)
    (and_both (is_mark z 0 head_mark) _ F.head
    (and_both (eqb (byte_at z 2) (count r)) _ (eq-eqb (byte_at z 2) (count r) F.n_is)
    (and_both (eqb (byte_at z 3) (count f)) _ (eq-eqb (byte_at z 3) (count f) F.m_is)
    (and_both (every (λ u. is_mark z (partner_at u) partner_mark) (count r)) _ (every_all (λ u. is_mark z (partner_at u) partner_mark) (count r) F.marks)
    (every_all (λ k. is_mark z (record_at r f k) record_mark) (subproblems r f) marks)))))

pub left_accepted : (table r f : List ℕ) → input_item table r f ≡ 0 → (work : List ℤ) → take (subproblems r f) work ≡ values table r f → (p z : List ℕ) → Heaviest table r f (take (count r) p) → weight table r f (take (count r) p) ≡ answer table r f → count r ≤ length p → length z ≡ certificate_length r f → FrontLeft r f z p (answer table r f) → ((k : ℕ) → k < subproblems r f → RecordLeft table r f work z k) → check_of table r f z ≡ 0
left_accepted table r f passes work right p z H weighs enough long F left =
    let m : mapping_in r z ≡ take (count r) p = left_mapping r f z p (answer table r f) enough F in
    check_none table r f z (record {
      input = passes;
      shaped = left_shape r f z p (answer table r f) long F (λ k l. (left k l).mark);
      maps = rw m ((quick_mapping table r f passes (take (count r) p)).1 H.mapping);
      weighs = eq_z_same (weight_in z) (weight table r f (mapping_in r z)) (F.weighs ∙ sym weighs ∙ ap (weight table r f) (sym m));
      covers = every_all (subproblem_ok table r f z) (subproblems r f) (record_ok_lem table r f passes work right z left);
      greatest = eq_z_same (weight_in z) (largest r f (value_of r f z)) (F.weighs ∙ sym (given_largest table r f passes work right z left));
    })
