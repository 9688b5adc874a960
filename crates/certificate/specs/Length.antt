-- The records of a certificate end where the length of the paper says, and that length is never over 278,736. Assumes nothing.
use Rattle.std.specs.Prelude.{◌≡◌, refl, ◌⊎◌, ◌≢◌, true, false, List}
use Rattle.std.proofs.Common.{sym, ◌∙◌, inl, inr, ⊎_elim, mul-le-mul}
use Rattle.std.proofs.Math.Path.{ap, subst}
use Prim.Native.Nat.{ℕ, zero, suc, ◌+◌, ◌*◌, ◌-◌, ◌≤◌, ◌<◌}
use native.Mathlib.Omega.{arith}
use Rattle.std.proofs.Math.ListN.{length, get_or}
use Rattle.foundations.specs.Tests.{same?, less?}
use Rattle.foundations.specs.Sums.{sum, sum_ext, sum_add, sum_append, sum_first, sum_const, sum_times, sum_rows}
use Rattle.foundations.specs.Counting.{cnt, cnt_drop, cnt_none, cnt_swap}
use Rattle.foundations.specs.Lists.{length_below}
use Rattle.foundations.specs.Members.{get_d_mem, del_out, length_del, mem_occ, place_low}
use Rattle.model.specs.Calls.{input_item}
use Rattle.model.specs.Certificate.{squares, certificate_length, partner_at, others, record_length, record_at}
use Rattle.model.specs.Graph.{joined, neighbours}
use Rattle.model.specs.Lengths.{subproblem_length}
use Rattle.model.specs.Limits.{vertex_limit, degree_limit, width_limit, square_limit, certificate_limit}
use Rattle.model.specs.Order.{parent, depth, children, postorder, position, choices, width, subproblems, offset, slot, index, u_at, v_at, s_at}
use Rattle.model.specs.Tree.{count}
use Rattle.trees.specs.Neighbours.{once_neighbours, few_neighbours}
use Rattle.trees.specs.Positions.{Sub, index_once, sub_at, index_low, offset_all, slot_of, position_of, position_is, position_low}
use Rattle.trees.specs.Postorder.{child, child_yes, child_no}
use Rattle.trees.specs.Rooted.{children_is, parent_low, depth_deeper, no_self}
use Rattle.formats.specs.Inputs.{input_accepted}
use Rattle.subtrees.specs.Accepted.{recorded_tree, found_tree}
use Rattle.subtrees.specs.Trees.{IsTree, joined_swap, joined_mem, up_joined}

pub record_sum : (r f : List ℕ) (k : ℕ) → record_at r f k ≡ partner_at (count r) + sum k (record_length r f)
unfolding record_at sum
record_sum r f zero = omega arith
record_sum r f (suc k) = rw (record_sum r f k) (omega arith)

pub record_up : (r f : List ℕ) (k n : ℕ) → k < n → record_at r f k + record_length r f k ≤ record_at r f n
unfolding record_at
record_up r f k zero h = absurd (omega arith)
record_up r f k (suc n) h = ⊎_elim (λ e. rw e (omega arith)) (λ q. let p = record_up r f k n (omega arith) in omega arith) (same? k n)

-- n rows of w records: g gives the children of each row's u, q is the sum of squares
total : (n w q : ℕ) (g : ℕ → ℕ) → sum n (λ i. w * subproblem_length (g i) 0 + 4 * q) ≡ subproblem_length 0 0 * (n * w) + 4 * (sum n g * w) + 4 * (n * q)
unfolding sum
total zero w q g = omega arith
total (suc n) w q g = omega (arith, total n w q g)

-- ---- one tree

module _ (s : List ℕ) (t : IsTree s) where
  -- the children of all vertices in postorder: each vertex but the root is one child
  children_sum : sum (count s) (λ i. length (children s (get_or (postorder s) i 0))) ≡ count s - 1
  children_sum =
      let n = count s in
      sum_ext n (λ i. length (children s (get_or (postorder s) i 0))) (λ i. cnt (child (parent s) (get_or (postorder s) i 0)) n) counted
      ∙ cnt_swap n n (λ i w. child (parent s) (get_or (postorder s) i 0) w)
      ∙ last n (λ w. cnt (λ i. child (parent s) (get_or (postorder s) i 0) w) n) t.ends.some root once
    where
      counted : (i : ℕ) → i < count s → length (children s (get_or (postorder s) i 0)) ≡ cnt (child (parent s) (get_or (postorder s) i 0)) (count s)
      counted i l = ap length (children_is s t.ends t.loopless (get_or (postorder s) i 0) (position_of s t.ends t.loopless i l).0) ∙ length_below (child (parent s) (get_or (postorder s) i 0)) (count s)

      root : cnt (λ i. child (parent s) (get_or (postorder s) i 0) 0) (count s) ≡ 0
      root = unfold child in cnt_none (λ i. child (parent s) (get_or (postorder s) i 0) 0) (count s) (λ i l. refl)

      once : (w : ℕ) → w < count s → w ≢ 0 → cnt (λ i. child (parent s) (get_or (postorder s) i 0) w) (count s) ≡ 1
      once w l z =
          let x = parent s w in
          let lx = parent_low s t.ends t.loopless w l z in
          cnt_drop (λ i. child (parent s) (get_or (postorder s) i 0) w) (λ i. false) (position s x) (count s) (position_low s t.ends t.loopless x lx)
          (child_yes (parent s) (get_or (postorder s) (position s x) 0) w z (sym (position_is s t.ends t.loopless x lx))) refl
          (λ i li ne. child_no (parent s) (get_or (postorder s) i 0) w (λ e. ne (sym (position_of s t.ends t.loopless i li).1 ∙ ap (position s) (sym e))))
          ∙ ap (λ (y : ℕ). y + 1) (cnt_none (λ i. false) (count s) (λ i l. refl))

      last : (n : ℕ) (g : ℕ → ℕ) → 1 ≤ n → g 0 ≡ 0 → ((w : ℕ) → w < n → w ≢ 0 → g w ≡ 1) → sum n g ≡ n - 1
      last zero g one a b = absurd (omega arith)
      last (suc n) g one a b =
          let x = sum_first n g in
          let y = sum_ext n (λ i. g (suc i)) (λ i. 1) (λ i l. b (suc i) (omega arith) (omega arith)) in
          let z = sum_const n 1 in
          omega arith

  -- the neighbours of v other than s, for each choice of s: all of them, then one fewer for each
  others_sum : (v : ℕ) → v < count s → sum (length (choices s v)) (λ j. length (others s v (get_or (choices s v) j 0))) ≡ length (neighbours s v) * length (neighbours s v)
  others_sum v l =
      sum_first (length (neighbours s v)) (λ j. length (others s v (get_or (choices s v) j 0)))
      ∙ ap (λ (y : ℕ). y + sum (length (neighbours s v)) (λ i. length (others s v (get_or (neighbours s v) i 0)))) (ap length (del_out v (neighbours s v) (no_self s t.ends t.loopless v l)))
      ∙ ap (λ (y : ℕ). length (neighbours s v) + y)
      (sum_ext (length (neighbours s v)) (λ i. length (others s v (get_or (neighbours s v) i 0))) (λ i. length (neighbours s v) - 1)
      (λ i h. let e = length_del (get_or (neighbours s v) i 0) (neighbours s v) (once_neighbours s v) (get_d_mem (neighbours s v) i h) in omega arith)
      ∙ sum_const (length (neighbours s v)) (length (neighbours s v) - 1))
      ∙ square (length (neighbours s v))
    where
      square : (d : ℕ) → d + d * (d - 1) ≡ d * d
      square zero = omega arith
      square (suc d) = let e : suc d - 1 ≡ d = omega arith in rw e (omega arith)

-- ---- two trees

module _ (r f : List ℕ) (tr : IsTree r) (tf : IsTree f) where
  -- record i * (3m - 2) + (offset of v) + j has the i-th vertex in postorder, v, and the j-th choice for v
  pub record_row : (i v j : ℕ) → i < count r → v < count f → j < length (choices f v) →
      record_length r f (i * width f + (offset f v + j)) ≡ subproblem_length (length (children r (get_or (postorder r) i 0))) 0 + 4 * length (others f v (get_or (choices f v) j 0))
  unfolding record_length index
  record_row i v j li lv lj =
      let k = i * width f + (offset f v + j) in
      let u = get_or (postorder r) i 0 in
      let s = get_or (choices f v) j 0 in
      let p = position_of r tr.ends tr.loopless i li in
      let q = slot_of f tf.ends tf.loopless v j lv lj in
      let in_s = get_d_mem (choices f v) j lj in
      let at : index r f u v s ≡ k = ap (λ (x : ℕ). x * width f + (offset f v + slot f v s)) p.1 ∙ ap (λ (x : ℕ). i * width f + (offset f v + x)) q in
      let S : Sub r f k u v s = record { here = at; u_low = p.0; v_low = lv; s_in = in_s } in
      let l : k < subproblems r f = subst (λ (x : ℕ). x < subproblems r f) at (index_low r f tr.ends tr.loopless tf.ends tf.loopless u v s p.0 lv in_s) in
      let o = index_once r f tr.ends tr.loopless tf.ends tf.loopless k (u_at r f k) (v_at f k) (s_at f k) u v s (sub_at r f tr.ends tr.loopless tf.ends tf.loopless k l) S in
      same_length o.0 o.1 o.2
    where
      same_length : {u v s u' v' s' : ℕ} → u ≡ u' → v ≡ v' → s ≡ s' → subproblem_length (length (children r u)) (length (others f v s)) ≡ subproblem_length (length (children r u')) 0 + 4 * length (others f v' s')
      same_length a b c = rw (a, b, c) (omega arith)

  -- the records of one u
  pub row_sum : (i : ℕ) → i < count r → (v : ℕ) → v ≤ count f → sum (offset f v) (λ j. record_length r f (i * width f + j)) ≡ offset f v * subproblem_length (length (children r (get_or (postorder r) i 0))) 0 + 4 * squares f v
  unfolding offset squares
  row_sum i li zero h = unfold sum in omega arith
  row_sum i li (suc v) h =
      let F : ℕ → ℕ = λ j. record_length r f (i * width f + j) in
      let c = subproblem_length (length (children r (get_or (postorder r) i 0))) 0 in
      let o : ℕ → ℕ = λ j. length (others f v (get_or (choices f v) j 0)) in
      let first = row_sum i li v (omega arith) in
      let rest : sum (length (choices f v)) (λ j. F (offset f v + j)) ≡ length (choices f v) * c + 4 * (length (neighbours f v) * length (neighbours f v))
      = sum_ext (length (choices f v)) (λ j. F (offset f v + j)) (λ j. c + 4 * o j) (λ j lj. record_row i v j li (omega arith) lj)
      ∙ sum_add (length (choices f v)) (λ j. c) (λ j. 4 * o j)
      ∙ ap (λ (x : ℕ). x + sum (length (choices f v)) (λ j. 4 * o j)) (sum_const (length (choices f v)) c)
      ∙ ap (λ (x : ℕ). length (choices f v) * c + x) (sum_times (length (choices f v)) 4 o ∙ ap (λ (x : ℕ). 4 * x) (others_sum f tf v (omega arith))) in
      sum_append (offset f v) (length (choices f v)) F ∙ step (offset f v) (length (neighbours f v)) c (squares f v) first rest
    where
      step : (a d c q : ℕ) {x y : ℕ} → x ≡ a * c + 4 * q → y ≡ suc d * c + 4 * (d * d) → x + y ≡ (a + suc d) * c + 4 * (q + d * d)
      step a d c q e g = omega arith

  records_end : record_at r f (subproblems r f) ≡ certificate_length r f
  unfolding subproblems certificate_length
  records_end =
      record_sum r f (count r * width f)
      ∙ ap (λ (x : ℕ). partner_at (count r) + x)
      (sum_rows (count r) (width f) (record_length r f)
      ∙ sum_ext (count r) (λ i. sum (width f) (λ j. record_length r f (i * width f + j))) (λ i. width f * subproblem_length (length (children r (get_or (postorder r) i 0))) 0 + 4 * squares f (count f)) whole
      ∙ total (count r) (width f) (squares f (count f)) (λ i. length (children r (get_or (postorder r) i 0)))
      ∙ ap (λ (x : ℕ). subproblem_length 0 0 * (count r * width f) + 4 * (x * width f) + 4 * (count r * squares f (count f))) (children_sum r tr))
      ∙ omega arith
    where
      whole : (i : ℕ) → i < count r → sum (width f) (λ j. record_length r f (i * width f + j)) ≡ width f * subproblem_length (length (children r (get_or (postorder r) i 0))) 0 + 4 * squares f (count f)
      whole i l = subst (λ (x : ℕ). sum x (λ j. record_length r f (i * width f + j)) ≡ x * subproblem_length (length (children r (get_or (postorder r) i 0))) 0 + 4 * squares f (count f)) (offset_all f tf.ends tf.loopless) (row_sum i l (count f) (omega arith))

pub length_closed : (table r f : List ℕ) → input_item table r f ≡ 0 → record_at r f (subproblems r f) ≡ certificate_length r f
length_closed table r f e = let A = input_accepted table r f e in records_end r f (recorded_tree A) (found_tree A)

-- each record ends where the next begins, and within the length
pub record_inside : (table r f : List ℕ) → input_item table r f ≡ 0 → (k : ℕ) → k < subproblems r f → record_at r f k + record_length r f k ≤ certificate_length r f
record_inside table r f e k l = subst (λ (x : ℕ). record_at r f k + record_length r f k ≤ x) (length_closed table r f e) (record_up r f k (subproblems r f) l)

-- ---- "never over 278,736"

-- each vertex of a tree of two or more has a neighbour
module _ (s : List ℕ) (t : IsTree s) where
  below_root : (k x : ℕ) → x < count s → x ≢ 0 → depth s x ≤ k → (c : ℕ) × (c < count s) × (c ≢ 0) × (parent s c ≡ 0)
  below_root zero x l z h = let d = depth_deeper s t.ends t.loopless x l z in absurd (omega arith)
  below_root (suc k) x l z h = ⊎_elim
      (λ e. (x, l, z, e))
      (λ n. let d = depth_deeper s t.ends t.loopless x l z in below_root k (parent s x) (parent_low s t.ends t.loopless x l z) n (omega arith))
      (same? (parent s x) 0)

  member_some : (v x : ℕ) → joined s v x ≡ true → 1 ≤ length (neighbours s v)
  member_some v x h = let p = place_low x (neighbours s v) (mem_occ x (neighbours s v) (joined_mem s t v x h)) in omega arith

  some_neighbour : 2 ≤ count s → (v : ℕ) → v < count s → 1 ≤ length (neighbours s v)
  some_neighbour two v l = ⊎_elim
      (λ e. let c = below_root (depth s 1) 1 (omega arith) (omega arith) (omega arith) in
      rw e (member_some 0 c.0 (joined_swap s t c.0 0 (subst (λ (y : ℕ). joined s c.0 y ≡ true) c.3 (up_joined s t c.0 c.1 c.2)))))
      (λ n. member_some v (parent s v) (up_joined s t v l n))
      (same? v 0)

-- one vertex of degree d: 9(d + 1) is at least 17 + d * d, and more by 6 unless d is 1 or 8
record Spread (d : ℕ) : Type 0 where
  pub least : d * d + 17 ≤ 9 * suc d
  pub between : (d ≡ 1) ⊎ ((d ≡ 8) ⊎ (d * d + 23 ≤ 9 * suc d))

spread : (d : ℕ) → 1 ≤ d → d ≤ degree_limit → Spread d
spread d one few = record {
  least = let e : (d - 1) * ((d - 1) + (8 - d)) ≡ (d - 1) * 7 = ap (λ (x : ℕ). (d - 1) * x) (omega arith) in shift (d - 1) (8 - d) d (omega arith) e;
  between = ⊎_elim inl (λ n. inr (⊎_elim inl (λ k. inr (let e : (d - 2) * ((d - 2) + (7 - d)) ≡ (d - 2) * 5 = ap (λ (x : ℕ). (d - 2) * x) (omega arith) in shift2 (d - 2) (7 - d) d (omega arith) e)) (same? d 8))) (same? d 1);
}
  where
    shift : (a b d : ℕ) → d ≡ a + 1 → a * (a + b) ≡ a * 7 → d * d + 17 ≤ 9 * suc d
    shift a b d e h = rw e (omega arith)

    shift2 : (a b d : ℕ) → d ≡ a + 2 → a * (a + b) ≡ a * 5 → d * d + 23 ≤ 9 * suc d
    shift2 a b d e h = rw e (omega arith)

-- so far: all degrees 1 or 8, or 6 less than they may be
data SoFar (v o q : ℕ) : Type 0 where
  even : (t : ℕ) → o ≡ 2 * v + 7 * t → q + 17 * v ≤ 9 * o → SoFar v o q
  short : q + 17 * v + 6 ≤ 9 * o → SoFar v o q

so_far_step : (v o q d : ℕ) → Spread d → SoFar v o q → SoFar (suc v) (o + suc d) (q + d * d)
so_far_step v o q d p (even t e h) = let l = p.least in ⊎_elim
    (λ a. even t (omega arith) (omega arith))
    (λ b. ⊎_elim (λ a. even (suc t) (omega arith) (omega arith)) (λ a. short (omega arith)) b)
    p.between
so_far_step v o q d p (short h) = let l = p.least in short (omega arith)

alone : (f : List ℕ) → offset f 1 ≡ 1 → squares f 1 ≤ square_limit
unfolding offset squares
alone f h = let d : length (neighbours f 0) ≡ 0 = omega arith in rw d (omega arith)

module _ (f : List ℕ) (t : IsTree f) (few : (v : ℕ) → v < count f → length (neighbours f v) ≤ degree_limit) where
  so_far : 2 ≤ count f → (v : ℕ) → v ≤ count f → SoFar v (offset f v) (squares f v)
  unfolding offset squares
  so_far two zero h = even 0 (omega arith) (omega arith)
  so_far two (suc v) h = so_far_step v (offset f v) (squares f v) (length (neighbours f v)) (spread (length (neighbours f v)) (some_neighbour f t two v (omega arith)) (few v (omega arith))) (so_far two v (omega arith))

  pub squares_most : squares f (count f) ≤ square_limit
  squares_most = pick (less? 1 (count f))
    where
      w : offset f (count f) ≡ 3 * count f - 2
      w = offset_all f t.ends t.loopless ∙ (unfold width in refl)

      one : 1 ≤ count f
      one = t.ends.some

      most : count f ≤ vertex_limit
      most = t.ends.few

      last : SoFar (count f) (offset f (count f)) (squares f (count f)) → squares f (count f) ≤ square_limit
      last (even k e h) = omega (arith, w, one, most)
      last (short h) = omega (arith, w, one, most)

      pick : (1 < count f) ⊎ (count f ≤ 1) → squares f (count f) ≤ square_limit
      pick (inl two) = last (so_far two (count f) (omega arith))
      pick (inr h) = let e : count f ≡ 1 = omega (arith, one) in rw e (alone f (rw e at w))

pub length_few : (r f : List ℕ) → count r ≤ vertex_limit → count f ≤ vertex_limit → squares f (count f) ≤ square_limit → certificate_length r f ≤ certificate_limit
unfolding certificate_length subproblems width
length_few r f nr nf q =
    let one_less : count r - 1 ≤ vertex_limit - 1 = omega arith in
    let wide : 3 * count f - 2 ≤ width_limit = omega arith in
    let a : count r * (3 * count f - 2) ≤ vertex_limit * width_limit = mul-le-mul nr wide in
    let b : (count r - 1) * (3 * count f - 2) ≤ (vertex_limit - 1) * width_limit = mul-le-mul one_less wide in
    let c : count r * squares f (count f) ≤ vertex_limit * square_limit = mul-le-mul nr q in
    omega arith

pub length_most : (table r f : List ℕ) → input_item table r f ≡ 0 → certificate_length r f ≤ certificate_limit
length_most table r f e =
    let A = input_accepted table r f e in
    length_few r f (recorded_tree A).ends.few (found_tree A).ends.few (squares_most f (found_tree A) (λ v l. few_neighbours f _ _ A.found v l))

-- the paper's number
most_is : certificate_limit ≡ 278736
most_is = refl
