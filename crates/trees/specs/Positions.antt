-- The order of the subproblems: position(u) * (3m - 2) + offset(v) + slot(s) is a bijection onto 0 .. n(3m - 2) - 1, in the paper's order. Assumes nothing.
use Rattle.std.specs.Prelude.{◌≡◌, ◌≢◌, Bool, true, false, ◌||◌, cond, T, eqb, leb}
use Rattle.std.proofs.Math.Path.{refl, sym, ap, subst}
use Rattle.std.proofs.Common.{◌∙◌, ⊎_elim, div-lt_iff_lt-mul, eq-eqb, leb-true, leb-false}
use mathlib.Core.List.{List, [], ◌∷◌, ◌++◌}
use Prim.Native.Nat.{ℕ, zero, suc, ◌+◌, ◌*◌, ◌-◌, ◌/◌, ◌%◌, ◌≤◌, ◌<◌}
use native.Mathlib.Omega.{arith}
use Rattle.std.proofs.Math.Decide.{dec_lt}
use Rattle.std.proofs.Math.Nat.{div-add-mod', mod-lt}
use Rattle.std.proofs.Math.Arith.{digits_div, digits_mod, digits_lt}
use Rattle.std.proofs.Math.ListN.{length, get_or}
use Rattle.foundations.specs.Tests.{same}
use Rattle.foundations.specs.Sums.{sum, sum_ext, sum_zero}
use Rattle.foundations.specs.Counting.{sum_count, cnt_pair}
use Rattle.foundations.specs.Lists.{cat_ext}
use Rattle.foundations.specs.Members.{mem, Distinct, get_d_mem, mem_occ, distinct_occ, occ, place, place_low, place_at, place_one, AllLow, length_once}
use Rattle.model.specs.Edges.{component}
use Rattle.model.specs.Limits.{vertex_limit}
use Rattle.model.specs.Tree.{count, end_a, end_b, acyclic, degree}
use Rattle.model.specs.Graph.{neighbours}
use Rattle.model.specs.Order.{parent, depth, postorder_from, postorder, position, choices, width, subproblems, offset, slot, index, vertex_at, u_at, v_at, s_at}
use Rattle.trees.specs.Components.{AllFresh, Low}
use Rattle.trees.specs.Accepted.{Ends, acyclic_fresh}
use Rattle.trees.specs.Neighbours.{degree_neighbours, once_neighbours}
use Rattle.trees.specs.Postorder.{child, po, once, ahead, depth_low, low_po}
use Rattle.trees.specs.Rooted.{parent_low, depth_deeper, depth_root, no_self, children_is}

-- (u, v, s) is subproblem k
pub record Sub (r f : List ℕ) (k u v s : ℕ) : Type 0 where
  pub here : index r f u v s ≡ k
  pub u_low : u < count r
  pub v_low : v < count f
  pub s_in : T (mem s (choices f v))

-- the number of (u, v, v)
pub index_own : (r f : List ℕ) (u v : ℕ) → index r f u v v ≡ position r u * width f + offset f v
unfolding index slot place
index_own r f u v = rw (eq-eqb v v refl) (omega arith)

-- each edge has two ends
degree_sum : (s : List ℕ) (n k : ℕ) → Low (end_a s n) (end_b s n) n k → AllFresh (end_a s n) (end_b s n) k → sum n (λ v. degree s n v k) ≡ 2 * k
unfolding degree
degree_sum s n zero low fresh = sum_zero n (λ v. 0) (λ v l. refl)
degree_sum s n (suc k) low fresh =
    sum_count n (λ v. degree s n v k) (λ v. eqb (end_a s n k) v || eqb (end_b s n k) v)
    ∙ sum2 k (degree_sum s n k (λ j l. low j (omega arith)) (λ j l. fresh j (omega arith)))
    (cnt_pair (end_a s n k) (end_b s n k) n (low k (omega arith)).0 (low k (omega arith)).1 (λ e. fresh k (omega arith) (ap (component (end_a s n) (end_b s n) k) e)))
  where
    sum2 : {a b : ℕ} (k : ℕ) → a ≡ 2 * k → b ≡ 2 → a + b ≡ 2 * suc k
    sum2 k h g = omega arith

offset_is : (s : List ℕ) (v : ℕ) → offset s v ≡ v + sum v (λ w. length (neighbours s w))
unfolding offset sum
offset_is s zero = refl
offset_is s (suc v) = rw (offset_is s v) (omega arith)

pub offset_up : (s : List ℕ) (v k : ℕ) → v < k → offset s v + length (choices s v) ≤ offset s k
unfolding offset
offset_up s v zero h = absurd (off h)
  where
    off : v < 0 → ⊥
    off h = omega arith
offset_up s v (suc k) h = ⊎_elim
    (λ e. rw e.0 (omega arith))
    (λ e. let q = offset_up s v k (lower e.0) in omega arith)
    (same v k)
  where
    lower : v ≢ k → v < k
    lower n = omega arith

-- offsets cut the numbers below the last into rows
offset_once : (s : List ℕ) (v w a b : ℕ) → a < length (choices s v) → b < length (choices s w) → offset s v + a ≡ offset s w + b → (v ≡ w) × (a ≡ b)
offset_once s v w a b ha hb e = pick (dec_lt v w) (dec_lt w v)
  where
    pick : Dec (v < w) → Dec (w < v) → (v ≡ w) × (a ≡ b)
    pick (yes l) d = let q = offset_up s v w l in absurd (omega arith)
    pick (no l) (yes d) = let q = offset_up s w v d in absurd (omega arith)
    pick (no l) (no d) = let q : v ≡ w = omega arith in let z : offset s v ≡ offset s w = ap (offset s) q in (q, omega arith)

pub record PartOf (s : List ℕ) (i k v : ℕ) : Type 0 where
  pub low : v < k
  pub from : offset s v ≤ i
  pub upto : i < offset s v + length (choices s v)

vertex_choices : (s : List ℕ) (i k : ℕ) → i < offset s k → PartOf s i k (vertex_at s i k)
unfolding offset vertex_at
vertex_choices s i zero h = absurd (off h)
  where
    off : i < 0 → ⊥
    off h = omega arith
vertex_choices s i (suc k) h = go (leb (offset s k) i) refl (vertex_choices s i k)
  where
    go : (t : Bool) → leb (offset s k) i ≡ t → (i < offset s k → PartOf s i k (vertex_at s i k)) → PartOf s i (suc k) (cond t k (vertex_at s i k))
    go true e r = record { low = omega arith; from = leb-true (offset s k) i e; upto = h }
    go false e r = let q = r (omega (arith, leb-false (offset s k) i e)) in record { low = omega (arith, q.low); from = q.from; upto = q.upto }

-- ---- one tree

module _ (s : List ℕ) (ends : Ends s (count s)) (loops : acyclic s (count s) ≡ true) where
  pub offset_all : offset s (count s) ≡ width s
  unfolding width
  offset_all =
      let a = offset_is s (count s) in
      let b : sum (count s) (λ w. length (neighbours s w)) ≡ 2 * (count s - 1) = sum_ext (count s) (λ w. length (neighbours s w)) (λ w. degree s (count s) w (count s - 1)) (λ w l. degree_neighbours s w ends loops) ∙ degree_sum s (count s) (count s - 1) ends.low (acyclic_fresh s (count s) loops) in
      let one : 1 ≤ count s = ends.some in
      omega arith

  pub choices_once : (v : ℕ) → v < count s → Distinct (choices s v)
  choices_once v l = (no_self s ends loops v l, once_neighbours s v)

  slot_low : (v x : ℕ) → T (mem x (choices s v)) → slot s v x < length (choices s v)
  unfolding slot
  slot_low v x t = place_low x (choices s v) (mem_occ x (choices s v) t)

  slot_is : (v x : ℕ) → T (mem x (choices s v)) → get_or (choices s v) (slot s v x) 0 ≡ x
  unfolding slot
  slot_is v x t = place_at x (choices s v) (mem_occ x (choices s v) t)

  pub slot_of : (v i : ℕ) → v < count s → i < length (choices s v) → slot s v (get_or (choices s v) i 0) ≡ i
  unfolding slot
  slot_of v i l h = place_one (get_or (choices s v) i 0) (choices s v) i (distinct_occ (get_or (choices s v) i 0) (choices s v) (choices_once v l)) h refl

  -- ---- the postorder: every vertex once, after its children

  postorder_po : (k v : ℕ) → v < count s → postorder_from s k v ≡ po (parent s) (count s) k v
  unfolding postorder_from po
  postorder_po zero v l = refl
  postorder_po (suc k) v l = rw (children_is s ends loops v l) (ap (λ (m : List ℕ). m ++ (v ∷ [])) (cat_ext (λ w. postorder_from s k w) (λ w. po (parent s) (count s) k w) (child (parent s) v) (count s) (λ w lw c. postorder_po k w lw)))

  order_is : postorder s ≡ po (parent s) (count s) vertex_limit 0
  unfolding postorder
  order_is = postorder_po vertex_limit 0 ends.some

  pub each : (x : ℕ) → x < count s → occ x (postorder s) ≡ 1
  each x l = rw order_is (once (count s) (parent s) (depth s) (parent_low s ends loops) (depth_deeper s ends loops) (depth_root s ends loops) vertex_limit x ends.few l)

  pub all_low : AllLow (count s) (postorder s)
  all_low = rw order_is (low_po (parent s) (count s) vertex_limit 0 ends.some)

  pub postorder_long : length (postorder s) ≡ count s
  postorder_long = length_once (count s) (postorder s) each all_low

  pub position_low : (x : ℕ) → x < count s → position s x < count s
  unfolding position
  position_low x l = let o = each x l in let q = place_low x (postorder s) (omega arith) in let z = postorder_long in omega arith

  pub position_is : (x : ℕ) → x < count s → get_or (postorder s) (position s x) 0 ≡ x
  unfolding position
  position_is x l = let o = each x l in place_at x (postorder s) (omega arith)

  pub position_of : (i : ℕ) → i < count s → (get_or (postorder s) i 0 < count s) × (position s (get_or (postorder s) i 0) ≡ i)
  unfolding position
  position_of i l =
      let z = postorder_long in
      let a : get_or (postorder s) i 0 < count s = all_low i (omega arith) in
      let o = each (get_or (postorder s) i 0) a in
      (a, place_one (get_or (postorder s) i 0) (postorder s) i (omega arith) (omega arith) refl)

  -- a child comes before its parent
  pub position_child : (c : ℕ) → c < count s → c ≢ 0 → position s c < position s (parent s c)
  unfolding position
  position_child c l z =
      rw order_is (ahead (count s) (parent s) (depth s) (parent_low s ends loops) (depth_deeper s ends loops) vertex_limit 0 (parent s c) c
      (λ y ly. let d : depth s y < count s = depth_low (count s) (parent s) (depth s) (parent_low s ends loops) (depth_deeper s ends loops) (depth_root s ends loops) y ly in let few : count s ≤ vertex_limit = ends.few in omega arith)
      (parent_low s ends loops c l z) l z refl (there (parent s c) (parent_low s ends loops c l z))).first
    where
      there : (x : ℕ) → x < count s → 1 ≤ occ x (po (parent s) (count s) vertex_limit 0)
      there x l = let o = once (count s) (parent s) (depth s) (parent_low s ends loops) (depth_deeper s ends loops) (depth_root s ends loops) vertex_limit x ends.few l in omega arith

-- ---- two trees

module _ (r f : List ℕ) (er : Ends r (count r)) (lr : acyclic r (count r) ≡ true) (ef : Ends f (count f)) (lf : acyclic f (count f) ≡ true) where
  rest_low : (v s : ℕ) → v < count f → T (mem s (choices f v)) → offset f v + slot f v s < width f
  rest_low v s l t = let a = offset_up f v (count f) l in let b = slot_low f ef lf v s t in let c = offset_all f ef lf in omega arith

  pub index_low : (u v s : ℕ) → u < count r → v < count f → T (mem s (choices f v)) → index r f u v s < subproblems r f
  unfolding index subproblems
  index_low u v s lu lv t = digits_lt (position_low r er lr u lu) (rest_low v s lv t)

  -- a child's subproblems come before all its parent's
  pub index_child : (c x v u v' s : ℕ) → c < count r → c ≢ 0 → parent r c ≡ u → x < count f → T (mem v (choices f x)) → index r f c x v < index r f u v' s
  unfolding index
  index_child c x v u v' s lc z e lx t =
      let a : position r c < position r u = subst (λ (y : ℕ). position r c < position r y) e (position_child r er lr c lc z) in
      let b = digits_lt {q = position r c} {m = position r u} a (rest_low x v lx t) in
      omega arith

  pub index_once : (k u v s u' v' s' : ℕ) → Sub r f k u v s → Sub r f k u' v' s' → (u ≡ u') × (v ≡ v') × (s ≡ s')
  unfolding index
  index_once k u v s u' v' s' A B =
      let a = rest_low v s A.v_low A.s_in in
      let b = rest_low v' s' B.v_low B.s_in in
      let e : position r u * width f + (offset f v + slot f v s) ≡ position r u' * width f + (offset f v' + slot f v' s') = A.here ∙ sym B.here in
      let p : position r u ≡ position r u' = sym (digits_div (position r u) a) ∙ ap (λ (z : ℕ). z / width f) e ∙ digits_div (position r u') b in
      let q : offset f v + slot f v s ≡ offset f v' + slot f v' s' = sym (digits_mod (position r u) a) ∙ ap (λ (z : ℕ). z % width f) e ∙ digits_mod (position r u') b in
      let o = offset_once f v v' (slot f v s) (slot f v' s') (slot_low f ef lf v s A.s_in) (slot_low f ef lf v' s' B.s_in) q in (
        sym (position_is r er lr u A.u_low) ∙ ap (λ (i : ℕ). get_or (postorder r) i 0) p ∙ position_is r er lr u' B.u_low,
        o.0,
        sym (slot_is f ef lf v s A.s_in) ∙ ap (λ (i : ℕ). get_or (choices f v) i 0) o.1 ∙ ap (λ (w : ℕ). get_or (choices f w) (slot f v' s') 0) o.0 ∙ slot_is f ef lf v' s' B.s_in,
      )

  -- each number below n(3m - 2) is a subproblem's
  pub sub_at : (k : ℕ) → k < subproblems r f → Sub r f k (u_at r f k) (v_at f k) (s_at f k)
  unfolding u_at v_at s_at index subproblems
  sub_at k h =
      let w : 0 < width f = pos_width in
      let m : k % width f < width f = mod-lt k w in
      let c = offset_all f ef lf in
      let g = vertex_choices f (k % width f) (count f) (omega arith) in
      let v = vertex_at f (k % width f) (count f) in
      let i : k % width f - offset f v < length (choices f v) = rest g.from g.upto in
      let p = position_of r er lr (k / width f) ((div-lt_iff_lt-mul w).1 h) in
      let e : offset f v + slot f v (get_or (choices f v) (k % width f - offset f v) 0) ≡ k % width f = ap (λ (z : ℕ). offset f v + z) (slot_of f ef lf v (k % width f - offset f v) g.low i) ∙ back g.from in
      record {
        here = ap (λ (z : ℕ). z * width f + (offset f v + slot f v (get_or (choices f v) (k % width f - offset f v) 0))) p.1 ∙ ap (λ (z : ℕ). k / width f * width f + z) e ∙ div-add-mod' k (width f);
        u_low = p.0;
        v_low = g.low;
        s_in = get_d_mem (choices f v) (k % width f - offset f v) i;
      }
    where
      pos_width : 0 < width f
      pos_width = unfold width in (let one : 1 ≤ count f = ef.some in omega arith)

      rest : {a b c : ℕ} → a ≤ b → b < a + c → b - a < c
      rest x y = omega arith

      back : {a b : ℕ} → a ≤ b → a + (b - a) ≡ b
      back x = omega arith

  -- the paper's order: u by postorder, then v ascending, then s by its slot
  pub index_by_u : (u v s u' v' s' : ℕ) → v < count f → T (mem s (choices f v)) → position r u < position r u' → index r f u v s < index r f u' v' s'
  unfolding index
  index_by_u u v s u' v' s' lv t l = let b = digits_lt {q = position r u} {m = position r u'} l (rest_low v s lv t) in omega arith

  pub index_by_v : (u v s v' s' : ℕ) → T (mem s (choices f v)) → v < v' → index r f u v s < index r f u v' s'
  unfolding index
  index_by_v u v s v' s' t l = let a = offset_up f v v' l in let b = slot_low f ef lf v s t in omega arith

  pub index_by_s : (u v s s' : ℕ) → slot f v s < slot f v s' → index r f u v s < index r f u v s'
  unfolding index
  index_by_s u v s s' l = omega arith
