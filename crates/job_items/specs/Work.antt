-- Item 16 row by row: that the rows which the test goes through together are the model's. Assumes nothing.
use Rattle.std.specs.Prelude.{◌≡◌, Bool, true, false, ◌&&◌, List, get_or, ℤ, pos, neg_ℤ}
use Rattle.std.proofs.Math.Path.{refl, sym, subst}
use Rattle.std.proofs.Common.{ap, ◌∙◌, add-one}
use Rattle.std.proofs.Math.Logic.{⊎_elim}
use Prim.Native.Nat.{ℕ, suc, ◌+◌, ◌*◌, ◌/◌, ◌%◌, ◌-◌, ◌≤◌, ◌<◌, min}
use native.Mathlib.Omega.{arith}
use Rattle.std.proofs.Math.Nat.{mul-le-mul}
use Rattle.std.proofs.lemmas.Grind.{div_ceil_times}
use Rattle.std.proofs.Math.Arith.{digits_div, digits_mod}
use Rattle.std.proofs.Math.ListN.{length}
use Rattle.std.specs.Int.Signed.{le_z}
use Rattle.foundations.specs.Tests.{less?}
use Rattle.foundations.specs.Lists.{every, every_ext, every_sum}
use Rattle.model.specs.Limits.{weight_limit, ceiling, vertex_limit, degree_limit}
use Rattle.model.specs.Weights.{weighed, is_forbidden}
use Rattle.model.specs.Tree.{count}
use Rattle.model.specs.Graph.{neighbours}
use Rattle.model.specs.Order.{offset, width, vertex_at, subproblems, u_at, v_at}
use Rattle.model.specs.Pairs.{vertex_pair}
use Rattle.model.specs.Jobs.{number_ok, work_ok}
use Rattle.trees.specs.Neighbours.{few_neighbours}
use Rattle.trees.specs.Positions.{position_of}
use Rattle.plan.specs.Plan.{order_in, degree_in, Ready, Lent}
use Rattle.plan.specs.Numbers.{Located, located_is, offset_width, ready_accepted, ready_sound}

-- ---- one number

-- at an allowed pair
unfoldable pub in_range : ℤ → Bool
in_range z = le_z (neg_ℤ (pos weight_limit)) z && le_z z (pos ceiling)

-- the number in place k of those from `from` on, at a pair of weight w
unfoldable pub pair_test : List ℤ → ℕ → ℤ → ℕ → Bool
pair_test work from w k = number_ok (weighed w) (get_or work (from + k) (pos 0))

pub pair_none : (work : List ℤ) (from n : ℕ) (w : ℤ) → is_forbidden w ≡ true → every (λ k. is_forbidden (get_or work (from + k) (pos 0))) n ≡ every (pair_test work from w) n
unfolding pair_test number_ok weighed
pair_none work from n w e = every_ext (λ k. is_forbidden (get_or work (from + k) (pos 0))) (pair_test work from w) n (λ k l. rw e)

pub pair_some : (work : List ℤ) (from n : ℕ) (w : ℤ) → is_forbidden w ≡ false → every (λ k. in_range (get_or work (from + k) (pos 0))) n ≡ every (pair_test work from w) n
unfolding pair_test number_ok weighed in_range
pair_some work from n w e = every_ext (λ k. in_range (get_or work (from + k) (pos 0))) (pair_test work from w) n (λ k l. rw e)

-- ---- one row

-- the number in slot k of the row of recorded vertex u, which begins at base
unfoldable pub row_test : List ℕ → List ℕ → List ℕ → List ℤ → ℕ → ℕ → ℕ → Bool
row_test table r f work base u k = number_ok (vertex_pair table r f u (vertex_at f k (count f))) (get_or work (base + k) (pos 0))

pub row_none : (f : List ℕ) (upto : ℕ) → 0 ≡ min (offset f 0) upto
unfolding offset
row_none f upto = omega arith

-- the slots of found vertex v begin at k
pub record SlotsAt (f : List ℕ) (plan : List (List ℕ)) (k v : ℕ) : Type 0 where
  pub low : v < count f
  pub few : v < vertex_limit
  pub from : offset f v ≡ k
  pub degree_few : degree_in plan v ≤ degree_limit
  pub upto : offset f (v + 1) ≡ k + degree_in plan v + 1

module _ {table r f : List ℕ} {plan : List (List ℕ)} (N : Ready table r f plan) (upto : ℕ) (narrow : upto ≤ width f) where
  pub row_vertex : (k v : ℕ) → v ≤ count f → k ≡ min (offset f v) upto → k < upto → SlotsAt f plan k v
  unfolding offset
  row_vertex k v h e l =
      let all : offset f (count f) ≡ width f = offset_width (ready_sound N) in
      let few : count f ≤ vertex_limit = (ready_accepted N).found.ends.few in
      let low : v < count f = ⊎_elim (λ z. z) (λ z. let q : v ≡ count f = omega arith in let g : k ≡ min (offset f (count f)) upto = subst (λ x. k ≡ min (offset f x) upto) q e in absurd (omega arith)) (less? v (count f)) in
      let d : offset f (v + 1) ≡ offset f v + suc (length (neighbours f v)) = rw (add-one v) in
      let n : degree_in plan v ≡ length (neighbours f v) = (N.planned.found v low).degree in
      let m : length (neighbours f v) ≤ degree_limit = few_neighbours f _ _ (ready_accepted N).found v low in
      record { low = low; few = omega arith; from = omega arith; degree_few = omega arith; upto = omega arith }

  -- they end where those of the next vertex begin, or at the end of what is tested
  pub row_end_lem : (k v end : ℕ) → v ≤ count f → k ≡ min (offset f v) upto → k < upto → end ≡ min (k + degree_in plan v + 1) upto → (v + 1 ≤ count f) × (end ≡ min (offset f (v + 1)) upto)
  row_end_lem k v end h e l ee = let t = row_vertex k v h e l in let a = t.low in (omega arith, rw t.upto ee)

  -- and are tested
  pub row_pair : (work : List ℤ) (base u k v end : ℕ) (w : ℤ) (ok b : Bool) → v ≤ count f → k ≡ min (offset f v) upto → k < upto → end ≡ min (k + degree_in plan v + 1) upto → vertex_pair table r f u v ≡ weighed w
      → ok ≡ every (row_test table r f work base u) k → b ≡ every (pair_test work (base + k) w) (end - k) → (ok && b) ≡ every (row_test table r f work base u) end
  unfolding row_test pair_test
  row_pair work base u k v end w ok b h e l ee ew eo eb =
      let t = row_vertex k v h e l in
      let from : offset f v ≡ k = t.from in
      let past = t.upto in
      let sum : end ≡ k + (end - k) = omega arith in
      let same : every (pair_test work (base + k) w) (end - k) ≡ every (λ j. row_test table r f work base u (k + j)) (end - k) = every_ext (pair_test work (base + k) w) (λ j. row_test table r f work base u (k + j)) (end - k) (λ j lj.
      let z : Located (offset f) (count f) (k + j) v = record { low = t.low; from = λ q. omega arith; upto = λ q. omega arith } in
      let g : base + k + j ≡ base + (k + j) = omega arith in
      rw (located_is f (offset f) (λ x y. refl) (count f) (k + j) v refl z, ew, g)) in
      rw (eo, eb, same) (sym (every_sum (row_test table r f work base u) k (end - k)) ∙ sym (ap (every (row_test table r f work base u)) sum))

-- ---- all rows

-- of as many rows as it takes to hold the numbers before the position, each begins before it
pub row_before : (i w position : ℕ) → 0 < w → i < position / w + min 1 (position % w) → i * w < position
row_before i w position s h =
    let few = (div_ceil_times position w s).1 in
    let last : suc i * w ≤ (position / w + min 1 (position % w)) * w = mul-le-mul h (omega arith) in
    let next : suc i * w ≡ i * w + w = omega arith in
    omega arith

module _ {table r f : List ℕ} {plan : List (List ℕ)} (N : Ready table r f plan) (i position : ℕ) (l : i * width f < position) (h : position ≤ subproblems r f) where
  -- row i begins at i widths, where i is the place of its vertex in the postorder
  pub row_low : (i < count r) × (i < vertex_limit)
  unfolding subproblems
  row_low =
      let few : count r ≤ vertex_limit = (ready_accepted N).recorded.ends.few in
      let low : i < count r = ⊎_elim (λ z. z) (λ z. let g : count r * width f ≤ i * width f = mul-le-mul z (omega arith) in absurd (omega arith)) (less? i (count r)) in
      (low, omega arith)

  pub row_here : (work : List ℤ) (upto : ℕ) → Lent r f work → upto ≡ min (width f) (position - i * width f) → (order_in plan i < count r) × (upto ≤ width f) × (i * width f + upto ≤ length work)
  row_here work upto L g =
      let A = ready_accepted N in
      let enough : subproblems r f ≤ length work = L.enough in
      (rw (N.planned.recorded i row_low.0).order (position_of r A.recorded.ends A.recorded.tree i row_low.0).0, omega arith, omega arith)

  -- one row more
  pub row_more : (work : List ℤ) (upto : ℕ) (ok fine : Bool) → upto ≡ min (width f) (position - i * width f) → ok ≡ work_ok table r f work (min (i * width f) position) → fine ≡ every (row_test table r f work (i * width f) (order_in plan i)) upto → (ok && fine) ≡ work_ok table r f work (min ((i + 1) * width f) position)
  unfolding work_ok row_test u_at v_at
  row_more work upto ok fine g a b =
      let u : min ((i + 1) * width f) position ≡ i * width f + upto = rw (add-one i) (omega arith) in
      let v : min (i * width f) position ≡ i * width f = omega arith in
      let o = (N.planned.recorded i row_low.0).order in
      let same : every (row_test table r f work (i * width f) (order_in plan i)) upto ≡ every (λ k. number_ok (vertex_pair table r f (u_at r f (i * width f + k)) (v_at f (i * width f + k))) (get_or work (i * width f + k) (pos 0))) upto = every_ext _ _ upto (λ k q. let s : k < width f = omega arith in rw (digits_div i s, digits_mod i s, o)) in
      rw (u, every_sum, a, v, b, same)

pub work_none : (table r f : List ℕ) (work : List ℤ) (position : ℕ) → true ≡ work_ok table r f work (min (0 * width f) position)
unfolding work_ok every
work_none table r f work position = let e : min (0 * width f) position ≡ 0 = omega arith in rw e
