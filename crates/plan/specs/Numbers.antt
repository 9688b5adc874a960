-- Where a subproblem stands among all: the found vertex whose part of a row a number lies in, the choice that s is for v, and the three vertices of a
-- subproblem's number. Assumes nothing.
use Rattle.std.specs.Prelude.{◌≡◌, List, length, get_or}
use Rattle.std.proofs.Math.Path.{ap}
use Rattle.std.proofs.Common.{◌∙◌, add-one, not-suc-le-zero, div-lt_iff_lt-mul, le-leb}
use Rattle.std.proofs.Math.Logic.{⊎_elim}
use Prim.Native.Nat.{ℕ, zero, suc, ◌+◌, ◌-◌, ◌*◌, ◌/◌, ◌%◌, ◌≤◌, ◌<◌}
use native.Mathlib.Omega.{arith}
use Rattle.std.proofs.Math.Nat.{mod-lt, mul-le-mul}
use Rattle.std.proofs.lemmas.Bool.{lt-leb}
use Rattle.foundations.specs.Tests.{same?}
use Rattle.model.specs.Limits.{vertex_limit, width_limit, subproblem_limit}
use Rattle.model.specs.Tree.{count}
use Rattle.model.specs.Graph.{neighbours}
use Rattle.model.specs.Order.{choices, offset, vertex_at, width, subproblems, u_at, v_at, s_at}
use Rattle.trees.specs.Accepted.{Sound}
use Rattle.trees.specs.Positions.{offset_up, offset_all}
use Rattle.formats.specs.Inputs.{Accepted, input_accepted, input_sound}
use Rattle.plan.specs.Plan.{degree_in, offset_in, neighbour_in, order_in, Ready}

-- ---- which choice s is for v

pub record SlotAt (plan : List (List ℕ)) (v s r : ℕ) : Type 0 where
  pub low : r ≤ degree_in plan v
  pub none : r ≡ 0 → (j : ℕ) → j < degree_in plan v → neighbour_in plan v j ≡ s → ⊥
  pub here : (j : ℕ) → r ≡ j + 1 → neighbour_in plan v j ≡ s

-- ---- the vertex of a slot

pub record Located (starts : ℕ → ℕ) (m rest v : ℕ) : Type 0 where
  pub low : v < m
  pub from : 0 < v → starts v ≤ rest
  pub upto : v + 1 < m → rest < starts (v + 1)

vertex_last : (f : List ℕ) (i v n : ℕ) → v < n → offset f v ≤ i → ((x : ℕ) → v < x → x < n → i < offset f x) → vertex_at f i n ≡ v
unfolding vertex_at
vertex_last f i v zero l a b = absurd (not-suc-le-zero l)
vertex_last f i v (suc n) l a b = ⊎_elim
    (λ e. rw (← e, le-leb (offset f v) i a))
    (λ e. let c : i < offset f n = b n (omega arith) (omega arith) in rw (lt-leb (offset f n) i c) (vertex_last f i v n (omega arith) a (λ x p q. b x p (omega arith))))
    (same? v n)

-- ---- the vertex of a slot, in a tree

module _ (f : List ℕ) (starts : ℕ → ℕ) (offsets : (v : ℕ) → v < count f → starts v ≡ offset f v) where
  pub located_is : (m rest v : ℕ) → m ≡ count f → Located starts m rest v → vertex_at f rest (count f) ≡ v
  located_is m rest v e l =
      let low : v < m = l.low in
      vertex_last f rest v (count f) (omega arith)
      (⊎_elim (λ z. rw z (first)) (λ z. let a : starts v ≤ rest = l.from (omega arith) in let o = offsets v (omega arith) in omega arith) (same? v 0))
      (λ x a b. let o = offsets (v + 1) (omega arith) in let u : rest < starts (v + 1) = l.upto (omega arith) in
      let up : offset f (v + 1) ≤ offset f x = ⊎_elim (λ z. rw z (omega arith)) (λ z. let g = offset_up f (v + 1) x (omega arith) in omega arith) (same? (v + 1) x) in
      omega arith)
    where
      first : offset f 0 ≤ rest
      first = unfold offset in omega arith

pub offset_width : {s : List ℕ} → Sound s → offset s (count s) ≡ width s
offset_width {s} S = offset_all s S.passed.ends S.passed.tree

-- ---- the vertices of a subproblem's number

module _ {table r f : List ℕ} {plan : List (List ℕ)} (N : Ready table r f plan) where
  pub ready_accepted : Accepted table r f
  ready_accepted = input_accepted table r f N.passes

  pub ready_sound : Sound f
  ready_sound = (input_sound table r f N.passes).1

  pub ready_recorded : Sound r
  ready_recorded = (input_sound table r f N.passes).0

  pub width_some : 1 ≤ width f
  width_some = unfold width in (let a : 1 ≤ count f = ready_accepted.found.ends.some in omega arith)

  pub width_few : width f ≤ width_limit
  width_few = unfold width in (let a : count f ≤ vertex_limit = ready_accepted.found.ends.few in omega arith)

  pub number_low : (p : ℕ) → p < subproblems r f → (p / width f < count r) × (p / width f < vertex_limit)
  unfolding subproblems
  number_low p h =
      let a : p / width f < count r = (div-lt_iff_lt-mul width_some).1 h in
      let few : count r ≤ vertex_limit = ready_accepted.recorded.ends.few in
      (a, omega arith)

  pub number_few : subproblems r f ≤ subproblem_limit
  unfolding subproblems
  number_few = let a : count r ≤ vertex_limit = ready_accepted.recorded.ends.few in let h : count r * width f ≤ vertex_limit * width_limit = mul-le-mul a width_few in omega arith

  pub number_u : (p : ℕ) → p < subproblems r f → order_in plan (p / width f) ≡ u_at r f p
  unfolding u_at
  number_u p h = (N.planned.recorded (p / width f) (number_low p h).0).order

  pub offsets_are : (v : ℕ) → v < count f → offset_in plan v ≡ offset f v
  offsets_are v h = (N.planned.found v h).begins

  -- the rest of the number lies among v's
  pub rest_in : (p m v : ℕ) → m ≡ count f → Located (offset_in plan) m (p % width f) v → (v < count f) × (offset_in plan v ≡ offset f v) × (offset f v ≤ p % width f) × (p % width f - offset f v ≤ length (neighbours f v))
  unfolding offset
  rest_in p m v e l =
      let low : v < m = l.low in
      let lv : v < count f = omega arith in
      let w : p % width f < width f = mod-lt p width_some in
      let all : offset f (count f) ≡ width f = offset_all f ready_accepted.found.ends ready_accepted.found.tree in
      let o : offset_in plan v ≡ offset f v = offsets_are v lv in
      let one : offset f (v + 1) ≡ offset f v + suc (length (neighbours f v)) = rw (add-one v) in
      let from : offset f v ≤ p % width f = ⊎_elim (λ z. rw z (omega arith)) (λ z. let a : offset_in plan v ≤ p % width f = l.from (omega arith) in omega arith) (same? v 0) in
      let upto : p % width f < offset f (v + 1) = ⊎_elim (λ z. let g : offset f (v + 1) ≡ offset f (count f) = ap (offset f) (z ∙ e) in omega arith) (λ z. let a : p % width f < offset_in plan (v + 1) = l.upto (omega arith) in let o1 = offsets_are (v + 1) (omega arith) in omega arith) (same? (v + 1) m) in
      (lv, o, from, omega arith)

  pub number_v : (p m v : ℕ) → m ≡ count f → Located (offset_in plan) m (p % width f) v → v_at f p ≡ v
  unfolding v_at
  number_v p m v e l = located_is f (offset_in plan) offsets_are m (p % width f) v e l

  pub number_s : (p m v c : ℕ) → m ≡ count f → Located (offset_in plan) m (p % width f) v → c ≡ p % width f - offset_in plan v → s_at f p ≡ get_or (choices f v) c 0
  unfolding s_at
  number_s p m v c e l h = let a = rest_in p m v e l in let b : c ≡ p % width f - offset f v = rw (← a.1) h in rw (number_v p m v e l, b)
