-- The gains of a pair's branches from the certificate's own values: what the code reads, and that it is the model's. Assumes nothing.
use Rattle.std.specs.Prelude.{◌≡◌, List, ℕ, ◌+◌, ◌-◌, ◌*◌, ◌≤◌, ◌<◌, length, ℤ}
use Rattle.std.proofs.Common.{◌∙◌}
use native.Mathlib.Omega.{arith}
use Rattle.std.proofs.Math.ListN.{get_or}
use Rattle.foundations.specs.Members.{get_d_mem, mem_occ, place_low}
use Rattle.model.specs.Bytes.{int32_at}
use Rattle.model.specs.Certificate.{certificate_length, record_at, record_length, value_in, value_of}
use Rattle.model.specs.Graph.{neighbours}
use Rattle.model.specs.Limits.{vertex_limit}
use Rattle.model.specs.Order.{children, width, offset, slot, choices}
use Rattle.model.specs.Tree.{count}
use Rattle.model.specs.Weights.{weighed}
use Rattle.trees.specs.Neighbours.{mem_adjacent}
use Rattle.certificate.specs.Places.{place_in}
use Rattle.certificate.specs.Length.{record_inside}
use Rattle.plan.specs.Plan.{offset_in, neighbour_in, behind_in, child_place_in, Ready, Pair}
use Rattle.plan.specs.Pairs.{back_in, branch_index}
use Rattle.records.specs.Places.{Laid, PlacesTo, RowBegins, laid, found_known}

-- inputs that pass, their plan, where their records stand, and a certificate of their length
pub record Given (table r f : List ℕ) (plan places : List (List ℕ)) (z : List ℕ) : Type 0 where
  pub ready : Ready table r f plan
  pub laid : Laid r f plan places
  pub long : length z ≡ certificate_length r f

pub given : {table r f : List ℕ} {plan places : List (List ℕ)} {z : List ℕ} → Ready table r f plan → PlacesTo r f (count r) places → length z ≡ certificate_length r f → Given table r f plan places z
given N at long = record { ready = N; laid = laid N at; long = long }

-- ---- one value

-- b is the place of one of x's subproblems among those of one recorded vertex
pub record Sits (f : List ℕ) (x b : ℕ) : Type 0 where
  pub low : x < count f
  pub from : offset f x ≤ b
  pub upto : b ≤ offset f x + length (neighbours f x)

module _ {r f : List ℕ} {plan places : List (List ℕ)} (L : Laid r f plan places) {x b : ℕ} (P : Sits f x b) where
  begins : offset_in plan x ≡ offset f x
  begins = (L.inputs.ready.planned.found x P.low).begins

  -- the choice that the code finds
  pub sits_choice : (x < vertex_limit) × (offset_in plan x ≤ b) × (b - offset_in plan x ≤ length (neighbours f x))
  sits_choice =
      let a = P.from in
      let c = P.upto in
      let o = begins in
      ((found_known L.inputs x P.low).low, omega arith, omega arith)

  module _ {row first own here : ℕ} (R : RowBegins r f row first own) (e : here ≡ record_at r f (row * width f + (offset f x + (b - offset_in plan x)))) where
    pub sits_inside : here + 2 + 4 ≤ certificate_length r f
    unfolding record_length
    sits_inside =
        let passes = L.inputs.ready.passes in
        let table = L.inputs.table in
        let n = place_in table r f passes row x (b - offset_in plan x) R.low P.low sits_choice.2 in
        let i = record_inside table r f passes (row * width f + (offset f x + (b - offset_in plan x))) n in
        omega arith

    pub sits_value : (z : List ℕ) (y : ℤ) → y ≡ int32_at z (here + 2) → y ≡ value_in r f z (row * width f + b)
    unfolding value_in
    sits_value z y h =
        let a = P.from in
        let o = begins in
        let same : offset f x + (b - offset_in plan x) ≡ b = omega arith in
        h ∙ rw e (rw same)

-- ---- the value behind a branch

module _ {table r f : List ℕ} {plan : List (List ℕ)} (N : Ready table r f plan) {u v : ℕ} (Q : Pair r f u v) (i : ℕ) (hi : i < length (children r u)) (j : ℕ) (hj : j < length (neighbours f v)) where
  pub behind_sits : Sits f (neighbour_in plan v j) (behind_in plan v j)
  unfolding slot
  behind_sits =
      let x = get_or (neighbours f v) j 0 in
      let e : neighbour_in plan v j ≡ x = (N.planned.found v Q.v_low).neighbour j hj in
      let b : behind_in plan v j ≡ offset f x + slot f x v = (N.planned.found v Q.v_low).behind j hj in
      let p = place_low v (choices f x) (mem_occ v (choices f x) (back_in N Q i hi j hj)) in
      rw e (record { low = (mem_adjacent f v x (get_d_mem (neighbours f v) j hj)).0; from = omega arith; upto = omega arith })

  pub behind_value : (z : List ℕ) (y : ℤ) → y ≡ value_in r f z (child_place_in plan u i * width f + behind_in plan v j) → value_of r f z (get_or (children r u) i 0) (get_or (neighbours f v) j 0) v ≡ weighed y
  unfolding value_of
  behind_value z y e = rw (e, branch_index N Q i hi j hj)
