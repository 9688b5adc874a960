-- Going from record to record: the cursor of subproblem k, and that of the next; the counts that its record's length hangs on. Assumes nothing.
use Rattle.std.specs.Prelude.{◌≡◌, refl, ◌≢◌, true, List, length, get_or}
use Rattle.std.proofs.Common.{ap, sym, ◌∙◌, ⊎_elim, add-one, mul-le-mul}
use Prim.Native.Nat.{ℕ, suc, ◌+◌, ◌*◌, ◌≤◌, ◌<◌}
use native.Mathlib.Omega.{arith}
use Rattle.foundations.specs.Tests.{less?}
use Rattle.model.specs.Certificate.{certificate_length, others, record_length, record_at}
use Rattle.model.specs.Graph.{neighbours}
use Rattle.model.specs.Lengths.{subproblem_length}
use Rattle.model.specs.Limits.{degree_limit}
use Rattle.model.specs.Order.{children, choices, width, subproblems, offset}
use Rattle.model.specs.Tree.{count}
use Rattle.certificate.specs.Length.{record_inside}
use Rattle.plan.specs.Plan.{child_count_in, order_in, degree_in}
use Rattle.plan.specs.Numbers.{offset_width, ready_sound}
use Rattle.records.specs.declared.cursor.Walk.{Walk}
use Rattle.records.specs.Others.{others_of, others_at, others_few}
use Rattle.records.specs.Places.{Inputs, inputs_found, order_low, size_known, found_known, number_at}

-- ---- the cursor of subproblem k: the i-th vertex in postorder, v, and the q-th choice of s

pub record CursorAt (f : List ℕ) (k i v q : ℕ) : Type 0 where
  pub is : k ≡ i * width f + (offset f v + q)
  pub v_low : v < count f
  pub q_low : q ≤ length (neighbours f v)

pub cursor_first : {r f : List ℕ} {plan : List (List ℕ)} → Inputs r f plan → CursorAt f 0 0 0 0
unfolding offset
cursor_first I = let o = (inputs_found I).passed.ends.some in record { is = omega arith; v_low = omega arith; q_low = omega arith }

-- of a subproblem that there is, the vertex is one of the tree
pub cursor_low : (r : List ℕ) {f : List ℕ} {k i v q : ℕ} → CursorAt f k i v q → k < subproblems r f → i < count r
unfolding subproblems
cursor_low r {f} {k} {i} C l = ⊎_elim (λ h. h) (λ h. absurd (over h)) (less? i (count r))
  where
    over : count r ≤ i → ⊥
    over h = let a : count r * width f ≤ i * width f = mul-le-mul h (omega arith) in let e = C.is in omega arith

-- what the functions ask of a cursor
pub record CursorIn (r f : List ℕ) (plan : List (List ℕ)) (i v q : ℕ) : Type 0 where
  pub inputs : Inputs r f plan
  pub i_low : i < count r
  pub v_low : v < count f
  pub q_low : q ≤ length (neighbours f v)

pub cursor_in : {r f : List ℕ} {plan : List (List ℕ)} {k i v q : ℕ} → Inputs r f plan → CursorAt f k i v q → k < subproblems r f → CursorIn r f plan i v q
cursor_in {r} I C l = record { inputs = I; i_low = cursor_low r C l; v_low = C.v_low; q_low = C.q_low }

-- a walk that begins at the first record
abbrev pub walk_first : Walk
walk_first = record { ok = true; cursor = record { i = 0; v = 0; q = 0 } }

-- ---- the next one

-- of the next subproblem; where s is not v itself, it is of the same pair
pub record Follows (f : List ℕ) (i v q i' v' q' : ℕ) : Type 0 where
  pub next : (k : ℕ) → CursorAt f k i v q → CursorAt f (k + 1) i' v' q'
  pub same : q' ≢ 0 → (i' ≡ i) × (v' ≡ v)

module _ {r f : List ℕ} {plan : List (List ℕ)} {i v q : ℕ} (C : CursorIn r f plan i v q) where
  pub follows_choice : (d : ℕ) → d ≡ degree_in plan v → q < d → Follows f i v q i v (q + 1)
  follows_choice d e l =
      let g = (found_known C.inputs v C.v_low).degree in
      record { next = λ k A. let a = A.is in record { is = omega arith; v_low = A.v_low; q_low = omega arith }; same = λ n. (refl, refl) }

  pub follows_vertex : (d m : ℕ) → d ≡ degree_in plan v → d ≤ q → m ≡ count f → v + 1 < m → Follows f i v q i (v + 1) 0
  unfolding offset
  follows_vertex d m e l em h =
      let g = (found_known C.inputs v C.v_low).degree in
      let b = C.q_low in
      let step : offset f (v + 1) ≡ offset f v + suc (length (neighbours f v)) = rw (add-one v) in
      record { next = λ k A. let a = A.is in record { is = omega arith; v_low = omega arith; q_low = omega arith }; same = λ n. absurd (n refl) }

  pub follows_row : (d m : ℕ) → d ≡ degree_in plan v → d ≤ q → m ≡ count f → m ≤ v + 1 → Follows f i v q (i + 1) 0 0
  unfolding offset
  follows_row d m e l em h =
      let g = (found_known C.inputs v C.v_low).degree in
      let b = C.q_low in
      let lv = C.v_low in
      let step : offset f (v + 1) ≡ offset f v + suc (length (neighbours f v)) = rw (add-one v) in
      let last : v + 1 ≡ count f = omega arith in
      let all : offset f (v + 1) ≡ width f = rw last (offset_width (inputs_found C.inputs)) in
      let row : (i + 1) * width f ≡ i * width f + width f = omega arith in
      record { next = λ k A. let a = A.is in record { is = omega arith; v_low = omega arith; q_low = omega arith }; same = λ n. absurd (n refl) }

-- ---- its record's counts

pub record Counted (r f : List ℕ) (plan : List (List ℕ)) (i v q children others : ℕ) : Type 0 where
  pub rows : children ≡ child_count_in plan (order_in plan i)
  pub columns : others ≡ others_of (degree_in plan v) q
  pub rows_few : children ≤ degree_limit
  pub columns_few : others ≤ degree_limit
  pub long : (k : ℕ) → CursorAt f k i v q → record_length r f k ≡ subproblem_length children others

pub counted : {r f : List ℕ} {plan : List (List ℕ)} {i v q : ℕ} → CursorIn r f plan i v q → (children others : ℕ) → children ≡ child_count_in plan (order_in plan i) → others ≡ others_of (degree_in plan v) q → Counted r f plan i v q children others
counted {r} {f} {plan} {i} {v} {q} C n l en el =
    let I = C.inputs in
    let K = found_known I v C.v_low in
    let few = (size_known I i C.i_low).2 in
    let less = others_few (degree_in plan v) q in
    let d = K.degree in
    let df = K.few in
    record {
      rows = en;
      columns = el;
      rows_few = omega arith;
      columns_few = omega arith;
      long = λ k A. ap (record_length r f) A.is ∙ (number_at I.ready i v q C.i_low C.v_low C.q_low).long ∙ rw (en, el, d, children_are, others_are);
    }
  where
    children_are : child_count_in plan (order_in plan i) ≡ length (children r (order_in plan i))
    children_are = (C.inputs.ready.planned.recorded (order_in plan i) (order_low C.inputs i C.i_low).0).child_count

    others_are : others_of (length (neighbours f v)) q ≡ length (others f v (get_or (choices f v) q 0))
    others_are = sym (others_at f (ready_sound C.inputs.ready) v q (get_or (choices f v) q 0) C.v_low C.q_low refl).number

-- ---- its record lies in the certificate, and the next begins where it ends

pub record Steps (r f : List ℕ) (k children others : ℕ) : Type 0 where
  pub ends : record_at r f k + subproblem_length children others ≤ certificate_length r f
  pub next : record_at r f k + subproblem_length children others ≡ record_at r f (k + 1)

pub steps : {r f : List ℕ} {plan : List (List ℕ)} {k i v q children others : ℕ} → Inputs r f plan → CursorAt f k i v q → k < subproblems r f → Counted r f plan i v q children others → Steps r f k children others
unfolding record_at
steps {r} {f} {plan} {k} I A l N =
    let e = N.long k A in
    let a = record_inside I.table r f I.ready.passes k l in
    record { ends = rw (← e) a; next = rw (add-one k, e) }
