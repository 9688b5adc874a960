-- Where a certificate's records stand: the array that says it, the steps of the loops that make it, where one record begins, and which subproblem it is
-- of. Assumes nothing.
use Rattle.std.specs.Prelude.{◌≡◌, List, [], ◌∷◌, set}
use Rattle.std.proofs.Math.Path.{refl, sym, ap, subst}
use Rattle.std.proofs.Common.{◌∙◌, ⊎_elim, add-one, mul-le-mul, length-set, get_or-set_same, get_or-set_other}
use Prim.Native.Nat.{ℕ, suc, ◌+◌, ◌*◌, ◌-◌, ◌/◌, ◌%◌, ◌≤◌, ◌<◌}
use native.Mathlib.Omega.{arith}
use Rattle.std.proofs.Math.Arith.{digits_div, digits_mod}
use Rattle.std.proofs.Math.ListN.{length, get_or}
use Rattle.foundations.specs.Tests.{same?}
use Rattle.model.specs.Certificate.{squares, certificate_length, partner_at, others, record_length, record_at}
use Rattle.model.specs.Graph.{neighbours}
use Rattle.model.specs.Lengths.{subproblem_length}
use Rattle.model.specs.Limits.{vertex_limit, degree_limit, width_limit, square_limit, certificate_limit, prefix_limit}
use Rattle.model.specs.Order.{children, choices, width, subproblems, offset, index, u_at, v_at, s_at}
use Rattle.model.specs.Tree.{count}
use Rattle.model.specs.Values.{Subproblem}
use Rattle.trees.specs.Accepted.{Sound}
use Rattle.trees.specs.Neighbours.{few_neighbours}
use Rattle.trees.specs.Positions.{sub_at, position_of, offset_up}
use Rattle.certificate.specs.Length.{record_inside, length_most}
use Rattle.certificate.specs.Places.{others_before, row_size, record_place, row_step, rows_end, record_begins, place_in, row_begins, squares_first, squares_add}
use Rattle.plan.specs.Plan.{child_count_in, order_in, degree_in, offset_in, Ready}
use Rattle.plan.specs.Numbers.{Located, ready_recorded, ready_sound, width_few, offset_width, offsets_are, number_u, number_v, number_s}

-- ---- the array: row i says where the records of the i-th vertex in postorder begin, and what the squares of the degrees of the first i found vertices
-- add up to

abbrev pub begin_in : List (List ℕ) → ℕ → ℕ
begin_in places i = get_or (get_or places i []) 0 0

abbrev pub squares_in : List (List ℕ) → ℕ → ℕ
squares_in places v = get_or (get_or places v []) 1 0

-- the sums of squares up to vertex n
pub record SquaresTo (f : List ℕ) (n : ℕ) (places : List (List ℕ)) : Type 0 where
  pub long : length places ≡ prefix_limit
  pub get : (v : ℕ) → v ≤ n → squares_in places v ≡ squares f v

-- all of them, and where the rows up to row n begin
pub record PlacesTo (r f : List ℕ) (n : ℕ) (places : List (List ℕ)) : Type 0 where
  pub long : length places ≡ prefix_limit
  pub begins : (i : ℕ) → i ≤ n → begin_in places i ≡ record_at r f (i * width f)
  pub square : (v : ℕ) → v ≤ count f → squares_in places v ≡ squares f v

-- ---- what the functions require

-- two trees that pass items 1 to 12, 25 and 26 with some table, and their plan
pub record Inputs (r f : List ℕ) (plan : List (List ℕ)) : Type 0 where
  pub table : List ℕ
  pub ready : Ready table r f plan

-- and where their records stand
pub record Laid (r f : List ℕ) (plan places : List (List ℕ)) : Type 0 where
  pub inputs : Inputs r f plan
  pub at : PlacesTo r f (count r) places

pub laid : {table r f : List ℕ} {plan places : List (List ℕ)} → Ready table r f plan → PlacesTo r f (count r) places → Laid r f plan places
laid {table} N at = record { inputs = record { table = table; ready = N }; at = at }

-- the records of the i-th vertex in postorder begin at `first`, and have `own` bytes beside the duals of v's neighbours
pub record RowBegins (r f : List ℕ) (i first own : ℕ) : Type 0 where
  pub low : i < count r
  pub begins : first ≡ record_at r f (i * width f)
  pub size : own ≡ row_size r i

-- what the plan has of found vertex v
pub record FoundKnown (f : List ℕ) (plan : List (List ℕ)) (v : ℕ) : Type 0 where
  pub low : v < vertex_limit
  pub degree : degree_in plan v ≡ length (neighbours f v)
  pub few : length (neighbours f v) ≤ degree_limit
  pub offset_low : offset_in plan v ≤ width_limit

-- ---- no sum yet

pub squares_none : (f : List ℕ) (places : List (List ℕ)) → length places ≡ prefix_limit → SquaresTo f 0 (set places 0 (0 ∷ 0 ∷ []))
squares_none f places e = record {
  long = length-set places 0 (0 ∷ 0 ∷ []) ∙ e;
  get = λ v h. let q : v ≡ 0 = omega arith in rw (q, get_or-set_same places 0 (0 ∷ 0 ∷ []) [] (omega arith)) (squares_first f);
}

-- ---- of both trees

pub ready_inputs : {table r f : List ℕ} {plan : List (List ℕ)} → Ready table r f plan → Inputs r f plan
ready_inputs {table} N = record { table = table; ready = N }

module _ {r f : List ℕ} {plan : List (List ℕ)} (I : Inputs r f plan) where
  pub inputs_recorded : Sound r
  inputs_recorded = ready_recorded I.ready

  pub inputs_found : Sound f
  inputs_found = ready_sound I.ready

  pub inputs_few : (count r ≤ vertex_limit) × (count f ≤ vertex_limit)
  inputs_few = (inputs_recorded.passed.ends.few, inputs_found.passed.ends.few)

  pub inputs_length : certificate_length r f ≤ certificate_limit
  inputs_length = length_most I.table r f I.ready.passes

  pub order_low : (i : ℕ) → i < count r → (order_in plan i < count r) × (order_in plan i < vertex_limit)
  order_low i l =
      let a : order_in plan i < count r = rw (I.ready.planned.recorded i l).order (position_of r inputs_recorded.passed.ends inputs_recorded.passed.tree i l).0 in
      let b = inputs_few.0 in
      (a, omega arith)

  pub size_known : (i : ℕ) → i < count r → (i < vertex_limit) × (order_in plan i < vertex_limit) × (child_count_in plan (order_in plan i) ≤ degree_limit)
  size_known i l =
      let u = order_low i l in
      let K = I.ready.planned.recorded (order_in plan i) u.0 in
      let b = inputs_few.0 in
      (omega arith, u.1, rw K.child_count K.few)

  pub size_is : (i : ℕ) → i < count r → subproblem_length (child_count_in plan (order_in plan i)) 0 ≡ row_size r i
  unfolding row_size
  size_is i l = rw ((I.ready.planned.recorded (order_in plan i) (order_low i l).0).child_count, (I.ready.planned.recorded i l).order)

  pub found_known : (v : ℕ) → v < count f → FoundKnown f plan v
  found_known v l =
      let a = inputs_few.1 in
      let b : offset f v + length (choices f v) ≤ offset f (count f) = offset_up f v (count f) l in
      let c : offset f (count f) ≡ width f = offset_width inputs_found in
      let d = width_few I.ready in
      let P = I.ready.planned.found v l in
      let o : offset_in plan v ≡ offset f v = P.begins in
      record { low = omega arith; degree = P.degree; few = few_neighbours f _ _ inputs_found.passed v l; offset_low = omega arith }

  pub squares_next : (v d sum : ℕ) → v < count f → d ≡ degree_in plan v → sum ≡ squares f v → (sum + d * d ≡ squares f (v + 1)) × (squares f (v + 1) ≤ square_limit)
  squares_next v d sum l e g = squares_add f _ _ inputs_found.passed v d sum l (e ∙ (I.ready.planned.found v l).degree) g

  pub squares_more : {places : List (List ℕ)} (v x : ℕ) → v < count f → SquaresTo f v places → x ≡ squares f (v + 1) → SquaresTo f (v + 1) (set places (v + 1) (0 ∷ x ∷ []))
  squares_more {places} v x l B e =
      let n : length places ≡ prefix_limit = B.long in
      let few = inputs_few.1 in
      record {
        long = length-set places (v + 1) (0 ∷ x ∷ []) ∙ n;
        get = λ w h. ⊎_elim
            (λ q. rw (q, get_or-set_same places (v + 1) (0 ∷ x ∷ []) [] (omega arith)) e)
            (λ q. rw (get_or-set_other places (v + 1) w (0 ∷ x ∷ []) [] q) (B.get w (omega arith)))
            (same? w (v + 1));
      }

  pub squares_last : {places : List (List ℕ)} (m : ℕ) → m ≡ count f → SquaresTo f (count f) places → squares_in places m ≡ squares f (count f)
  squares_last m e B = rw e (B.get (count f) (omega arith))

  -- ---- where rows begin

  pub places_first : (n : ℕ) → n ≡ count r → partner_at n ≡ record_at r f (0 * width f)
  unfolding record_at
  places_first n e = rw e (ap (record_at r f) zero_mul)
    where
      zero_mul : 0 ≡ 0 * width f
      zero_mul = omega arith

  pub places_none : {places : List (List ℕ)} (x : ℕ) → x ≡ record_at r f (0 * width f) → SquaresTo f (count f) places → PlacesTo r f 0 (set places 0 (x ∷ 0 ∷ []))
  places_none {places} x e B =
      let n : length places ≡ prefix_limit = B.long in
      record {
        long = length-set places 0 (x ∷ 0 ∷ []) ∙ n;
        begins = λ i h. let q : i ≡ 0 = omega arith in rw (q, get_or-set_same places 0 (x ∷ 0 ∷ []) [] (omega arith)) e;
        square = λ v h. ⊎_elim
            (λ q. rw (q, get_or-set_same places 0 (x ∷ 0 ∷ []) [] (omega arith)) (squares_first f))
            (λ q. rw (get_or-set_other places 0 v (x ∷ 0 ∷ []) [] q) (B.get v h))
            (same? v 0);
      }

  pub places_next : (i w s q x : ℕ) → i < count r → w ≡ width f → s ≡ subproblem_length (child_count_in plan (order_in plan i)) 0 → q ≡ squares f (count f) → x ≡ record_at r f (i * width f) →
      (x + w * s + 4 * q ≡ record_at r f ((i + 1) * width f)) × (record_at r f ((i + 1) * width f) ≤ certificate_limit)
  places_next i w s q x l ew es eq ex =
      let a = row_step I.table r f I.ready.passes i l in
      let b = row_begins I.table r f I.ready.passes (i + 1) (omega arith) in
      (rw (ex, ew, es, eq, size_is i l) (omega arith), b)

  pub places_more : {places : List (List ℕ)} (i x s : ℕ) → i < count r → PlacesTo r f i places → x ≡ record_at r f ((i + 1) * width f) → s ≡ squares_in places (i + 1) → PlacesTo r f (i + 1) (set places (i + 1) (x ∷ s ∷ []))
  places_more {places} i x s l B e g =
      let n : length places ≡ prefix_limit = B.long in
      let few = inputs_few.0 in
      record {
        long = length-set places (i + 1) (x ∷ s ∷ []) ∙ n;
        begins = λ w h. ⊎_elim
            (λ q. rw (q, get_or-set_same places (i + 1) (x ∷ s ∷ []) [] (omega arith)) e)
            (λ q. rw (get_or-set_other places (i + 1) w (x ∷ s ∷ []) [] q) (B.begins w (omega arith)))
            (same? w (i + 1));
        square = λ v h. ⊎_elim
            (λ q. rw (q, get_or-set_same places (i + 1) (x ∷ s ∷ []) [] (omega arith)) (g ∙ B.square (i + 1) (omega arith)))
            (λ q. rw (get_or-set_other places (i + 1) v (x ∷ s ∷ []) [] q) (B.square v h))
            (same? v (i + 1));
      }

  -- the last row ends with the certificate
  pub places_end : {places : List (List ℕ)} → PlacesTo r f (count r) places → begin_in places (count r) ≡ certificate_length r f
  places_end B = B.begins (count r) (omega arith) ∙ rows_end I.table r f I.ready.passes

-- ---- where a record begins

pub before_small : (d q : ℕ) → d ≤ degree_limit → q ≤ d → (q - 1) * (d - 1) ≤ 49
before_small d q a b = mul-le-mul {n₁ = q - 1} {m₁ = d - 1} {n₂ = 7} {m₂ = 7} (omega arith) (omega arith)

module _ {r f : List ℕ} {plan places : List (List ℕ)} (L : Laid r f plan places) where
  -- the row of the i-th vertex, as the arrays have it
  pub row_at : (i first own : ℕ) → i < count r → first ≡ begin_in places i → own ≡ subproblem_length (child_count_in plan (order_in plan i)) 0 → RowBegins r f i first own
  row_at i first own l a b = record { low = l; begins = a ∙ L.at.begins i (omega arith); size = b ∙ size_is L.inputs i l }

  -- the parts' sum is the place, and it is small
  pub stands_at : {i first own : ℕ} (v q d o s b : ℕ) → RowBegins r f i first own → v < count f → q ≤ length (neighbours f v) → d ≡ degree_in plan v → o ≡ offset_in plan v → s ≡ squares_in places v → b ≡ others_before d q →
      (first + (o + q) * own + 4 * (s + b) ≡ record_at r f (i * width f + (offset f v + q))) × (record_at r f (i * width f + (offset f v + q)) + 6 ≤ certificate_limit)
  stands_at {i} {first} {own} v q d o s b R lv lq ed eo es eb =
      let passes = L.inputs.ready.passes in
      let table = L.inputs.table in
      let p = record_place table r f passes i v q R.low lv lq in
      let m = record_begins table r f passes (i * width f + (offset f v + q)) (place_in table r f passes i v q R.low lv lq) in
      (rw (R.begins, R.size, eo, es, eb, ed, (L.inputs.ready.planned.found v lv).degree, (L.inputs.ready.planned.found v lv).begins, L.at.square v (omega arith)) (omega arith), m)

-- ---- which subproblem's it is

-- number k is that of the i-th vertex u in postorder, v, and s, the q-th choice for v
pub record NumberAt (r f : List ℕ) (u v s k : ℕ) : Type 0 where
  pub low : k < subproblems r f
  pub u_is : u_at r f k ≡ u
  pub v_is : v_at f k ≡ v
  pub s_is : s_at f k ≡ s
  pub sub : Subproblem r f u v s
  pub number : index r f u v s ≡ k
  pub long : record_length r f k ≡ subproblem_length (length (children r u)) (length (others f v s))
  pub inside : record_at r f k + subproblem_length (length (children r u)) (length (others f v s)) ≤ certificate_length r f

module _ {table r f : List ℕ} {plan : List (List ℕ)} (N : Ready table r f plan) where
  pub number_at : (i v q : ℕ) → i < count r → v < count f → q ≤ length (neighbours f v) → NumberAt r f (order_in plan i) v (get_or (choices f v) q 0) (i * width f + (offset f v + q))
  unfolding offset record_length
  number_at i v q li lv lq =
      let k = i * width f + (offset f v + q) in
      let s = get_or (choices f v) q 0 in
      let r_sound = ready_recorded N in
      let f_sound = ready_sound N in
      let a : offset f v + length (choices f v) ≤ offset f (count f) = offset_up f v (count f) lv in
      let b : offset f (count f) ≡ width f = offset_width f_sound in
      let h : offset f v + q < width f = omega arith in
      let o : offset_in plan v ≡ offset f v = offsets_are N v lv in
      let step : offset f (v + 1) ≡ offset f v + suc (length (neighbours f v)) = rw (add-one v) in
      let z : Located (offset_in plan) (count f) (offset f v + q) v = record { low = lv; from = λ h. omega arith; upto = λ h. let o1 = offsets_are N (v + 1) (omega arith) in omega arith } in
      let m : k % width f ≡ offset f v + q = digits_mod i h in
      let d : k / width f ≡ i = digits_div i h in
      let low : k < subproblems r f = place_in table r f N.passes i v q li lv lq in
      let lo : Located (offset_in plan) (count f) (k % width f) v = rw m z in
      let eu : u_at r f k ≡ order_in plan i = sym (number_u N k low) ∙ ap (λ (x : ℕ). order_in plan x) d in
      let ev : v_at f k ≡ v = number_v N k (count f) v refl lo in
      let es : s_at f k ≡ s = number_s N k (count f) v q refl lo (rw m (omega arith)) in
      let S = sub_at r f r_sound.passed.ends r_sound.passed.tree f_sound.passed.ends f_sound.passed.tree k low in
      let s_sub : Subproblem r f (u_at r f k) (v_at f k) (s_at f k) = record { u_low = S.u_low; v_low = S.v_low; s_in = S.s_in } in
      let g : record_length r f k ≡ subproblem_length (length (children r (order_in plan i))) (length (others f v s)) = rw (eu, ev, es) in
      record {
        low = low;
        u_is = eu;
        v_is = ev;
        s_is = es;
        sub = rw (eu, ev, es) at s_sub;
        number = rw (eu, ev, es) at S.here;
        long = g;
        inside = subst (λ (x : ℕ). record_at r f k + x ≤ certificate_length r f) g (record_inside table r f N.passes k low);
      }
