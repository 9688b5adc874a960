-- The records of all subproblems, one after the other: what each needs, and what those from one number to another leave. Assumes nothing.
use Rattle.std.specs.Prelude.{◌≡◌, refl, List, ℕ, zero, suc, ◌+◌, ◌*◌, ◌≤◌, ◌<◌, length, get_or, take, ℤ, pos}
use Rattle.std.proofs.Common.{sym, ap, ◌∙◌, subst, ⊎_elim, arith, add-one, mul-le-mul}
use Rattle.foundations.specs.Tests.{same?, less?}
use Rattle.model.specs.Lengths.{subproblem_length}
use Rattle.model.specs.Limits.{vertex_limit, width_limit, subproblem_limit}
use Rattle.model.specs.Certificate.{others, certificate_length, partner_at, record_at, record_length}
use Rattle.model.specs.Graph.{neighbours}
use Rattle.model.specs.Order.{children, choices, offset, width, subproblems}
use Rattle.model.specs.Tree.{count}
use Rattle.model.specs.Values.{values}
use Rattle.certificate.specs.Length.{record_up}
use Rattle.plan.specs.Plan.{child_count_in, degree_in, order_in, offset_in, Ready, Lent, Pair}
use Rattle.plan.specs.Numbers.{ready_sound, width_few, offset_width, offsets_are, number_few}
use Rattle.plan.specs.Pairs.{children_is, degree_is, children_few, degree_few}
use Rattle.records.specs.Others.{others_of, column_in, OthersAt, others_at}
use Rattle.records.specs.Places.{ready_inputs, inputs_few, order_low, NumberAt, number_at}
use Rattle.duals.specs.Left.{DualsAt, RecordLeft}
use Rattle.duals.specs.Fits.{dual_fits}
use Rattle.put.specs.Kept.{Kept, kept_none, kept_then, kept_alike}
use Rattle.write.specs.Frames.{OneFits, OnePut, record_same, record_left, record_ends, record_kept}

-- work numbers that are the values
pub record Full (table r f : List ℕ) (work : List ℤ) : Type 0 where
  pub enough : subproblems r f ≤ length work
  pub filled : take (subproblems r f) work ≡ values table r f

pub full_lent : {table r f : List ℕ} {work : List ℤ} → Full table r f work → Lent r f work
full_lent F = record { enough = F.enough }

-- ---- the records from number a to number b

pub record RecordsLeft (table r f : List ℕ) (work : List ℤ) (a b : ℕ) (z z' : List ℕ) : Type 0 where
  pub left : (j : ℕ) → a ≤ j → j < b → RecordLeft table r f work z' j
  pub kept : Kept (record_at r f a) (record_at r f b) z z'

-- the same, and the next record begins at `next`
pub record Walked (table r f : List ℕ) (work : List ℤ) (a b : ℕ) (z z' : List ℕ) (next : ℕ) : Type 0 where
  pub ends : next ≡ record_at r f b
  pub records : RecordsLeft table r f work a b z z'

pub walked_none : {table r f : List ℕ} {work : List ℤ} (a b : ℕ) (z : List ℕ) {next : ℕ} → a ≡ b → next ≡ record_at r f a → Walked table r f work a b z z next
walked_none {r = r} {f = f} a b z e n = record { ends = n ∙ ap (record_at r f) e; records = record { left = λ j h l. absurd (omega arith); kept = kept_none _ _ z } }

pub record_first : (r f : List ℕ) (k : ℕ) → partner_at (count r) ≤ record_at r f k
unfolding record_at
record_first r f zero = omega arith
record_first r f (suc k) = let h = record_first r f k in omega arith

record_next : (r f : List ℕ) (k : ℕ) → record_at r f (k + 1) ≡ record_at r f k + record_length r f k
unfolding record_at
record_next r f k = rw (add-one, record_at)

records_up : (r f : List ℕ) (a b : ℕ) → a ≤ b → record_at r f a ≤ record_at r f b
records_up r f a b h = ⊎_elim (λ e. rw e (omega arith)) (λ n. let u = record_up r f a b (omega arith) in omega arith) (same? a b)

records_then : {table r f : List ℕ} {work : List ℤ} {a b c : ℕ} {z y x : List ℕ} → a ≤ b → b ≤ c → RecordsLeft table r f work a b z y → RecordsLeft table r f work b c y x → RecordsLeft table r f work a c z x
records_then {r = r} {f = f} {a = a} {b = b} {c = c} p q R S =
    record {
      left = λ j h l. ⊎_elim
          (λ m. record_same (kept_alike S.kept (record_up r f j b m)) (R.left j h m))
          (λ m. S.left j m l)
          (less? j b);
      kept = kept_then (records_up r f a b p) (records_up r f b c q) R.kept S.kept;
    }

pub walked_then : {table r f : List ℕ} {work : List ℤ} {a b c : ℕ} {z y x : List ℕ} {here next : ℕ} → a ≤ b → b ≤ c → Walked table r f work a b z y here → Walked table r f work b c y x next → Walked table r f work a c z x next
walked_then p q R S = record { ends = S.ends; records = records_then p q R.records S.records }

pub walked_end : {table r f : List ℕ} {work : List ℤ} {a b c : ℕ} {z y : List ℕ} {next : ℕ} → Walked table r f work a b z y next → b ≡ c → Walked table r f work a c z y next
walked_end {table} {r} {f} {work} {a} {b} {c} {z} {y} {next} R e = subst (λ (k : ℕ). Walked table r f work a k z y next) e R

-- ---- the i-th vertex u in postorder and v

module _ {table r f : List ℕ} {plan : List (List ℕ)} (N : Ready table r f plan) {i : ℕ} (li : i < count r) where
  pub row_low : i < vertex_limit
  row_low = let a = (inputs_few (ready_inputs N)).0 in omega arith

  pub row_few : (w : ℕ) → w ≡ width f → i * w ≤ subproblem_limit
  row_few w e =
      let l = row_low in
      let a : i ≤ vertex_limit = omega arith in
      let b : i * width f ≤ vertex_limit * width_limit = mul-le-mul a (width_few N) in
      rw e (omega arith)

  pub here_pair : {u v : ℕ} → u ≡ order_in plan i → v < count f → Pair r f u v
  here_pair e lv = record { u_low = rw e (order_low (ready_inputs N) i li).0; v_low = lv }

-- ---- one record: that of u, v and the q-th choice of s, where u has k children and v has d neighbours

pub record Here (table r f : List ℕ) (plan : List (List ℕ)) (work : List ℤ) (i u v q k d : ℕ) : Type 0 where
  pub ready : Ready table r f plan
  pub full : Full table r f work
  pub row : i < count r
  pub column : v < count f
  pub vertex : u ≡ order_in plan i
  pub children_in : k ≡ child_count_in plan u
  pub degree_in_lem : d ≡ degree_in plan v
  pub choice : q ≤ d

pub here_of : {table r f : List ℕ} {plan : List (List ℕ)} {work : List ℤ} {i u v q k d : ℕ} → Ready table r f plan → Full table r f work → (i < count r) × (v < count f) → u ≡ order_in plan i → k ≡ child_count_in plan u → d ≡ degree_in plan v → q ≤ d → Here table r f plan work i u v q k d
here_of N F b e g h c = record { ready = N; full = F; row = b.0; column = b.1; vertex = e; children_in = g; degree_in_lem = h; choice = c }

module _ {table r f : List ℕ} {plan : List (List ℕ)} {work : List ℤ} {i u v q k d : ℕ} (H : Here table r f plan work i u v q k d) where
  Q : Pair r f u v
  Q = here_pair H.ready H.row H.vertex H.column

  here_children : k ≡ length (children r u)
  here_children = H.children_in ∙ children_is H.ready Q

  here_degree : d ≡ length (neighbours f v)
  here_degree = H.degree_in_lem ∙ degree_is H.ready Q

  pub here_choice : q ≤ length (neighbours f v)
  here_choice = let e = here_degree in omega arith

  P : NumberAt r f u v (get_or (choices f v) q 0) (i * width f + (offset f v + q))
  P = rw H.vertex (number_at H.ready i v q H.row H.column here_choice)

  O : OthersAt f v q (get_or (choices f v) q 0)
  O = others_at f (ready_sound H.ready) v q (get_or (choices f v) q 0) H.column here_choice refl

  others_are : others_of d q ≡ length (others f v (get_or (choices f v) q 0))
  others_are = ap (λ (m : ℕ). others_of m q) here_degree ∙ sym O.number

  -- its work number, and where it ends
  pub here_work : (w o : ℕ) → w ≡ width f → o ≡ offset_in plan v → (i * w + o + q ≡ i * width f + (offset f v + q)) × (i * w + o + q < length work) × (i * w + o + q < subproblem_limit)
  here_work w o ew eo =
      let e : o ≡ offset f v = eo ∙ offsets_are H.ready v H.column in
      let a = P.low in
      let m = H.full.enough in
      let n = number_few H.ready in
      let s : i * w + o + q ≡ i * width f + (offset f v + q) = rw (ew, e) (omega arith) in
      (s, omega arith, omega arith)

  pub here_room : {here : ℕ} → here ≡ record_at r f (i * width f + (offset f v + q)) → here + subproblem_length k (others_of d q) ≤ certificate_length r f
  here_room e = let a = P.inside in let b = here_children in let c = others_are in omega arith

  module _ {y x : List ℕ} (D : DualsAt table r f work u v (get_or (choices f v) q 0) y x) where
    pub here_fits : OneFits y x k d q
    here_fits =
        let fits = dual_fits table r f work u v (get_or (choices f v) q 0) y x D P.sub H.ready.passes H.full.filled in
        let a = here_children in
        let b = here_degree in
        let c = others_are in
        record {
          choice = H.choice;
          degree = omega (arith, degree_few H.ready Q);
          few = omega (arith, children_few H.ready Q);
          inside = λ j h. let t : column_in q j < length (neighbours f v) = O.low j (omega arith) in omega arith;
          child_low = λ j h. fits.0 j (omega arith);
          neighbour_low = λ j h. fits.1 j (omega arith);
        }

    pub here_left : {here next : ℕ} {w : ℤ} {z z' : List ℕ} → here ≡ record_at r f (i * width f + (offset f v + q)) → w ≡ get_or work (i * width f + (offset f v + q)) (pos 0) → OnePut here w y k x d q z z' next → Walked table r f work (i * width f + (offset f v + q)) (i * width f + (offset f v + (q + 1))) z z' next
    here_left {here} {next} {w} {z} {z'} e g B =
        let K = i * width f + (offset f v + q) in
        let n : i * width f + (offset f v + (q + 1)) ≡ K + 1 = omega arith in
        rw n (record {
          ends = B.ends ∙ record_ends P O D B e here_children here_degree g ∙ sym (record_next r f K);
          records = record {
            left = λ j h l. let s : j ≡ K = omega arith in rw s (record_left P O D B e here_children here_degree g);
            kept = rw (record_next r f K) (record_kept P O D B e here_children here_degree g);
          };
        })

-- ---- those of a pair of vertices, of a recorded vertex, and all

-- the first of all is behind the partners
pub rows_begin : (r f : List ℕ) (n : ℕ) → n ≡ count r → partner_at n ≡ record_at r f 0
unfolding record_at
rows_begin r f n e = rw e

-- the last of v's is the one before the first of the next
pub pair_end : (f : List ℕ) (i v d : ℕ) → d ≡ length (neighbours f v) → i * width f + (offset f v + (d + 1)) ≡ i * width f + offset f (v + 1)
unfolding offset
pair_end f i v d e = let s : offset f (v + 1) ≡ offset f v + suc (length (neighbours f v)) = rw (add-one v) in omega arith

pub pair_up : (f : List ℕ) (i v : ℕ) → i * width f + offset f v ≤ i * width f + offset f (v + 1)
unfolding offset
pair_up f i v = let s : offset f (v + 1) ≡ offset f v + suc (length (neighbours f v)) = rw (add-one v) in omega arith

pub row_begin : (f : List ℕ) (i : ℕ) → i * width f ≡ i * width f + offset f 0
unfolding offset
row_begin f i = omega arith

pub row_end_lem : {table r f : List ℕ} {plan : List (List ℕ)} → Ready table r f plan → (i : ℕ) → i * width f + offset f (count f) ≡ (i + 1) * width f
row_end_lem {f = f} N i = let e = offset_width (ready_sound N) in rw (add-one i) (omega arith)

pub row_up : (f : List ℕ) (i : ℕ) → i * width f ≤ (i + 1) * width f
row_up f i = rw (add-one i) (omega arith)

pub rows_end : (r f : List ℕ) (n : ℕ) → n ≡ count r → n * width f ≡ subproblems r f
unfolding subproblems
rows_end r f n e = rw e
