-- A record and the front of a certificate from the bytes that were stored, and that each depends on its own bytes only. Assumes nothing.
use Rattle.std.specs.Prelude.{◌≡◌, List, ℕ, ◌+◌, ◌*◌, ◌≤◌, ◌<◌, length, set, take, ℤ}
use Rattle.std.proofs.Common.{sym, ◌∙◌, subst, ⊎_elim, arith, not-suc-le-zero, length-set, length-take, get_or-take, get_or-set_same, get_or-set_other}
use Rattle.std.proofs.Math.Nat.{min-eq_left}
use Rattle.std.proofs.Math.Path.{ap}
use Rattle.std.proofs.Math.ListN.{get_or}
use Rattle.std.proofs.Math.IntN.{pos}
use Rattle.foundations.specs.Tests.{same?}
use Rattle.model.specs.Lengths.{subproblem_length}
use Rattle.model.specs.Limits.{degree_limit, dual_limit}
use Rattle.model.specs.Graph.{neighbours}
use Rattle.model.specs.Certificate.{head_mark, partner_mark, record_mark, partner_at, others, record_at, record_length, value_in, child_dual, other_dual}
use Rattle.model.specs.Order.{children, u_at}
use Rattle.model.specs.Tree.{count}
use Rattle.records.specs.Others.{others_of, column_in, others_few, OthersAt, others_stand}
use Rattle.records.specs.Places.{NumberAt}
use Rattle.duals.specs.Left.{DualsAt, RecordLeft, FrontLeft}
use Rattle.put.specs.Kept.{Kept, Alike, alike_byte, alike_mark, alike_number}
use Rattle.put.specs.Puts.{Fit, RecordPut}
use Rattle.put.specs.Front.{FrontPut}

-- as many as are taken
pub front_long : (n : ℕ) (x : List ℕ) → n ≤ length x → length (take n x) ≡ n
front_long n x h = simp length-take (min-eq_left h)

-- ---- the front

pub front_left : {r f : List ℕ} {w : ℤ} {p z z' : List ℕ} → FrontPut (count r) (count f) w p z z' → FrontLeft r f z' p w
front_left F = record { head = F.head; n_is = F.n_is; m_is = F.m_is; weighs = F.weighs; marks = F.marks; partners = F.partners }

pub front_as : {n m n' m' : ℕ} {v w : ℤ} {p z z' : List ℕ} → n ≡ n' → m ≡ m' → v ≡ w → FrontPut n m v p z z' → FrontPut n' m' w p z z'
front_as {n} {m} {n'} {m'} {v} {w} {p} {z} {z'} a b c F =
    subst (λ (x : ℕ). FrontPut x m' w p z z') a (subst (λ (x : ℕ). FrontPut n x w p z z') b (subst (λ (x : ℤ). FrontPut n m x p z z') c F))

-- of which the partners are the front of a row
pub front_part : {n m : ℕ} {w : ℤ} {p z z' : List ℕ} → n ≤ length p → FrontPut (length (take n p)) m w (take n p) z z' → FrontPut n m w p z z'
front_part {n} {p = p} h F =
    let e = front_long n p h in
    let G = rw e at F in
    record { head = G.head; n_is = G.n_is; m_is = G.m_is; weighs = G.weighs; marks = G.marks; partners = λ u b. G.partners u b ∙ get_or-take n p u 0 b; kept = G.kept }

pub front_weighs : {r f : List ℕ} {v w : ℤ} {p z : List ℕ} → v ≡ w → FrontLeft r f z p v → FrontLeft r f z p w
front_weighs e F = record { head = F.head; n_is = F.n_is; m_is = F.m_is; weighs = F.weighs ∙ e; marks = F.marks; partners = F.partners }

pub front_same : {r f : List ℕ} {w : ℤ} {p z z' : List ℕ} → Alike 0 (partner_at (count r)) z z' → FrontLeft r f z p w → FrontLeft r f z' p w
front_same A F =
    record {
      head = alike_mark A 0 (omega arith) head_mark (omega arith) ∙ F.head;
      n_is = alike_byte A 2 (omega arith) (omega arith) ∙ F.n_is;
      m_is = alike_byte A 3 (omega arith) (omega arith) ∙ F.m_is;
      weighs = alike_number A 4 (omega arith) (omega arith) ∙ F.weighs;
      marks = λ u h. alike_mark A (partner_at u) (omega arith) partner_mark (omega arith) ∙ F.marks u h;
      partners = λ u h. alike_byte A (partner_at u + 2) (omega arith) (omega arith) ∙ F.partners u h;
    }

-- ---- a record

pub record_same : {table r f : List ℕ} {work : List ℤ} {z z' : List ℕ} {k : ℕ} → Alike (record_at r f k) (record_at r f k + record_length r f k) z z' → RecordLeft table r f work z k → RecordLeft table r f work z' k
unfolding value_in child_dual other_dual record_length
record_same {table} {r} {f} {work} {z} {z'} {k} A R =
    let b = record_at r f k in
    let c = length (children r (u_at r f k)) in
    record {
      y = R.y;
      x = R.x;
      duals = R.duals;
      mark = alike_mark A b (omega arith) record_mark (omega arith) ∙ R.mark;
      value = alike_number A (b + 2) (omega arith) (omega arith) ∙ R.value;
      of_child = λ i h. alike_number A (b + 6 + 4 * i) (omega arith) (omega arith) ∙ R.of_child i h;
      of_other = λ j h. alike_number A (b + 6 + 4 * c + 4 * j) (omega arith) (omega arith) ∙ R.of_other j h;
    }

-- ---- what is stored of one record

-- r has the duals of the neighbours other than the q-th choice, in order, from x, which has all neighbours' in their places
pub record OthersRow (l q : ℕ) (x r : List ℕ) : Type 0 where
  pub long : length r ≡ degree_limit
  pub get : (j : ℕ) → j < l → get_or r j 0 ≡ get_or x (column_in q j) 0

pub others_none : (q : ℕ) (x r : List ℕ) → length r ≡ degree_limit → OthersRow 0 q x r
others_none q x r e = record { long = e; get = λ j h. absurd (not-suc-le-zero h) }

pub others_more : (l q p : ℕ) (x r : List ℕ) → l < degree_limit → p ≡ column_in q l → OthersRow l q x r → OthersRow (l + 1) q x (set r l (get_or x p 0))
others_more l q p x r h e R =
    let n : length r ≡ degree_limit = R.long in
    record {
      long = length-set r l (get_or x p 0) ∙ n;
      get = λ j b. ⊎_elim
          (λ g. rw (g, get_or-set_same r l (get_or x p 0) 0 (omega arith)) (ap (λ (y : ℕ). get_or x y 0) e))
          (λ g. rw (get_or-set_other r l j (get_or x p 0) 0 g) (R.get j (omega arith)))
          (same? j l);
    }

-- y has duals of k children, x those of d neighbours, and each fits; s is the q-th choice
pub record OneFits (y x : List ℕ) (k d q : ℕ) : Type 0 where
  pub choice : q ≤ d
  pub degree : d ≤ degree_limit
  pub few : k ≤ degree_limit
  pub inside : (j : ℕ) → j < others_of d q → column_in q j < d
  pub child_low : (i : ℕ) → i < k → get_or y i 0 ≤ dual_limit
  pub neighbour_low : (j : ℕ) → j < d → get_or x j 0 ≤ dual_limit

-- the record at `here`, which ends at `next`
pub record OnePut (here : ℕ) (w : ℤ) (y : List ℕ) (k : ℕ) (x : List ℕ) (d q : ℕ) (z z' : List ℕ) (next : ℕ) : Type 0 where
  pub ends : next ≡ here + subproblem_length k (others_of d q)
  pub row : List ℕ
  pub others_in : OthersRow (others_of d q) q x row
  pub stored : RecordPut here w y k row (others_of d q) z z'

module _ {y x : List ℕ} {k d q : ℕ} (F : OneFits y x k d q) where
  pub fit_children : Fit y k
  fit_children = record { few = F.few; low = F.child_low }

  pub fit_others : {l : ℕ} {row : List ℕ} → l ≡ others_of d q → OthersRow l q x row → Fit row l
  fit_others {l} {row} e R =
      let a : others_of d q ≤ d = others_few d q in
      let b = F.degree in
      record { few = omega arith; low = λ j h. rw (R.get j h) (F.neighbour_low (column_in q j) (F.inside j (omega arith))) }

-- a record whose row of others is the front of a row
pub record_part : {here : ℕ} {w : ℤ} {y : List ℕ} {k : ℕ} {row : List ℕ} {l : ℕ} {z z' : List ℕ} → l ≤ length row → RecordPut here w y k (take l row) (length (take l row)) z z' → RecordPut here w y k row l z z'
record_part {row = row} {l = l} h B =
    let e = front_long l row h in
    let C = rw e at B in
    record { mark = C.mark; value = C.value; of_child = C.of_child; of_other = λ j b. C.of_other j b ∙ ap pos (get_or-take l row j 0 b); kept = C.kept }

pub one_put : {here l : ℕ} {v w : ℤ} {y : List ℕ} {k : ℕ} {x row : List ℕ} {d q : ℕ} {z z' : List ℕ} {next : ℕ} → l ≡ others_of d q → v ≡ w → next ≡ here + subproblem_length k l → OthersRow l q x row → RecordPut here v y k row l z z' → OnePut here w y k x d q z z' next
one_put {row = row} e g n R B = record { ends = rw e at n; row = row; others_in = rw e at R; stored = rw (e, g) at B }

-- from the first k and the first d alone
module _ {y x : List ℕ} {k d q : ℕ} (ky : k ≤ length y) (dx : d ≤ length x) where
  pub fits_part : OneFits y x k d q → OneFits (take k y) (take d x) (length (take k y)) (length (take d x)) q
  fits_part F = rw (front_long k y ky, front_long d x dx) (record {
    choice = F.choice;
    degree = F.degree;
    few = F.few;
    inside = F.inside;
    child_low = λ i h. rw (get_or-take k y i 0 h) (F.child_low i h);
    neighbour_low = λ j h. rw (get_or-take d x j 0 h) (F.neighbour_low j h);
  })

  pub one_part : {here : ℕ} {w : ℤ} {z z' : List ℕ} {next : ℕ} → OneFits y x k d q → OnePut here w (take k y) (length (take k y)) (take d x) (length (take d x)) q z z' next → OnePut here w y k x d q z z' next
  one_part F B =
      let C = rw (front_long k y ky, front_long d x dx) at B in
      record {
        ends = C.ends;
        row = C.row;
        others_in = record { long = C.others_in.long; get = λ j h. C.others_in.get j h ∙ get_or-take d x (column_in q j) 0 (F.inside j h) };
        stored = record {
          mark = C.stored.mark;
          value = C.stored.value;
          of_child = λ i h. C.stored.of_child i h ∙ ap pos (get_or-take k y i 0 h);
          of_other = C.stored.of_other;
          kept = C.stored.kept;
        };
      }

-- the record that was stored for subproblem k
module _ {table r f : List ℕ} {work : List ℤ} {z z' : List ℕ} {k u v q s here next : ℕ} {w : ℤ} {y x : List ℕ} {c d : ℕ}
    (P : NumberAt r f u v s k) (O : OthersAt f v q s) (D : DualsAt table r f work u v s y x) (B : OnePut here w y c x d q z z' next)
    (begins : here ≡ record_at r f k) (children_are : c ≡ length (children r u)) (degree_is : d ≡ length (neighbours f v)) (value_is : w ≡ get_or work k (pos 0)) where
  others_are : others_of d q ≡ length (others f v s)
  others_are = rw degree_is (sym O.number)

  pub record_left : RecordLeft table r f work z' k
  unfolding value_in child_dual other_dual
  record_left =
      record {
        y = y;
        x = x;
        duals = rw (P.u_is, P.v_is, P.s_is) D;
        mark = rw (← begins) B.stored.mark;
        value = rw (← begins) (B.stored.value ∙ value_is);
        of_child = rw (← begins, P.u_is) (λ i h. B.stored.of_child i (omega arith));
        of_other = rw (← begins, P.u_is, P.v_is, P.s_is, ← children_are) (λ j h.
            let e = others_are in
            B.stored.of_other j (omega arith) ∙ ap pos (B.others_in.get j (omega arith) ∙ ap (λ (m : ℕ). get_or x m 0) (sym (others_stand O j h))));
      }

  pub record_ends : here + subproblem_length c (others_of d q) ≡ record_at r f k + record_length r f k
  record_ends = rw (P.long, begins, children_are, others_are)

  pub record_kept : Kept (record_at r f k) (record_at r f k + record_length r f k) z z'
  record_kept = rw (← record_ends, ← begins) B.stored.kept
