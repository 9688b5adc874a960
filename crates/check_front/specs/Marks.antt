-- Item 20, record by record: record j of a certificate, where it begins, and what is known after the first j of them. Assumes nothing.
use Rattle.std.specs.Prelude.{◌≡◌, true, false, ◌&&◌, cond, List, get_or, set, take, ltb}
use Rattle.std.proofs.Math.Path.{refl, sym, ap}
use Rattle.std.proofs.Common.{◌∙◌, ⊎_elim, add-one, length-set, get_or-set_same, get_or-set_other}
use Rattle.std.proofs.Math.Bool.{Bool}
use Prim.Native.Nat.{ℕ, zero, suc, ◌+◌, ◌-◌, ◌≤◌, ◌<◌}
use native.Mathlib.Omega.{arith}
use Rattle.std.proofs.Math.ListN.{length}
use Rattle.std.proofs.Math.Dec.{eqb}
use Rattle.std.proofs.Math.Seq.{get_or-take, length-take-le, ext_get_or}
use borrow.Author.Tests.{lt-ltb, le-ltb, eq-eqb}
use Rattle.foundations.specs.Tests.{same?}
use Rattle.foundations.specs.Lists.{every, every_step, every_ext, every_sum, length_tab, get_d_tab}
use Rattle.model.specs.Bytes.{byte_at, is_mark}
use Rattle.model.specs.Certificate.{head_mark, partner_mark, record_mark, certificate_length, partner_at, record_at, mapping_in, shape_ok}
use Rattle.model.specs.Lengths.{certificate_head_length, partner_length, subproblem_length}
use Rattle.model.specs.Limits.{vertex_limit}
use Rattle.model.specs.Order.{subproblems}
use Rattle.model.specs.Tree.{count}
use Rattle.records.specs.declared.cursor.Cursor.{Cursor}
use Rattle.records.specs.declared.cursor.Walk.{Walk}
use Rattle.records.specs.declared.cursor.Step.{Step}
use Rattle.records.specs.Cursor.{CursorAt, Follows, Counted, steps, walk_first, cursor_first}
use Rattle.records.specs.Places.{Inputs, inputs_few}
use Rattle.check_front.specs.Weighing.{PartnersOf}

-- ---- record j: 0 is the head, then a partner for each recorded vertex, then the subproblems' records

unfoldable pub place_of : List ℕ → List ℕ → ℕ → ℕ
place_of r f zero = 0
place_of r f (suc j) = cond (ltb j (count r)) (partner_at j) (record_at r f (j - count r))

-- it has its mark, and the head n and m
unfoldable pub marked_at : List ℕ → List ℕ → List ℕ → ℕ → Bool
marked_at r f z zero = is_mark z 0 head_mark && (eqb (byte_at z 2) (count r) && eqb (byte_at z 3) (count f))
marked_at r f z (suc j) = cond (ltb j (count r)) (is_mark z (partner_at j) partner_mark) (is_mark z (record_at r f (j - count r)) record_mark)

module _ (r f : List ℕ) where
  -- a partner, or the first record after the last of them
  pub place_partner : (u : ℕ) → u ≤ count r → place_of r f (u + 1) ≡ partner_at u
  unfolding place_of record_at
  place_partner u h = rw (add-one u) (⊎_elim
      (λ e. let z : u - count r ≡ 0 = omega arith in rw (le-ltb u (count r) (omega arith), z, e))
      (λ n. rw (lt-ltb u (count r) (omega arith)))
      (same? u (count r)))

  pub place_record : (k : ℕ) → place_of r f (count r + 1 + k) ≡ record_at r f k
  unfolding place_of
  place_record k =
      let e : count r + 1 + k ≡ suc (count r + k) = omega arith in
      let d : count r + k - count r ≡ k = omega arith in
      rw (e, le-ltb (count r + k) (count r) (omega arith), d)

  pub marked_head : (z : List ℕ) → marked_at r f z 0 ≡ (is_mark z 0 head_mark && (eqb (byte_at z 2) (count r) && eqb (byte_at z 3) (count f)))
  unfolding marked_at
  marked_head z = refl

  pub marked_partner : (z : List ℕ) (u : ℕ) → u < count r → marked_at r f z (u + 1) ≡ is_mark z (partner_at u) partner_mark
  unfolding marked_at
  marked_partner z u h = rw (add-one u, lt-ltb u (count r) h)

  pub marked_record : (z : List ℕ) (k : ℕ) → marked_at r f z (count r + 1 + k) ≡ is_mark z (record_at r f k) record_mark
  unfolding marked_at
  marked_record z k =
      let e : count r + 1 + k ≡ suc (count r + k) = omega arith in
      let d : count r + k - count r ≡ k = omega arith in
      rw (e, le-ltb (count r + k) (count r) (omega arith), d)

-- ---- what is known after the first records

-- one record more, of so many bytes
abbrev pub moved_on : ℕ → Walk → Bool → ℕ → Cursor → Step
moved_on at w here long c = record { next = at + long; walk = record { ok = w.ok && here; cursor = c } }

-- j are passed, and the next begins at `at`
pub record Walked (r f z : List ℕ) (j at : ℕ) (w : Walk) : Type 0 where
  pub place : at ≡ place_of r f j
  pub seen : w.ok ≡ every (marked_at r f z) j
  pub stands : CursorAt f (j - (count r + 1)) w.cursor.i w.cursor.v w.cursor.q

-- and there is another, in a certificate of the right length
pub record Stepping (r f : List ℕ) (plan : List (List ℕ)) (z : List ℕ) (j at : ℕ) (w : Walk) : Type 0 where
  pub inputs : Inputs r f plan
  pub long : length z ≡ certificate_length r f
  pub walked : Walked r f z j at w
  pub more : j < count r + 1 + subproblems r f

-- none is passed yet
pub walked_none : {r f : List ℕ} {plan : List (List ℕ)} (z : List ℕ) → Inputs r f plan → Walked r f z 0 0 walk_first
unfolding place_of every
walked_none {r} z I = record { place = refl; seen = refl; stands = let e : 0 - (count r + 1) ≡ 0 = omega arith in rw e (cursor_first I) }

-- ---- one record more

-- the head and the partners lie in a certificate of the right length
pub front_inside : (r f z : List ℕ) → length z ≡ certificate_length r f → partner_at (count r) ≤ length z
unfolding certificate_length
front_inside r f z e = omega arith

pub stepped : {r f z : List ℕ} {j at : ℕ} {w : Walk} (here : Bool) (c : Cursor) (long : ℕ) → Walked r f z j at w → here ≡ marked_at r f z j → at + long ≡ place_of r f (j + 1) →
    CursorAt f (j + 1 - (count r + 1)) c.i c.v c.q → Walked r f z (j + 1) (at + long) (record { ok = w.ok && here; cursor = c })
stepped {r} {f} {z} {j} {w = w} here c long W e p s = record { place = p; seen = every_step (marked_at r f z) j w.ok here W.seen e; stands = s }

module _ {r f : List ℕ} {plan : List (List ℕ)} {z : List ℕ} {j at : ℕ} {w : Walk} (S : Stepping r f plan z j at w) where
  W : Walked r f z j at w
  W = S.walked

  -- up to the first record the cursor stays where it is
  stays : j < count r + 1 → CursorAt f (j + 1 - (count r + 1)) w.cursor.i w.cursor.v w.cursor.q
  stays h =
      let a : j + 1 - (count r + 1) ≡ 0 = omega arith in
      let b : j - (count r + 1) ≡ 0 = omega arith in
      rw (a, ← b) W.stands

  -- the head
  module _ (e : j ≡ 0) where
    pub head_at : (at ≡ 0) × (at + certificate_head_length ≤ length z)
    unfolding place_of
    head_at = let a : at ≡ 0 = W.place ∙ rw e in let b = front_inside r f z S.long in (a, omega arith)

    pub head_stepped : (here : Bool) (n k long : ℕ) → n ≡ count r → k ≡ count f → long ≡ certificate_head_length → here ≡ (is_mark z at head_mark && (eqb (byte_at z (at + 2)) n && eqb (byte_at z (at + 3)) k)) →
        Walked r f z (j + 1) (at + long) (record { ok = w.ok && here; cursor = w.cursor })
    head_stepped here n k long en ek el h =
        stepped here w.cursor long W
        (h ∙ rw (en, ek, head_at.0, e) (sym (marked_head r f z)))
        (rw (el, head_at.0, e) (sym (place_partner r f 0 (omega arith))))
        (stays (omega arith))

  -- a partner, of u
  module _ (u : ℕ) (e : j ≡ u + 1) (l : u < count r) where
    pub partner_at_lem : (at ≡ partner_at u) × (at + partner_length ≤ length z)
    partner_at_lem = let a : at ≡ partner_at u = W.place ∙ rw e (place_partner r f u (omega arith)) in let b = front_inside r f z S.long in (a, omega arith)

    pub partner_stepped : (here : Bool) (long : ℕ) → long ≡ partner_length → here ≡ is_mark z at partner_mark → Walked r f z (j + 1) (at + long) (record { ok = w.ok && here; cursor = w.cursor })
    partner_stepped here long el h =
        let next : partner_at u + partner_length ≡ partner_at (u + 1) = omega arith in
        stepped here w.cursor long W
        (h ∙ rw (partner_at_lem.0, e) (sym (marked_partner r f z u l)))
        (rw (el, partner_at_lem.0, e) (next ∙ sym (place_partner r f (u + 1) (omega arith))))
        (stays (omega arith))

  -- the record of subproblem k
  module _ (k : ℕ) (e : j ≡ count r + 1 + k) where
    pub record_low : k < subproblems r f
    record_low = let b = S.more in omega arith

    pub record_cursor : CursorAt f k w.cursor.i w.cursor.v w.cursor.q
    record_cursor = let a : j - (count r + 1) ≡ k = omega arith in rw (← a) W.stands

    here_at : at ≡ record_at r f k
    here_at = W.place ∙ rw e (place_record r f k)

    module _ {children others : ℕ} (N : Counted r f plan w.cursor.i w.cursor.v w.cursor.q children others) where
      pub record_at_lem : at + subproblem_length children others ≤ length z
      record_at_lem = let a = (steps S.inputs record_cursor record_low N).ends in let b = S.long in let d = here_at in omega arith

      pub record_stepped : (here : Bool) (long : ℕ) (c : Cursor) → long ≡ subproblem_length children others → here ≡ is_mark z at record_mark → Follows f w.cursor.i w.cursor.v w.cursor.q c.i c.v c.q →
          Walked r f z (j + 1) (at + long) (record { ok = w.ok && here; cursor = c })
      record_stepped here long c el h F =
          let i : j + 1 ≡ count r + 1 + (k + 1) = omega arith in
          let d : count r + 1 + (k + 1) - (count r + 1) ≡ k + 1 = omega arith in
          stepped here c long W
          (h ∙ rw (here_at, e) (sym (marked_record r f z k)))
          (rw (el, here_at, i) ((steps S.inputs record_cursor record_low N).next ∙ sym (place_record r f (k + 1))))
          (rw (i, d) (F.next k record_cursor))

-- ---- the partners noted on the way

-- those of the first j records
pub record Noted (r z p : List ℕ) (j : ℕ) : Type 0 where
  pub long : length p ≡ vertex_limit
  pub get : (u : ℕ) → u < count r → u + 1 < j → get_or p u 0 ≡ byte_at z (partner_at u + 2)

pub noted_none : (r z p : List ℕ) → length p ≡ vertex_limit → Noted r z p 0
noted_none r z p e = record { long = e; get = λ u l h. absurd (omega arith) }

pub noted_head : {r z p : List ℕ} → Noted r z p 0 → Noted r z p (0 + 1)
noted_head N = record { long = N.long; get = λ u l h. absurd (omega arith) }

pub noted_more : {r z p : List ℕ} (at u : ℕ) → u < vertex_limit → at ≡ partner_at u → Noted r z p (u + 1) → Noted r z (set p u (byte_at z (at + 2))) (u + 1 + 1)
noted_more {r} {z} {p} at u l e N =
    let n : length p ≡ vertex_limit = N.long in
    record {
      long = length-set p u (byte_at z (at + 2)) ∙ n;
      get = λ w lw h. ⊎_elim
          (λ q. rw (q, get_or-set_same p u (byte_at z (at + 2)) 0 (omega arith), e))
          (λ q. rw (get_or-set_other p u w (byte_at z (at + 2)) 0 q) (N.get w lw (omega arith)))
          (same? w u);
    }

pub noted_kept : {r z p : List ℕ} (j : ℕ) → count r < j → Noted r z p j → Noted r z p (j + 1)
noted_kept j l N = record { long = N.long; get = λ u h t. N.get u h (omega arith) }

-- ---- a step of the walk: what it asks

pub record Reading (r f : List ℕ) (plan : List (List ℕ)) (p z : List ℕ) (j at : ℕ) (w : Walk) : Type 0 where
  pub stepping : Stepping r f plan z j at w
  pub noted : Noted r z p j

-- ---- the walk: what is known once j records are passed, and at its end

pub record Marked (r f p z : List ℕ) (j at : ℕ) (w : Walk) : Type 0 where
  pub walked : Walked r f z j at w
  pub noted : Noted r z p j

-- the answer is item 20's, and the partners are the certificate's mapping
pub record AllRead (r f p z : List ℕ) (ok : Bool) : Type 0 where
  pub shaped : ok ≡ shape_ok r f z
  pub partners : PartnersOf r z p

module _ (r f z : List ℕ) where
  marks_all : length z ≡ certificate_length r f → every (marked_at r f z) (count r + 1 + subproblems r f) ≡ shape_ok r f z
  unfolding shape_ok
  marks_all e =
      let M : ℕ → Bool = marked_at r f z in
      let one : count r + 1 ≡ 1 + count r = omega arith in
      let partners : every (λ u. M (1 + u)) (count r) ≡ every (λ u. is_mark z (partner_at u) partner_mark) (count r)
      = every_ext (λ u. M (1 + u)) (λ u. is_mark z (partner_at u) partner_mark) (count r) (λ u h. (let a : 1 + u ≡ u + 1 = omega arith in ap M a) ∙ marked_partner r f z u h) in
      let records : every (λ k. M (count r + 1 + k)) (subproblems r f) ≡ every (λ k. is_mark z (record_at r f k) record_mark) (subproblems r f)
      = every_ext (λ k. M (count r + 1 + k)) (λ k. is_mark z (record_at r f k) record_mark) (subproblems r f) (λ k h. marked_record r f z k) in
      every_sum M (count r + 1) (subproblems r f)
      ∙ ap (λ (t : Bool). t && every (λ k. M (count r + 1 + k)) (subproblems r f)) (ap (every M) one ∙ every_sum M 1 (count r) ∙ ap (λ (t : Bool). t && every (λ u. M (1 + u)) (count r)) head)
      ∙ rw (partners, records, eq-eqb (length z) (certificate_length r f) e) (joined (is_mark z 0 head_mark) (eqb (byte_at z 2) (count r)) (eqb (byte_at z 3) (count f)) _ _)
    where
      head : every (marked_at r f z) 1 ≡ (is_mark z 0 head_mark && (eqb (byte_at z 2) (count r) && eqb (byte_at z 3) (count f)))
      head = unfold every in marked_head r f z

      joined : (a b c d g : Bool) → (((a && (b && c)) && d) && g) ≡ (a && (b && (c && (d && g))))
      joined true true true d g = refl
      joined true true false d g = refl
      joined true false c d g = refl
      joined false b c d g = refl

  mapped_all : (p : List ℕ) (j : ℕ) → count r ≤ vertex_limit → count r < j → Noted r z p j → take (count r) p ≡ mapping_in r z
  unfolding mapping_in
  mapped_all p j few h N =
      let g : ℕ → ℕ = λ u. byte_at z (partner_at u + 2) in
      let n : length p ≡ vertex_limit = N.long in
      let a : length (take (count r) p) ≡ count r = length-take-le (count r) p (omega arith) in
      ext_get_or 0 _ _ (a ∙ sym (length_tab g (count r))) (λ u l. let t : u < count r = omega arith in get_or-take (count r) p u 0 t ∙ N.get u t (omega arith) ∙ sym (get_d_tab g (count r) u 0 t))

pub reading : {r f p z : List ℕ} {plan : List (List ℕ)} {j at : ℕ} {w : Walk} → Inputs r f plan → length z ≡ certificate_length r f → Marked r f p z j at w → j < count r + 1 + subproblems r f → Reading r f plan p z j at w
reading I long M h = record { stepping = record { inputs = I; long = long; walked = M.walked; more = h }; noted = M.noted }

pub marked_none : {r f p : List ℕ} {plan : List (List ℕ)} (z : List ℕ) → Inputs r f plan → length p ≡ vertex_limit → Marked r f p z 0 0 walk_first
marked_none {r} {p = p} z I e = record { walked = walked_none z I; noted = noted_none r z p e }

pub marked_end : {r f p z : List ℕ} {plan : List (List ℕ)} {j at : ℕ} {w : Walk} → Inputs r f plan → length z ≡ certificate_length r f → j ≡ count r + 1 + subproblems r f → Marked r f p z j at w → AllRead r f p z w.ok
marked_end {r} {f} {p} {z} {j = j} I long c M = record {
  shaped = M.walked.seen ∙ rw c (marks_all r f z long);
  partners = record { long = M.noted.long; front = mapped_all r f z p j (inputs_few I).0 (omega arith) M.noted };
}
