-- Item 23, record by record: what is known after the first k records. Assumes nothing.
use Rattle.std.specs.Prelude.{◌≡◌, refl, ◌≢◌, Bool, ◌&&◌, List, ℕ, ◌+◌, ◌*◌, ◌≤◌, ◌<◌, length, ℤ}
use Rattle.std.proofs.Common.{sym, ◌∙◌, arith}
use Rattle.std.proofs.Math.Path.{ap}
use Rattle.foundations.specs.Lists.{every, every_step}
use Rattle.model.specs.Certificate.{record_at, subproblem_ok}
use Rattle.model.specs.Lengths.{subproblem_length}
use Rattle.model.specs.Limits.{pair_limit}
use Rattle.model.specs.Order.{subproblems, offset, width}
use Rattle.plan.specs.Plan.{degree_in}
use Rattle.records.specs.Cursor.{walk_first, cursor_first, CursorAt, CursorIn, Follows, Counted, cursor_in, steps}
use Rattle.records.specs.declared.cursor.Walk.{Walk}
use Rattle.records.specs.declared.cursor.Cursor.{Cursor}
use Rattle.records.specs.Places.{begin_in, found_known}
use Rattle.check_records.specs.Gains.{Given}
use Rattle.check_records.specs.Records.{in_row, PairRead, ChoiceIs, choice_is}

-- k records are passed, and the next begins at `at`; g and weight are the gains and the weight of the pair of vertices of the next, where it is not the pair's first
pub record Walked (g : List ℕ) (weight : ℤ) (table r f : List ℕ) (plan : List (List ℕ)) (z : List ℕ) (k at : ℕ) (w : Walk) : Type 0 where
  pub room : length g ≡ pair_limit
  pub place : at ≡ record_at r f k
  pub seen : w.ok ≡ every (subproblem_ok table r f z) k
  pub stands : CursorAt f k w.cursor.i w.cursor.v w.cursor.q
  pub pair : w.cursor.q ≢ 0 → PairRead table r f plan z w.cursor.i w.cursor.v g weight

-- and there is another
pub record Ruling (g : List ℕ) (weight : ℤ) (table r f : List ℕ) (plan : List (List ℕ)) (z : List ℕ) (at : ℕ) (w : Walk) : Type 0 where
  pub number : ℕ
  pub walked : Walked g weight table r f plan z number at w
  pub more : number < subproblems r f

-- none is passed yet
pub walked_none : {table r f : List ℕ} {plan places : List (List ℕ)} {z : List ℕ} (g : List ℕ) (weight : ℤ) → Given table r f plan places z → length g ≡ pair_limit → Walked g weight table r f plan z 0 (begin_in places 0) walk_first
unfolding every
walked_none {r = r} {f = f} g weight G e =
    let none : 0 * width f ≡ 0 = omega arith in
    record { room = e; place = G.laid.at.begins 0 (omega arith) ∙ ap (record_at r f) none; seen = refl; stands = cursor_first G.laid.inputs; pair = λ n. absurd (n refl) }

-- all are
pub walked_all : {table r f : List ℕ} {plan : List (List ℕ)} {z g : List ℕ} {weight : ℤ} {k at : ℕ} {w : Walk} → k ≡ subproblems r f → Walked g weight table r f plan z k at w → w.ok ≡ every (subproblem_ok table r f z) (subproblems r f)
walked_all {table} {r} {f} {z = z} e W = W.seen ∙ ap (every (subproblem_ok table r f z)) e

-- ---- a step of the walk

module _ {g : List ℕ} {weight : ℤ} {table r f : List ℕ} {plan places : List (List ℕ)} {z : List ℕ} {at : ℕ} {w : Walk} (G : Given table r f plan places z) (S : Ruling g weight table r f plan z at w) where
  pub rule_cursor : CursorIn r f plan w.cursor.i w.cursor.v w.cursor.q
  rule_cursor = cursor_in G.laid.inputs S.walked.stands S.more

  module _ {children others : ℕ} (N : Counted r f plan w.cursor.i w.cursor.v w.cursor.q children others) where
    pub rule_at : at + subproblem_length children others ≤ length z
    rule_at = let a = (steps G.laid.inputs S.walked.stands S.more N).ends in let b = G.long in let d = S.walked.place in omega arith

    module _ {g' : List ℕ} {weight' : ℤ} (P : PairRead table r f plan z w.cursor.i w.cursor.v g' weight') where
      -- the record's test is the model's
      pub rule_is : ChoiceIs table r f z w.cursor.i w.cursor.v w.cursor.q at children others g' weight'
      rule_is =
          let K = found_known G.laid.inputs w.cursor.v rule_cursor.v_low in
          choice_is G P w.cursor.q at children (degree_in plan w.cursor.v) others (let a = K.degree in let b = rule_cursor.q_low in omega arith) refl N.rows (S.walked.place ∙ ap (record_at r f) S.walked.stands.is) N.columns

      pub passing : (here : Bool) (next : ℕ) (c : Cursor) (k : ℕ) → CursorAt f k w.cursor.i w.cursor.v w.cursor.q →
          here ≡ in_row table r f z w.cursor.i (offset f w.cursor.v + w.cursor.q) → next ≡ at + subproblem_length children others → Follows f w.cursor.i w.cursor.v w.cursor.q c.i c.v c.q →
          Walked g' weight' table r f plan z (k + 1) next (record { ok = w.ok && here; cursor = c })
      unfolding in_row
      passing here next c k C eh en F =
          let e : k ≡ S.number = C.is ∙ sym S.walked.stands.is in
          record {
            room = P.gains.long;
            place = rw (en, S.walked.place, e) (steps G.laid.inputs S.walked.stands S.more N).next;
            seen = rw e (every_step (subproblem_ok table r f z) S.number w.ok here S.walked.seen (eh ∙ ap (subproblem_ok table r f z) (sym S.walked.stands.is)));
            stands = F.next k C;
            pair = λ n. let e = F.same n in rw (e.0, e.1) P;
          }
