-- `mark_step` meets its contract: head, partner or record. Assumes nothing.
use Rattle.std.proofs.Common.{arith, ◌≡◌, ◌+◌, ◌-◌, ◌<◌, sym, subst}
use Rattle.std.specs.Prelude.{ℕ, set}
use Rattle.model.specs.Bytes.{byte_at}
use Rattle.model.specs.Limits.{vertex_limit}
use Rattle.model.specs.Tree.{count}
use Rattle.trees.specs.Accepted.{whole}
use Rattle.records.specs.Cursor.{cursor_in}
use Rattle.records.specs.Places.{inputs_recorded, inputs_found, inputs_few, inputs_length}
use Rattle.check_front.specs.Marks.{Noted, head_at, head_stepped, partner_at_lem, partner_stepped, record_low, record_cursor, record_at_lem, record_stepped, noted_head, noted_more, noted_kept}
use Rattle.check_front.proofs.marks.mark_step.Goals as goal

pub vertex_count-n-requires : goal.vertex_count-n-requires
vertex_count-n-requires c = whole (inputs_recorded c.requires.stepping.inputs).passed.ends

-- ---- the head

pub vertex_count-requires : goal.vertex_count-requires
vertex_count-requires c = whole (inputs_found c.requires.stepping.inputs).passed.ends

pub is_head-here-requires : goal.is_head-here-requires
is_head-here-requires c = omega (arith, (head_at c.requires.stepping c.if-number-eq0.true).1)

pub moved-requires : goal.moved-requires
moved-requires c = omega (arith, c.certificate_head_length.ensures, (head_at c.requires.stepping c.if-number-eq0.true).0)

pub returns-then-number-eq0 : goal.returns-then-number-eq0
returns-then-number-eq0 c = record {
  walked = rw c.moved.ensures (head_stepped c.requires.stepping c.if-number-eq0.true _ _ _ _ c.vertex_count-n.ensures c.vertex_count.ensures c.certificate_head_length.ensures c.is_head-here.ensures);
  noted = rw c.if-number-eq0.true (noted_head (rw c.if-number-eq0.true at c.requires.noted));
}

-- ---- a partner

pub is_mark-here-requires : goal.is_mark-here-requires
is_mark-here-requires c =
    let low : c.args.number - 1 < count c.args.recorded.now = omega (arith, c.if-number-eq0.false, c.if-number-n.true, c.vertex_count-n.ensures) in
    let is : c.args.number ≡ c.args.number - 1 + 1 = omega (arith, c.if-number-eq0.false) in
    omega (arith, (partner_at_lem c.requires.stepping _ is low).1)

pub bounds-z-at : goal.bounds-z-at
bounds-z-at c =
    let low : c.args.number - 1 < count c.args.recorded.now = omega (arith, c.if-number-eq0.false, c.if-number-n.true, c.vertex_count-n.ensures) in
    let is : c.args.number ≡ c.args.number - 1 + 1 = omega (arith, c.if-number-eq0.false) in
    omega (arith, (partner_at_lem c.requires.stepping _ is low).1)

pub overflow_add-p : goal.overflow_add-p
overflow_add-p c =
    let low : c.args.number - 1 < count c.args.recorded.now = omega (arith, c.if-number-eq0.false, c.if-number-n.true, c.vertex_count-n.ensures) in
    let is : c.args.number ≡ c.args.number - 1 + 1 = omega (arith, c.if-number-eq0.false) in
    omega (arith, (partner_at_lem c.requires.stepping _ is low).0, low, (inputs_few c.requires.stepping.inputs).0)

pub bounds-p-number : goal.bounds-p-number
bounds-p-number c = omega (arith, c.if-number-eq0.false, c.if-number-n.true, c.vertex_count-n.ensures, (inputs_few c.requires.stepping.inputs).0)

pub moved-requires-then-number-n : goal.moved-requires-then-number-n
moved-requires-then-number-n c =
    let low : c.args.number - 1 < count c.args.recorded.now = omega (arith, c.if-number-eq0.false, c.if-number-n.true, c.vertex_count-n.ensures) in
    let is : c.args.number ≡ c.args.number - 1 + 1 = omega (arith, c.if-number-eq0.false) in
    omega (arith, c.partner_length.ensures, (partner_at_lem c.requires.stepping _ is low).0, low, (inputs_few c.requires.stepping.inputs).0)

pub returns-then-number-n : goal.returns-then-number-n
returns-then-number-n c =
    let low : c.args.number - 1 < count c.args.recorded.now = omega (arith, c.if-number-eq0.false, c.if-number-n.true, c.vertex_count-n.ensures) in
    let is : c.args.number ≡ c.args.number - 1 + 1 = omega (arith, c.if-number-eq0.false) in
    let u = c.args.number - 1 in
    let few : u < vertex_limit = omega (arith, low, (inputs_few c.requires.stepping.inputs).0) in
    let before = subst (Noted c.args.recorded.now c.args.z.now c.args.p.now) is c.requires.noted in
    let after = noted_more c.args.at u few (partner_at_lem c.requires.stepping u is low).0 before in
    record {
      walked = rw c.moved-then-number-n.ensures (partner_stepped c.requires.stepping _ is low _ _ c.partner_length.ensures c.is_mark-here.ensures);
      noted = subst (λ (j : ℕ). Noted c.args.recorded.now c.args.z.now (set c.args.p.now u (byte_at c.args.z.now (c.args.at + 2))) (j + 1)) (sym is) after;
    }

-- ---- a record

pub counts_of-counts-requires : goal.counts_of-counts-requires
counts_of-counts-requires c =
    let is : c.args.number ≡ count c.args.recorded.now + 1 + (c.args.number - (count c.args.recorded.now + 1)) = omega (arith, c.if-number-n.false, c.vertex_count-n.ensures) in
    let S = c.requires.stepping in
    cursor_in S.inputs (record_cursor S _ is) (record_low S _ is)

pub next-c-requires : goal.next-c-requires
next-c-requires c =
    let is : c.args.number ≡ count c.args.recorded.now + 1 + (c.args.number - (count c.args.recorded.now + 1)) = omega (arith, c.if-number-n.false, c.vertex_count-n.ensures) in
    let S = c.requires.stepping in
    cursor_in S.inputs (record_cursor S _ is) (record_low S _ is)

pub is_mark-here-requires-2 : goal.is_mark-here-requires-2
is_mark-here-requires-2 c =
    let is : c.args.number ≡ count c.args.recorded.now + 1 + (c.args.number - (count c.args.recorded.now + 1)) = omega (arith, c.if-number-n.false, c.vertex_count-n.ensures) in
    omega (arith, record_at_lem c.requires.stepping _ is c.counts_of-counts.ensures)

pub moved-requires-2 : goal.moved-requires-2
moved-requires-2 c =
    let is : c.args.number ≡ count c.args.recorded.now + 1 + (c.args.number - (count c.args.recorded.now + 1)) = omega (arith, c.if-number-n.false, c.vertex_count-n.ensures) in
    let S = c.requires.stepping in
    omega (arith, c.subproblem_length-bytes.ensures, record_at_lem S _ is c.counts_of-counts.ensures, S.long, inputs_length S.inputs)

pub returns : goal.returns
returns c =
    let is : c.args.number ≡ count c.args.recorded.now + 1 + (c.args.number - (count c.args.recorded.now + 1)) = omega (arith, c.if-number-n.false, c.vertex_count-n.ensures) in
    record {
      walked = rw c.moved-2.ensures (record_stepped c.requires.stepping _ is c.counts_of-counts.ensures _ _ _ c.subproblem_length-bytes.ensures c.is_mark-here-2.ensures c.next-c.ensures);
      noted = noted_kept _ (omega (arith, c.if-number-n.false, c.vertex_count-n.ensures)) c.requires.noted;
    }
