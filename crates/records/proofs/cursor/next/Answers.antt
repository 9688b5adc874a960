-- `next` meets its contract: another choice of s, another v, or another u. Assumes nothing.
use native.Mathlib.Omega.{arith}
use Rattle.trees.specs.Accepted.{whole}
use Rattle.records.specs.Cursor.{follows_choice, follows_vertex, follows_row}
use Rattle.records.specs.Places.{inputs_found, inputs_few, found_known}
use Rattle.records.proofs.cursor.next.Goals as goal

pub degree-requires : goal.degree-requires
degree-requires c =
    let p = c.requires in (found_known p.inputs _ p.v_low).low

pub returns-then-c-degree : goal.returns-then-c-degree
returns-then-c-degree c = follows_choice c.requires _ c.degree.ensures c.if-c-degree.true

pub vertex_count-requires : goal.vertex_count-requires
vertex_count-requires c = whole (inputs_found c.requires.inputs).passed.ends

pub returns-then-c-vertex_count : goal.returns-then-c-vertex_count
returns-then-c-vertex_count c = follows_vertex c.requires _ _ c.degree.ensures (omega (arith, c.if-c-degree.false)) c.vertex_count.ensures c.if-c-vertex_count.true

pub overflow_add-result-2 : goal.overflow_add-result-2
overflow_add-result-2 c =
    let p = c.requires in omega (arith, p.i_low, (inputs_few p.inputs).0)

pub returns : goal.returns
returns c = follows_row c.requires _ _ c.degree.ensures (omega (arith, c.if-c-degree.false)) c.vertex_count.ensures (omega (arith, c.if-c-vertex_count.false))
