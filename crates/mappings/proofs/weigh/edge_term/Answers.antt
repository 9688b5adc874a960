-- `edge_term` meets its contract. Assumes nothing.
use Rattle.std.proofs.Common.{rules}
use Rattle.foundations.specs.Machine.{Same}
use Rattle.mappings.specs.Slots.{slot_asks, slot_some, slot_low, slot_edge}
use Rattle.mappings.specs.WeighLaws.{ends_at, edge_some, edge_labels_lem, a_low, adjacent}
use Rattle.plan.specs.Numbers.{ready_accepted}
use Rattle.mappings.proofs.weigh.edge_term.Goals as goal

pub invariant_of-tree : goal.invariant_of-tree
invariant_of-tree c = record { ends = rw c.n-n.ensures.value (ready_accepted c.args.on.now.ready).recorded.ends }

pub slot-c-requires : goal.slot-c-requires
slot-c-requires c =
    let at = ends_at _ _ _ _ c.requires.ground c.n-n.ensures.value c.requires.j_bound c.end_a.ensures.value c.end_b.ensures.value in
    let q = slot_asks c.args.on.now.ready (a_low _ _ _ _ c.requires.ground c.args.j _ _ c.requires.j_bound at.first at.second c.if-a.false c.if-b.false) in
    record { v_lt_vertex_limit = q.0; v_bound = q.1 }

pub overflow_sub-c : goal.overflow_sub-c
overflow_sub-c c =
    let at = ends_at _ _ _ _ c.requires.ground c.n-n.ensures.value c.requires.j_bound c.end_a.ensures.value c.end_b.ensures.value in
    let low = a_low _ _ _ _ c.requires.ground c.args.j _ _ c.requires.j_bound at.first at.second c.if-a.false c.if-b.false in
    slot_some c.args.on.now.ready low c.slot-c.ensures (adjacent _ _ _ _ c.requires.ground c.args.j _ _ c.requires.j_bound at.first at.second c.if-a.false c.if-b.false)

pub neighbour_edge-k-requires : goal.neighbour_edge-k-requires
neighbour_edge-k-requires c =
    let at = ends_at _ _ _ _ c.requires.ground c.n-n.ensures.value c.requires.j_bound c.end_a.ensures.value c.end_b.ensures.value in
    let low = a_low _ _ _ _ c.requires.ground c.args.j _ _ c.requires.j_bound at.first at.second c.if-a.false c.if-b.false in
    let some = slot_some c.args.on.now.ready low c.slot-c.ensures (adjacent _ _ _ _ c.requires.ground c.args.j _ _ c.requires.j_bound at.first at.second c.if-a.false c.if-b.false) in
    ((slot_asks c.args.on.now.ready low).0, slot_low c.args.on.now.ready low c.slot-c.ensures some)

pub edge_pair-requires-clause-i_bound : goal.edge_pair-requires-clause-i_bound
edge_pair-requires-clause-i_bound c =
    let at = ends_at _ _ _ _ c.requires.ground c.n-n.ensures.value c.requires.j_bound c.end_a.ensures.value c.end_b.ensures.value in
    let low = a_low _ _ _ _ c.requires.ground c.args.j _ _ c.requires.j_bound at.first at.second c.if-a.false c.if-b.false in
    let some = slot_some c.args.on.now.ready low c.slot-c.ensures (adjacent _ _ _ _ c.requires.ground c.args.j _ _ c.requires.j_bound at.first at.second c.if-a.false c.if-b.false) in
    rw (c.edge_label-i.ensures, c.n-n.ensures.value)
    (edge_labels_lem _ _ _ _ c.requires.ground c.args.j _ _ c.requires.j_bound at.first at.second c.if-a.false c.if-b.false c.neighbour_edge-k.result (rw c.neighbour_edge-k.ensures (slot_edge c.args.on.now.ready low c.slot-c.ensures some)))

pub returns : goal.returns
returns c =
    let at = ends_at _ _ _ _ c.requires.ground c.n-n.ensures.value c.requires.j_bound c.end_a.ensures.value c.end_b.ensures.value in
    let low = a_low _ _ _ _ c.requires.ground c.args.j _ _ c.requires.j_bound at.first at.second c.if-a.false c.if-b.false in
    let some = slot_some c.args.on.now.ready low c.slot-c.ensures (adjacent _ _ _ _ c.requires.ground c.args.j _ _ c.requires.j_bound at.first at.second c.if-a.false c.if-b.false) in
    let seen = slot_edge c.args.on.now.ready low c.slot-c.ensures some in
    let w : Same c.edge_pair.result = search rules in
    rw w (edge_some _ _ _ _ c.requires.ground c.args.j _ _ c.requires.j_bound at.first at.second c.if-a.false c.if-b.false c.neighbour_edge-k.result c.edge_pair.result (rw c.neighbour_edge-k.ensures seen)
    (rw (c.edge_label-i.ensures, c.n-n.ensures.value) at c.edge_pair.ensures))
