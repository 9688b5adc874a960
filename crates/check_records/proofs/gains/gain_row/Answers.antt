-- `gain_row` meets its contract. Assumes nothing.
use Rattle.std.proofs.Common.{arith, ◌<◌, ◌∙◌, length}
use Rattle.foundations.specs.Machine.{Same, back}
use Rattle.model.specs.Graph.{neighbours}
use Rattle.plan.specs.Numbers.{ready_accepted}
use Rattle.plan.specs.Pairs.{row_more, pair_low, children_few, degree_few, degree_is, child_place_low, child_edge_low, edge_low, gain_is}
use Rattle.records.specs.Places.{laid}
use Rattle.check_records.specs.Gains.{behind_sits, behind_value}
use Rattle.check_records.proofs.gains.gain_row.Goals as goal

pub child_place-requires : goal.child_place-requires
child_place-requires c =
    let N = c.args.sheet.now.on.now.ready in
    ((pair_low N c.requires.pair).0, omega (arith, c.requires.i_in_bounds, children_few N c.requires.pair))

pub row-row-requires : goal.row-row-requires
row-row-requires c = rw c.child_place.ensures (child_place_low c.args.sheet.now.on.now.ready c.requires.pair _ c.requires.i_in_bounds)

pub child_edge-edge-requires : goal.child_edge-edge-requires
child_edge-edge-requires c =
    let N = c.args.sheet.now.on.now.ready in
    ((pair_low N c.requires.pair).0, omega (arith, c.requires.i_in_bounds, children_few N c.requires.pair))

pub degree-l-requires : goal.degree-l-requires
degree-l-requires c = (pair_low c.args.sheet.now.on.now.ready c.requires.pair).1

pub neighbour-x-requires : goal.neighbour-x-requires
neighbour-x-requires c =
    let N = c.args.sheet.now.on.now.ready in
    let hj : c.loop-j.j < length (neighbours c.args.sheet.now.on.now.found.now c.args.v) = omega (arith, c.degree-l.ensures ∙ degree_is N c.requires.pair, c.loop-j-test.true) in
    ((pair_low N c.requires.pair).1, omega (arith, degree_few N c.requires.pair))

pub behind-b-requires : goal.behind-b-requires
behind-b-requires c =
    let N = c.args.sheet.now.on.now.ready in
    let hj : c.loop-j.j < length (neighbours c.args.sheet.now.on.now.found.now c.args.v) = omega (arith, c.degree-l.ensures ∙ degree_is N c.requires.pair, c.loop-j-test.true) in
    ((pair_low N c.requires.pair).1, omega (arith, degree_few N c.requires.pair))

pub value_in-y-requires : goal.value_in-y-requires
value_in-y-requires c =
    let N = c.args.sheet.now.on.now.ready in
    let hj : c.loop-j.j < length (neighbours c.args.sheet.now.on.now.found.now c.args.v) = omega (arith, c.degree-l.ensures ∙ degree_is N c.requires.pair, c.loop-j-test.true) in
    record { laid = laid N c.args.sheet.now.stand; certificate_len = c.args.sheet.now.long; begins = c.row-row.ensures.begins; sits = rw (c.neighbour-x.ensures, c.behind-b.ensures) (behind_sits N c.requires.pair _ c.requires.i_in_bounds _ hj) }

pub neighbour_edge-requires : goal.neighbour_edge-requires
neighbour_edge-requires c =
    let N = c.args.sheet.now.on.now.ready in
    let hj : c.loop-j.j < length (neighbours c.args.sheet.now.on.now.found.now c.args.v) = omega (arith, c.degree-l.ensures ∙ degree_is N c.requires.pair, c.loop-j-test.true) in
    ((pair_low N c.requires.pair).1, omega (arith, degree_few N c.requires.pair))

pub edge_pair-requires : goal.edge_pair-requires
edge_pair-requires c =
    let N = c.args.sheet.now.on.now.ready in
    let hj : c.loop-j.j < length (neighbours c.args.sheet.now.on.now.found.now c.args.v) = omega (arith, c.degree-l.ensures ∙ degree_is N c.requires.pair, c.loop-j-test.true) in
    record { table_passed = (ready_accepted N).weights; i_bound = (rw c.child_edge-edge.ensures (child_edge_low N c.requires.pair _ c.requires.i_in_bounds), rw c.neighbour_edge.ensures (edge_low N c.requires.pair _ c.requires.i_in_bounds _ hj)) }

pub overflow_add-g : goal.overflow_add-g
overflow_add-g c =
    let N = c.args.sheet.now.on.now.ready in
    let hj : c.loop-j.j < length (neighbours c.args.sheet.now.on.now.found.now c.args.v) = omega (arith, c.degree-l.ensures ∙ degree_is N c.requires.pair, c.loop-j-test.true) in
    omega (arith, c.requires.i_in_bounds, children_few N c.requires.pair, hj, degree_few N c.requires.pair)

pub bounds-g-i : goal.bounds-g-i
bounds-g-i c =
    let N = c.args.sheet.now.on.now.ready in
    let hj : c.loop-j.j < length (neighbours c.args.sheet.now.on.now.found.now c.args.v) = omega (arith, c.degree-l.ensures ∙ degree_is N c.requires.pair, c.loop-j-test.true) in
    omega (arith, c.requires.i_in_bounds, children_few N c.requires.pair, hj, degree_few N c.requires.pair)

pub offset_bounds-g-i : goal.offset_bounds-g-i
offset_bounds-g-i c =
    let N = c.args.sheet.now.on.now.ready in
    let hj : c.loop-j.j < length (neighbours c.args.sheet.now.on.now.found.now c.args.v) = omega (arith, c.degree-l.ensures ∙ degree_is N c.requires.pair, c.loop-j-test.true) in
    omega (arith, c.requires.i_in_bounds, children_few N c.requires.pair, hj, degree_few N c.requires.pair)

pub loop-j-preserved : goal.loop-j-preserved
loop-j-preserved c =
    let N = c.args.sheet.now.on.now.ready in
    let hj : c.loop-j.j < length (neighbours c.args.sheet.now.on.now.found.now c.args.v) = omega (arith, c.degree-l.ensures ∙ degree_is N c.requires.pair, c.loop-j-test.true) in
    let few = degree_few N c.requires.pair in
    let rows = children_few N c.requires.pair in
    let ea : Same c.edge_pair.result = back c.edge_pair.type_inv in
    let ya : Same c.value_in-y.result = back c.value_in-y.type_inv in
    row_more c.loop-j.j _ _ _ _ _ (omega (arith, c.requires.i_in_bounds, rows)) (omega (arith, few)) c.loop-j.invariant
    (gain_is N c.requires.pair _ c.requires.i_in_bounds _ hj _ c.edge_pair.result c.value_in-y.result _ (rw (c.child_edge-edge.ensures, c.neighbour_edge.ensures) at c.edge_pair.ensures)
    (behind_value N c.requires.pair _ c.requires.i_in_bounds _ hj c.args.sheet.now.certificate.now c.value_in-y.result (rw (c.row-row.ensures.same, c.child_place.ensures, c.behind-b.ensures) at c.value_in-y.ensures))
    (rw (ea, ya) at c.gain_of-t.ensures)) c.gain_of-t.ensures.small
