-- `gain_row` meets its contract. Assumes nothing.
use Prim.Native.Nat.{◌+◌, ◌*◌, ◌≤◌, ◌<◌}
use mathlib.Core.Path.{◌∙◌}
use native.Mathlib.Nat.{mul-le-mul}
use native.Mathlib.Omega.{arith}
use lib.ListN.{length, get_or}
use lib.IntN.{pos}
use borrow.Author.Rules.{rules}
use Rattle.foundations.specs.Machine.{Same, back}
use Rattle.model.specs.Graph.{neighbours}
use Rattle.model.specs.Limits.{vertex_limit, width_limit}
use Rattle.plan.specs.Numbers.{ready_accepted, width_few}
use Rattle.plan.specs.Pairs.{row_none, row_more, pair_low, children_few, degree_few, degree_is, child_place_low, child_edge_low, edge_low}
use Rattle.solver.specs.Branches.{work_low, work_gain}
use Rattle.solver.proofs.subproblem.gain_row.Goals as goal

pub child_place-requires : goal.child_place-requires
child_place-requires c = ((pair_low c.args.on.now.ready c.requires.pair).0, omega (arith, c.requires.i_in_bounds, children_few c.args.on.now.ready c.requires.pair))

pub overflow_mul-base : goal.overflow_mul-base
overflow_mul-base c =
    let low = child_place_low c.args.on.now.ready c.requires.pair _ c.requires.i_in_bounds in
    let few = (ready_accepted c.args.on.now.ready).recorded.ends.few in
    let a : c.child_place.result ≤ vertex_limit = rw c.child_place.ensures (omega (arith, low, few)) in
    let b : c.args.of.width ≤ width_limit = rw c.requires.shared_of.wide (width_few c.args.on.now.ready) in
    let m : c.child_place.result * c.args.of.width ≤ vertex_limit * width_limit = mul-le-mul a b in
    omega arith

pub child_edge-requires : goal.child_edge-requires
child_edge-requires c = ((pair_low c.args.on.now.ready c.requires.pair).0, omega (arith, c.requires.i_in_bounds, children_few c.args.on.now.ready c.requires.pair))

pub degree-l-requires : goal.degree-l-requires
degree-l-requires c = (pair_low c.args.on.now.ready c.requires.pair).1

pub loop-j-init : goal.loop-j-init
loop-j-init c =
    let d = c.degree-l.ensures ∙ degree_is c.args.on.now.ready c.requires.pair in
    (omega arith, omega (arith, d, degree_few c.args.on.now.ready c.requires.pair), omega (arith, c.requires.i_in_bounds, children_few c.args.on.now.ready c.requires.pair), d, rw (c.child_place.ensures, c.requires.shared_of.wide), row_none _ _ _ (omega arith))

pub neighbour_edge-requires : goal.neighbour_edge-requires
neighbour_edge-requires c = ((pair_low c.args.on.now.ready c.requires.pair).1, omega (arith, c.loop-j-test.true, c.loop-j.invariant.1))

pub edge_row-row-requires-clause-table_passed : goal.edge_row-row-requires-clause-table_passed
edge_row-row-requires-clause-table_passed c = (ready_accepted c.args.on.now.ready).weights

pub edge_row-row-requires-clause-i_bound : goal.edge_row-row-requires-clause-i_bound
edge_row-row-requires-clause-i_bound c = rw c.child_edge.ensures (child_edge_low c.args.on.now.ready c.requires.pair _ c.requires.i_in_bounds)

pub edge_pair_in-e-requires-clause-table_passed : goal.edge_pair_in-e-requires-clause-table_passed
edge_pair_in-e-requires-clause-table_passed c = (ready_accepted c.args.on.now.ready).weights

pub edge_pair_in-e-requires-clause-bounds : goal.edge_pair_in-e-requires-clause-bounds
edge_pair_in-e-requires-clause-bounds c =
    let in_row : c.loop-j.j < length (neighbours c.args.on.now.found.now c.args.v) = omega (arith, c.loop-j-test.true, c.loop-j.invariant.3) in
    (rw (c.edge_row-row.ensures.seen, c.child_edge.ensures) (child_edge_low c.args.on.now.ready c.requires.pair _ c.requires.i_in_bounds), rw c.neighbour_edge.ensures (edge_low c.args.on.now.ready c.requires.pair _ c.requires.i_in_bounds _ (in_row)))

pub behind-requires : goal.behind-requires
behind-requires c = ((pair_low c.args.on.now.ready c.requires.pair).1, omega (arith, c.loop-j-test.true, c.loop-j.invariant.1))

pub overflow_add-base : goal.overflow_add-base
overflow_add-base c =
    let in_row : c.loop-j.j < length (neighbours c.args.on.now.found.now c.args.v) = omega (arith, c.loop-j-test.true, c.loop-j.invariant.3) in
    let lent : c.child_place.result * c.args.of.width + c.behind.result < length c.args.work.now = omega (arith, work_low c.args.on.now.ready c.requires.pair _ c.requires.i_in_bounds _ (in_row) c.requires.lent, c.loop-j.invariant.4, c.behind.ensures) in
    omega (arith, lent)

pub offset_bounds-work-base : goal.offset_bounds-work-base
offset_bounds-work-base c =
    let in_row : c.loop-j.j < length (neighbours c.args.on.now.found.now c.args.v) = omega (arith, c.loop-j-test.true, c.loop-j.invariant.3) in
    let lent : c.child_place.result * c.args.of.width + c.behind.result < length c.args.work.now = omega (arith, work_low c.args.on.now.ready c.requires.pair _ c.requires.i_in_bounds _ (in_row) c.requires.lent, c.loop-j.invariant.4, c.behind.ensures) in
    omega (arith, lent)

pub bounds-work-base : goal.bounds-work-base
bounds-work-base c =
    let in_row : c.loop-j.j < length (neighbours c.args.on.now.found.now c.args.v) = omega (arith, c.loop-j-test.true, c.loop-j.invariant.3) in
    let lent : c.child_place.result * c.args.of.width + c.behind.result < length c.args.work.now = omega (arith, work_low c.args.on.now.ready c.requires.pair _ c.requires.i_in_bounds _ (in_row) c.requires.lent, c.loop-j.invariant.4, c.behind.ensures) in
    lent

pub loop-j-preserved : goal.loop-j-preserved
loop-j-preserved c =
    let in_row : c.loop-j.j < length (neighbours c.args.on.now.found.now c.args.v) = omega (arith, c.loop-j-test.true, c.loop-j.invariant.3) in
    let a : Same c.edge_pair_in-e.result = back c.edge_pair_in-e.type_inv in
    let b : Same (get_or c.args.work.now (c.child_place.result * c.args.of.width + c.behind.result) (pos 0)) = search rules in
    let E = rw (c.edge_row-row.ensures.seen, c.child_edge.ensures, c.neighbour_edge.ensures) at c.edge_pair_in-e.ensures in (
      omega arith,
      c.loop-j.invariant.1,
      c.loop-j.invariant.2,
      c.loop-j.invariant.3,
      c.loop-j.invariant.4,
      row_more c.loop-j.j _ _ _ _ _ c.loop-j.invariant.2 (omega arith) c.loop-j.invariant.5
          (work_gain c.args.on.now.ready c.requires.pair _ c.requires.i_in_bounds _ (in_row) _ _ _ E (rw (a, b, c.loop-j.invariant.4, c.behind.ensures) at c.gain_of-q.ensures))
          c.gain_of-q.ensures.small,
    )
