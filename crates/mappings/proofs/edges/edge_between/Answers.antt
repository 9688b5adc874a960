-- `edge_between` meets its contract. Assumes nothing.
use Prim.Native.Nat.{◌≤◌, ◌<◌}
use native.Mathlib.Omega.{arith}
use Rattle.foundations.specs.Machine.{back}
use Rattle.model.specs.Tree.{count}
use Rattle.plan.specs.Numbers.{ready_accepted}
use Rattle.mappings.specs.Slots.{slot_asks, slot_low}
use Rattle.mappings.specs.Tested.{between_out, between_none, between_known, between_some}
use Rattle.mappings.proofs.edges.edge_between.Goals as goal

pub returns-then-m-b : goal.returns-then-m-b
returns-then-m-b c = between_out c.args.on.now.ready c.args.u c.args.a c.args.b (omega (arith, c.m.ensures.value, c.if-m-b.true))

pub slot-c-requires : goal.slot-c-requires
slot-c-requires c =
    let low : c.args.b < count c.args.on.now.found.now = omega (arith, c.m.ensures.value, c.if-m-b.false) in
    let q = slot_asks c.args.on.now.ready (low) in record { v_lt_vertex_limit = q.0; v_bound = q.1 }

pub returns-then-c-lt1 : goal.returns-then-c-lt1
returns-then-c-lt1 c =
    let low : c.args.b < count c.args.on.now.found.now = omega (arith, c.m.ensures.value, c.if-m-b.false) in
    between_none c.args.on.now.ready c.args.u c.args.a c.args.b (low) c.slot-c.result c.slot-c.ensures c.if-c-lt1.true

pub parent_edge-i-requires : goal.parent_edge-i-requires
parent_edge-i-requires c = omega (arith, c.requires.u_bound.0, (ready_accepted c.args.on.now.ready).recorded.ends.few)

pub neighbour_edge-j-requires : goal.neighbour_edge-j-requires
neighbour_edge-j-requires c =
    let some : 1 ≤ c.slot-c.result = omega (arith, c.if-c-lt1.false) in
    let low : c.args.b < count c.args.on.now.found.now = omega (arith, c.m.ensures.value, c.if-m-b.false) in
    ((slot_asks c.args.on.now.ready (low)).0, slot_low c.args.on.now.ready (low) c.slot-c.ensures (some))

pub edge_pair-w-requires : goal.edge_pair-w-requires
edge_pair-w-requires c =
    let some : 1 ≤ c.slot-c.result = omega (arith, c.if-c-lt1.false) in
    let low : c.args.b < count c.args.on.now.found.now = omega (arith, c.m.ensures.value, c.if-m-b.false) in
    record {
      table_passed = (ready_accepted c.args.on.now.ready).weights;
      i_bound = rw (c.neighbour_edge-j.ensures, c.parent_edge-i.ensures)
          (between_known c.args.on.now.ready c.args.u c.args.a c.args.b (low) c.slot-c.result c.slot-c.ensures c.requires.u_bound.0 c.requires.u_bound.1 (some));
    }

pub returns : goal.returns
returns c =
    let some : 1 ≤ c.slot-c.result = omega (arith, c.if-c-lt1.false) in
    let low : c.args.b < count c.args.on.now.found.now = omega (arith, c.m.ensures.value, c.if-m-b.false) in
    let w = c.edge_pair-w in
    between_some c.args.on.now.ready c.args.u c.args.a c.args.b (low) c.slot-c.result c.slot-c.ensures c.requires.u_bound.0 c.requires.u_bound.1 (some) w.result c.is_forbidden.result
    (rw (c.neighbour_edge-j.ensures, c.parent_edge-i.ensures) at w.ensures) (rw (back w.type_inv) at c.is_forbidden.ensures)
