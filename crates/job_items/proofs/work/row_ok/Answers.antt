-- `row_ok` gathers the test over one row, by found vertex. The invariant: the slots below k are tested, and k is where those of v begin, or the end. Assumes nothing.
use mathlib.Core.Path.{refl}
use Prim.Native.Nat.{◌+◌, ◌<◌}
use native.Mathlib.Omega.{arith}
use Rattle.foundations.specs.Lists.{every}
use Rattle.foundations.specs.Machine.{Same, back}
use Rattle.model.specs.Limits.{width_limit, degree_limit}
use Rattle.plan.specs.Numbers.{width_few}
use Rattle.plan.specs.Pairs.{weighable, pair_weighs}
use Rattle.job_items.specs.Work.{SlotsAt, row_none, row_vertex, row_end_lem, row_pair}
use Rattle.job_items.proofs.work.row_ok.Goals as goal

pub loop-k-init : goal.loop-k-init
unfolding every
loop-k-init c = (omega arith, row_none _ _, refl)

pub vertex_pair-w-requires : goal.vertex_pair-w-requires
vertex_pair-w-requires c =
    let vertex : let a = c.args in
    SlotsAt a.on.now.found.now a.on.now.plan.now c.loop-k.k c.loop-k.v = row_vertex c.args.on.now.ready c.args.upto c.requires.1 c.loop-k.k c.loop-k.v c.loop-k.invariant.0 c.loop-k.invariant.1 c.loop-k-test.true in
    weighable c.args.on.now.ready c.requires.0 (vertex).low

pub degree-requires : goal.degree-requires
degree-requires c =
    let vertex : let a = c.args in
    SlotsAt a.on.now.found.now a.on.now.plan.now c.loop-k.k c.loop-k.v = row_vertex c.args.on.now.ready c.args.upto c.requires.1 c.loop-k.k c.loop-k.v c.loop-k.invariant.0 c.loop-k.invariant.1 c.loop-k-test.true in
    (vertex).few

pub overflow_add-k : goal.overflow_add-k
overflow_add-k c =
    let vertex : let a = c.args in
    SlotsAt a.on.now.found.now a.on.now.plan.now c.loop-k.k c.loop-k.v = row_vertex c.args.on.now.ready c.args.upto c.requires.1 c.loop-k.k c.loop-k.v c.loop-k.invariant.0 c.loop-k.invariant.1 c.loop-k-test.true in
    let low : c.loop-k.k + c.degree.result < width_limit + degree_limit = omega (arith, (vertex).degree_few, c.degree.ensures, width_few c.args.on.now.ready, c.requires.1, c.loop-k-test.true) in
    omega (arith, low)

pub overflow_add-k-in-loop-k : goal.overflow_add-k-in-loop-k
overflow_add-k-in-loop-k c =
    let vertex : let a = c.args in
    SlotsAt a.on.now.found.now a.on.now.plan.now c.loop-k.k c.loop-k.v = row_vertex c.args.on.now.ready c.args.upto c.requires.1 c.loop-k.k c.loop-k.v c.loop-k.invariant.0 c.loop-k.invariant.1 c.loop-k-test.true in
    let low : c.loop-k.k + c.degree.result < width_limit + degree_limit = omega (arith, (vertex).degree_few, c.degree.ensures, width_few c.args.on.now.ready, c.requires.1, c.loop-k-test.true) in
    omega (arith, low)

pub overflow_add-v : goal.overflow_add-v
overflow_add-v c =
    let vertex : let a = c.args in
    SlotsAt a.on.now.found.now a.on.now.plan.now c.loop-k.k c.loop-k.v = row_vertex c.args.on.now.ready c.args.upto c.requires.1 c.loop-k.k c.loop-k.v c.loop-k.invariant.0 c.loop-k.invariant.1 c.loop-k-test.true in
    omega (arith, (vertex).few)

pub loop-k-preserved : goal.loop-k-preserved
loop-k-preserved c =
    let vertex : let a = c.args in
    SlotsAt a.on.now.found.now a.on.now.plan.now c.loop-k.k c.loop-k.v = row_vertex c.args.on.now.ready c.args.upto c.requires.1 c.loop-k.k c.loop-k.v c.loop-k.invariant.0 c.loop-k.invariant.1 c.loop-k-test.true in
    let w = c.vertex_pair-w.result in
    let d : Same w = back {z = w} c.vertex_pair-w.type_inv in
    let end = rw c.degree.ensures at c.min-end.ensures in
    let e = row_end_lem c.args.on.now.ready c.args.upto c.requires.1 c.loop-k.k c.loop-k.v c.min-end.result c.loop-k.invariant.0 c.loop-k.invariant.1 c.loop-k-test.true end in
    (e.0, e.1, row_pair c.args.on.now.ready c.args.upto c.requires.1 c.args.work.now c.args.base c.args.u c.loop-k.k c.loop-k.v c.min-end.result w c.loop-k.ok c.pair_ok-fits.result c.loop-k.invariant.0 c.loop-k.invariant.1 c.loop-k-test.true end (pair_weighs c.args.on.now.ready c.requires.0 (vertex).low c.vertex_pair-w.ensures).is c.loop-k.invariant.2 (rw d at c.pair_ok-fits.ensures))
