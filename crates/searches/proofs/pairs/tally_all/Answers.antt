-- `tally_all` adds the rows up: before row i, the subproblems of i rows are filled. Assumes nothing.
use Rattle.std.proofs.Common.{◌≡◌, refl, ◌+◌, ◌*◌, add-one, zero-add, arith}
use Rattle.model.specs.Tree.{count}
use Rattle.model.specs.Order.{width, subproblems}
use Rattle.plan.specs.Numbers.{ready_sound}
use Rattle.solver.specs.FillLaws.{fill_none, fill_slice}
use Rattle.searches.specs.Steps.{tally_none, whole_row}
use Rattle.searches.proofs.pairs.tally_all.Goals as goal

pub width_of-width-requires : goal.width_of-width-requires
width_of-width-requires c = ready_sound c.args.on.now.ready

pub loop-i-init : goal.loop-i-init
loop-i-init c =
    let e = c.none-all.ensures in
    let z : 0 * width c.args.on.now.found.now ≡ 0 = omega arith in
    rw z (fill_none _ _ _ _ _, tally_none _ _ e.0 e.1 e.2 e.3 e.4 e.5)

pub tally_row-all-requires-clause-row_run : goal.tally_row-all-requires-clause-row_run
tally_row-all-requires-clause-row_run c =
    rw (c.in_order-u.ensures, c.width_of-width.ensures.0) (whole_row c.args.on.now.ready c.loop-i.i _ (omega (arith, c.loop-i-test.true, c.n-n.ensures.value)) refl)

pub loop-i-preserved : goal.loop-i-preserved
loop-i-preserved c =
    let f = c.args.on.now.found.now in
    let w = c.width_of-width.ensures.0 in
    let next = c.tally_row-all.ensures in
    let more : (c.loop-i.i + 1) * width f ≡ c.loop-i.i * width f + width f = rw (add-one c.loop-i.i) (omega arith) in
    rw more (fill_slice _ _ _ _ _ _ 0 _ _ c.loop-i.invariant.0 (rw zero-add (rw w at next.0)), rw w at next.1)

pub returns : goal.returns
unfolding subproblems
returns c =
    let e : c.loop-i.i ≡ count c.args.on.now.recorded.now = omega (arith, c.loop-i-test.false, c.n-n.ensures.value, c.loop-i.auto.i-end) in
    (rw e at c.loop-i.invariant.0, rw e at c.loop-i.invariant.1)
