-- `work_ok` gathers the test over the rows. The invariant: the numbers before row i are tested. Assumes nothing.
use Rattle.std.proofs.Common.{◌*◌, ◌<◌}
use Rattle.model.specs.Order.{width}
use Rattle.plan.specs.Numbers.{ready_sound}
use Rattle.job_items.specs.Work.{row_before, row_low, row_here, row_more, work_none}
use Rattle.job_items.proofs.work.work_ok.Goals as goal

pub width_of-width-requires : goal.width_of-width-requires
width_of-width-requires c = ready_sound c.args.on.now.ready

pub loop-i-init : goal.loop-i-init
loop-i-init c = work_none _ _ _ _ _

pub in_order-requires : goal.in_order-requires
in_order-requires c =
    let W = c.width_of-width.ensures in
    let l : c.loop-i.i * width c.args.on.now.found.now < c.args.position = rw W.0 at (row_before c.loop-i.i c.width_of-width.result c.args.position W.1 (rw c.div_ceil-rows.ensures at c.loop-i-test.true)) in
    (row_low c.args.on.now.ready c.loop-i.i c.args.position l c.requires.position_bound).1

pub row_ok-fine-requires : goal.row_ok-fine-requires
row_ok-fine-requires c =
    let W = c.width_of-width.ensures in
    let l : c.loop-i.i * width c.args.on.now.found.now < c.args.position = rw W.0 at (row_before c.loop-i.i c.width_of-width.result c.args.position W.1 (rw c.div_ceil-rows.ensures at c.loop-i-test.true)) in
    let h = row_here c.args.on.now.ready c.loop-i.i c.args.position l c.requires.position_bound c.args.work.now c.min-upto.result c.requires.lent (rw W.0 at c.min-upto.ensures) in
    (rw c.in_order.ensures h.0, h.1, rw W.0 h.2)

pub loop-i-preserved : goal.loop-i-preserved
loop-i-preserved c =
    let W = c.width_of-width.ensures in
    let l : c.loop-i.i * width c.args.on.now.found.now < c.args.position = rw W.0 at (row_before c.loop-i.i c.width_of-width.result c.args.position W.1 (rw c.div_ceil-rows.ensures at c.loop-i-test.true)) in
    row_more c.args.on.now.ready c.loop-i.i c.args.position l c.requires.position_bound c.args.work.now c.min-upto.result c.loop-i.ok c.row_ok-fine.result (rw W.0 at c.min-upto.ensures) c.loop-i.invariant (rw (c.in_order.ensures, W.0) at c.row_ok-fine.ensures)
