-- `fill_counted` meets its contract. Each turn but the first begins with a row. Assumes nothing.
use Rattle.solver.specs.FillLaws.{lesser_is, fill_none, fill_slice, row_run}
use Rattle.solver.specs.Bound.{begins, most_more, most_upto, lesser_less, begins_row}
use Rattle.assignment.specs.Counts.{countable_less, countable_after, searches_none, searches_both, searches_few}
use Rattle.plan.specs.Numbers.{number_low, ready_sound}
use Prim.Native.Nat.{ℕ, ◌+◌}
use mathlib.Core.Bool.{true}
use mathlib.Core.Path.{◌≡◌, subst}
use native.Mathlib.Nat.{mod-lt}
use native.Mathlib.Omega.{arith}
use Rattle.solver.proofs.fill.fill_counted.Goals as goal

pub width_of-width-requires : goal.width_of-width-requires
width_of-width-requires c = ready_sound c.args.on.now.ready

pub loop-i-init : goal.loop-i-init
loop-i-init c = (omega arith, fill_none _ _ _ _ _, λ h. absurd (omega arith), searches_few (searches_none _) (omega arith))

pub in_order-u-requires : goal.in_order-u-requires
in_order-u-requires c =
    let t = c.loop-i-test.true in let m = mod-lt (c.args.from + c.loop-i.i) c.width_of-width.ensures.1 in rw c.width_of-width.ensures.0 (number_low c.args.on.now.ready (c.args.from + c.loop-i.i) (omega arith)).1

pub fill_row-requires-clause-row_run : goal.fill_row-requires-clause-row_run
fill_row-requires-clause-row_run c =
    let i = c.loop-i.invariant in let t = c.loop-i-test.true in let m = mod-lt (c.args.from + c.loop-i.i) c.width_of-width.ensures.1 in let e = lesser_is c.min-c.ensures (omega arith) (omega arith) in let s = most_more c.args.on.now.recorded.now c.args.on.now.found.now c.args.from c.loop-i.i c.min-c.result (λ z. i.2 z t) in rw (c.in_order-u.ensures, c.width_of-width.ensures.0) (row_run c.args.on.now.ready (c.args.from + c.loop-i.i) _ (omega (arith, e.1)) e.0 (rw c.width_of-width.ensures.0 at e.2))

pub fill_row-requires-clause-countable : goal.fill_row-requires-clause-countable
fill_row-requires-clause-countable c =
    let i = c.loop-i.invariant in let t = c.loop-i-test.true in let m = mod-lt (c.args.from + c.loop-i.i) c.width_of-width.ensures.1 in let e = lesser_is c.min-c.ensures (omega arith) (omega arith) in let s = most_more c.args.on.now.recorded.now c.args.on.now.found.now c.args.from c.loop-i.i c.min-c.result (λ z. i.2 z t) in countable_after (countable_less c.requires.countable (let y = most_upto c.args.on.now.recorded.now c.args.on.now.found.now c.args.from (c.loop-i.i + c.min-c.result) c.args.count (let f = e.1 in omega arith) in omega arith)) i.3

pub loop-i-preserved : goal.loop-i-preserved
loop-i-preserved c =
    let i = c.loop-i.invariant in let t = c.loop-i-test.true in let m = mod-lt (c.args.from + c.loop-i.i) c.width_of-width.ensures.1 in let e = lesser_is c.min-c.ensures (omega arith) (omega arith) in let s = most_more c.args.on.now.recorded.now c.args.on.now.found.now c.args.from c.loop-i.i c.min-c.result (λ z. i.2 z t) in (omega (arith, e.1), fill_slice _ _ _ _ _ _ _ _ _ i.1 c.fill_row.ensures.0, λ z y. subst (λ (x : ℕ). begins c.args.on.now.found.now x ≡ true) (let w : c.args.from + c.loop-i.i + c.min-c.result ≡ c.args.from + (c.loop-i.i + c.min-c.result) = omega arith in w) (begins_row c.args.on.now.ready _ _ (let w = lesser_less c.min-c.ensures (omega arith) in rw c.width_of-width.ensures.0 at w)), searches_few (searches_both i.3 c.fill_row.ensures.1) s)
