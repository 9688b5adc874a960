-- `assignment::explore` meets its contract. The invariant is `Turn` and `Tries`; the columns outside the tree become fewer with each turn. What a turn
-- keeps is in `Turns`. Assumes nothing.
use mathlib.Core.Path.{refl}
use native.Mathlib.Omega.{arith}
use Rattle.assignment.specs.Marks.{marks_none, marks_set}
use Rattle.assignment.proofs.Counting.{tries_start, tries_once}
use Rattle.assignment.proofs.Turns.{mark_here, turn_start, room_row, turn_end_row, b_low, from_low, room_column, turn_end_column, o_countable, base_small, columns_small, fewer, turn_grow, tries_grow}
use Rattle.assignment.proofs.explore.Goals as goal

pub loop-near-init : goal.loop-near-init
loop-near-init c =
    let p = c.requires in
    rw (marks_set _ c.args.r, marks_none) (turn_start _ refl p.rooted, tries_start _ _ _ (mark_here c.args.r (omega (arith, p.rooted.below, p.rooted.sized.rows))), p.rooted)

pub settle-requires : goal.settle-requires
settle-requires c = room_column c.loop-near.invariant.2 c.loop-near.invariant.0 c.loop-near-test.true

pub bounds-rows-p : goal.bounds-rows-p
bounds-rows-p c = omega (arith, from_low c.loop-near.invariant.2 c.loop-near.invariant.0 c.loop-near-test.true, c.from-p.ensures)

pub bounds-solution-p : goal.bounds-solution-p
bounds-solution-p c = omega (arith, from_low c.loop-near.invariant.2 c.loop-near.invariant.0 c.loop-near-test.true, c.from-p.ensures)

pub returns-then-o-ge-PLACES : goal.returns-then-o-ge-PLACES
returns-then-o-ge-PLACES c = (rw c.from-p.ensures (turn_end_column c.loop-near.invariant.2 c.loop-near.invariant.0 c.loop-near-test.true (omega (arith, c.if-o-ge-PLACES.true, c.from-o.ensures)) c.settle.ensures.settled), tries_once c.loop-near.invariant.1)

pub grow-requires : goal.grow-requires
grow-requires c = (omega (arith, from_low c.loop-near.invariant.2 c.loop-near.invariant.0 c.loop-near-test.true, c.from-p.ensures), b_low c.loop-near.invariant.2 c.loop-near.invariant.0 c.loop-near-test.true, c.if-o-ge-PLACES.false)

pub overflow_add-base : goal.overflow_add-base
overflow_add-base c = omega (arith, base_small c.loop-near.invariant.2 c.loop-near.invariant.0 c.loop-near-test.true c.from-o.result c.from-o.ensures c.if-o-ge-PLACES.false)

pub look-near-requires-clause-dist_len : goal.look-near-requires-clause-dist_len
look-near-requires-clause-dist_len c =
    let x = c.loop-near.invariant.0 in
    let e = c.grow.ensures.columns in
    rw (e.0, e.1) (x.arrays.distances, x.arrays.sources, omega (arith, c.from-o.ensures, c.if-o-ge-PLACES.false), base_small c.loop-near.invariant.2 x c.loop-near-test.true c.from-o.result c.from-o.ensures c.if-o-ge-PLACES.false, columns_small c.loop-near.invariant.2 x c.loop-near-test.true c.from-o.result c.from-o.ensures c.if-o-ge-PLACES.false)

pub look-near-requires-clause-row_countable : goal.look-near-requires-clause-row_countable
look-near-requires-clause-row_countable c = o_countable c.loop-near.invariant.2 c.loop-near.invariant.0 c.loop-near-test.true c.from-o.result c.from-o.ensures c.if-o-ge-PLACES.false c.requires.by_index c.loop-near.invariant.1

pub loop-near-smaller : goal.loop-near-smaller
loop-near-smaller c = rw c.look-near.ensures.joined (fewer c.loop-near.invariant.2 c.loop-near.invariant.0 c.loop-near-test.true c.from-o.result c.from-o.ensures c.if-o-ge-PLACES.false c.from-p.result c.from-p.ensures c.grow.ensures.grown)

pub loop-near-preserved : goal.loop-near-preserved
loop-near-preserved c =
    let looked = rw (c.grow.ensures.columns.0, c.grow.ensures.columns.1) at c.look-near.ensures.looked in
    rw c.look-near.ensures.joined (turn_grow c.loop-near.invariant.2 c.loop-near.invariant.0 c.loop-near-test.true c.from-o.result c.from-o.ensures c.if-o-ge-PLACES.false c.from-p.result c.from-p.ensures c.grow.ensures.grown c.or-low.ensures.0 c.or-low.ensures.1 looked, tries_grow c.loop-near.invariant.2 c.loop-near.invariant.0 c.loop-near-test.true c.from-o.result c.from-o.ensures c.if-o-ge-PLACES.false c.from-p.result c.from-p.ensures c.grow.ensures.grown c.loop-near.invariant.1 c.look-near.ensures.tried, c.loop-near.invariant.2)

pub settle-requires-2 : goal.settle-requires-2
settle-requires-2 c = room_row c.loop-near.invariant.2 c.loop-near.invariant.0 c.loop-near-test.false

pub returns : goal.returns
returns c = (turn_end_row c.loop-near.invariant.2 c.loop-near.invariant.0 c.loop-near-test.false c.settle-2.ensures.settled, tries_once c.loop-near.invariant.1)
