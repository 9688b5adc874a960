-- `distance` meets its contract. The invariant is `Reaching`; the columns outside the tree become fewer with each turn. Assumes nothing.
use mathlib.Core.Path.{refl, ◌∙◌}
use native.Mathlib.Omega.{arith}
use Rattle.assignment.specs.Marks.{marks_none, marks_set}
use Rattle.assignment.proofs.Leaves.{min_less}
use Rattle.assignment.proofs.Duality.{column_limit}
use Rattle.assignment.proofs.Counting.{counted_countable}
use Rattle.assignment.proofs.Distances.{reaching_start, reached_row, reached_search, reached_column, reach_base, reach_columns, reach_countable, reach_fewer, reach_grow}
use Rattle.assignment.proofs.rest.distance.Goals as goal

pub overflow_add-counts : goal.overflow_add-counts
overflow_add-counts c = omega (arith, c.requires.countable.limit)

pub look_first-near-requires-clause-dist_len : goal.look_first-near-requires-clause-dist_len
look_first-near-requires-clause-dist_len c = let p = c.requires.vacant in (refl, p.below, λ x h. column_limit p.state p.sized.gains x h)

pub look_first-near-requires-clause-row_countable : goal.look_first-near-requires-clause-row_countable
look_first-near-requires-clause-row_countable c = let p = c.requires.vacant in counted_countable c.requires.countable c.args.r (omega (arith, p.below, p.sized.rows))

pub loop-near-init : goal.loop-near-init
loop-near-init c = rw marks_none (reaching_start c.requires.vacant c.look_first-near.ensures.0 refl)

pub returns-then-o-ge-PLACES : goal.returns-then-o-ge-PLACES
returns-then-o-ge-PLACES c = (reached_column c.loop-near.invariant c.loop-near-test.true (omega (arith, c.if-o-ge-PLACES.true, c.from-o.ensures)), reached_search c.loop-near.invariant c.requires.countable c.look_first-near.ensures.1)

pub overflow_add-base : goal.overflow_add-base
overflow_add-base c = omega (arith, reach_base c.loop-near.invariant c.loop-near-test.true c.from-o.result c.from-o.ensures c.if-o-ge-PLACES.false)

pub look-near-requires-clause-dist_len : goal.look-near-requires-clause-dist_len
look-near-requires-clause-dist_len c =
    let x = c.loop-near.invariant in let h = c.loop-near-test.true in (x.turn.arrays.distances, x.turn.arrays.sources, omega (arith, c.from-o.ensures, c.if-o-ge-PLACES.false), reach_base x h c.from-o.result c.from-o.ensures c.if-o-ge-PLACES.false, reach_columns x h c.from-o.result c.from-o.ensures c.if-o-ge-PLACES.false)

pub look-near-requires-clause-row_countable : goal.look-near-requires-clause-row_countable
look-near-requires-clause-row_countable c = reach_countable c.loop-near.invariant c.loop-near-test.true c.from-o.result c.from-o.ensures c.if-o-ge-PLACES.false c.requires.countable c.look_first-near.ensures.1

pub loop-near-smaller : goal.loop-near-smaller
loop-near-smaller c = rw (c.look-near.ensures.joined, marks_set) (reach_fewer c.loop-near.invariant c.loop-near-test.true c.from-o.result c.from-o.ensures c.if-o-ge-PLACES.false)

pub loop-near-preserved : goal.loop-near-preserved
loop-near-preserved c =
    let looked = rw marks_set at c.look-near.ensures.looked in
    rw (c.look-near.ensures.joined, marks_set) (reach_grow c.loop-near.invariant c.loop-near-test.true c.from-o.result c.from-o.ensures c.if-o-ge-PLACES.false (c.min-low.ensures ∙ min_less _ _) looked c.look-near.ensures.tried)

pub returns : goal.returns
returns c = (reached_row c.loop-near.invariant c.loop-near-test.false, reached_search c.loop-near.invariant c.requires.countable c.look_first-near.ensures.1)
