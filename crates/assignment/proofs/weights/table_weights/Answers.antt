-- `table_weights` meets its contract. The invariant: the weights up to choice c, by c further searches at most. Assumes nothing.
use mathlib.Core.Path.{refl, ◌∙◌}
use native.Mathlib.Omega.{arith}
use Rattle.assignment.specs.Counts.{countable_less, countable_after, searches_none, searches_one, searches_both, searches_few}
use Rattle.assignment.proofs.Roots.{answer_all, rest_free}
use Rattle.assignment.proofs.Choices.{all_heaviest, filled_start, filled_stays, filled_set, filled_end, owner_at}
use Rattle.assignment.proofs.weights.table_weights.Goals.{then-solution-c-lt-FREE, else-solution-c-lt-FREE}
use Rattle.assignment.proofs.weights.table_weights.Goals as goal

pub total-all-requires : goal.total-all-requires
total-all-requires c =
    let p = c.args.matrix.now.sized in let s = (answer_all p c.solve_counted.ensures.answer).solved in (p.rows, p.columns, s.row_limit, s.column_limit)

pub loop-c-init : goal.loop-c-init
loop-c-init c =
    let p = c.args.matrix.now.sized in (filled_start p.columns (all_heaviest (answer_all p c.solve_counted.ensures.answer).solved c.total-all.ensures), searches_none _)

pub rest_weight-w-requires : goal.rest_weight-w-requires
rest_weight-w-requires c =
    let p = c.args.matrix.now.sized in
    let s = c.solve_counted.ensures in
    let h = c.loop-c-test.true in
    record {
      sized = (record { m = _; answer = answer_all p s.answer; owners = s.owners }, omega arith, omega (arith, h), omega (arith, owner_at s.owners c.loop-c.c refl, c.if-solution-c-lt-FREE.true), c.total-all.ensures.equal);
      countable = countable_after (countable_less (countable_after c.requires s.searches) (omega (arith, h))) c.loop-c.invariant.1;
    }

pub loop-c-preserved : goal.loop-c-preserved
loop-c-preserved c =
    let p = c.args.matrix.now.sized in
    let h = c.loop-c-test.true in
    let i = c.loop-c.invariant in
    let s = c.solve_counted.ensures in
    elim c.if-solution-c-lt-FREE.branch [
      | then-solution-c-lt-FREE w ↦ rw (w.t-is, w.counts-is) (filled_set _ p.columns i.0 h w.rest_weight-w.ensures.0, searches_both i.1 (searches_one w.rest_weight-w.ensures.1))
      | else-solution-c-lt-FREE w ↦ rw (w.t-is, w.counts-is) (filled_stays i.0 h (rest_free p (omega arith) (omega (arith, h)) (answer_all p s.answer) (λ x hx q. s.owners.none c.loop-c.c (omega (arith, h, p.columns)) (omega (arith, w.if-solution-c-lt-FREE.false)) x hx (q ∙ (omega arith))) c.total-all.ensures), searches_few i.1 (omega arith))
    ]

pub returns : goal.returns
returns c =
    let i = c.loop-c.invariant in (filled_end i.0 c.loop-c-test.false, searches_both c.solve_counted.ensures.searches (searches_few i.1 c.loop-c.auto.c-end))
