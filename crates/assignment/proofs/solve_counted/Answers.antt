-- `assignment::solve_counted` meets its contract. The invariant: the rows below r are finished, by r searches. Assumes nothing.
use mathlib.Core.Path.{ap, ◌∙◌}
use native.Mathlib.Omega.{arith}
use borrow.Author.Rules.{rules}
use lib.ListN.{length}
use Rattle.assignment.specs.Counts.{countable_less, countable_after, searches_none, searches_one, searches_both, searches_few}
use Rattle.assignment.proofs.Leaves.{owners_free}
use Rattle.assignment.proofs.Turns.{bytes_none}
use Rattle.assignment.proofs.Roots.{state_none, state_pending, state_next, state_solved, sized_out}
use Rattle.assignment.proofs.solve_counted.Goals as goal

pub loop-r-init : goal.loop-r-init
loop-r-init c =
    let S = c.requires.sized in
    let ez = c.requires.blank.0.columns in
    let em = c.requires.blank.0.matching in
    let eo = c.requires.blank.1 ∙ em in
    (record { rows = search rules; columns = ap length ez; matching = ap length em }, rw em (bytes_none _), rw (ez, em) (state_none _ c.args.solution.now.row_duals S.rows S.columns), rw (em, eo) (owners_free _ S.rows), searches_none _)

pub search-requires : goal.search-requires
search-requires c =
    let i = c.loop-r.invariant in record { pending = (c.loop-r-test.true, i.0, i.1, state_pending i.2, i.3); countable = countable_after (countable_less c.requires.countable (let t = c.loop-r-test.true in omega arith)) i.4 }

pub loop-r-preserved : goal.loop-r-preserved
loop-r-preserved c =
    let i = c.loop-r.invariant in let e = c.search.ensures in (e.ended.sizes, e.ended.bytes, state_next _ i.2 e.ended.joined, e.owners, searches_both i.4 (searches_one e.search))

pub returns : goal.returns
returns c =
    let i = c.loop-r.invariant in record { answer = record { sizes = i.0; bytes = i.1; solved = state_solved (sized_out _ c.requires.sized) i.2 c.loop-r-test.false }; owners = i.3; searches = searches_few i.4 c.loop-r.auto.r-end }
