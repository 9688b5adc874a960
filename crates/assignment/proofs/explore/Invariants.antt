-- `assignment::explore` meets its contract. The invariant is `Turn` and `Tries`; the columns outside the tree become fewer with each turn. What a turn
-- keeps is in `Turns`. Assumes nothing.
use Rattle.assignment.specs.Tree.{Rooted, Turn, outside}
use Rattle.assignment.specs.Matching.{at, cell, out_of}
use Rattle.assignment.proofs.Counting.{Tries}
use Rattle.assignment.specs.Marks.{marks}
use Rattle.assignment.proofs.explore.Given as goal

abbrev pub invariant-loop-near : goal.invariant-loop-near
invariant-loop-near l = (Turn l.problem.matrix.rows l.problem.matrix.columns l.r (out_of l.problem.choice (cell l.problem.matrix.gains.now)) l.initial.solution.row_duals l.initial.solution.column_duals l.initial.solution.column_of l.solution.row_duals l.solution.column_duals l.solution.column_of l.solution.row_of (marks l.rows.joined) (marks l.columns.joined) l.columns.distance l.columns.from l.rows.distance l.rows.alternative l.low.place l.low.value l.near.place l.near.value) × Tries l.r (marks l.rows.joined) l.initial.counts l.counts × Rooted l.problem.matrix.rows l.problem.matrix.columns l.r (out_of l.problem.choice (cell l.problem.matrix.gains.now)) l.initial.solution.row_duals l.initial.solution.column_duals l.initial.solution.column_of l.solution.row_of l.initial.columns.distance l.fn.first.place l.fn.first.value

abbrev pub decreases-loop-near : goal.decreases-loop-near
decreases-loop-near l = outside l.problem.matrix.columns (at (marks l.columns.joined))
