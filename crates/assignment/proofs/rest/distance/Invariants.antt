-- `distance` meets its contract. The invariant is `Reaching`; the columns outside the tree become fewer with each turn. Assumes nothing.
use Rattle.assignment.specs.Matching.{at, cell, out_of}
use Rattle.assignment.specs.Tree.{outside}
use Rattle.assignment.proofs.Distances.{Reaching}
use Rattle.assignment.specs.Marks.{marks}
use Rattle.assignment.proofs.rest.distance.Given as goal

abbrev pub invariant-loop-near : goal.invariant-loop-near
invariant-loop-near l = Reaching l.problem.matrix.rows l.problem.matrix.columns l.r (out_of l.problem.choice (cell l.problem.matrix.gains.now)) l.row_duals l.column_duals l.row_of (marks l.columns.joined) l.columns.distance l.columns.from l.low l.near.place l.near.value l.initial.counts l.counts

abbrev pub decreases-loop-near : goal.decreases-loop-near
decreases-loop-near l = outside l.problem.matrix.columns (at (marks l.columns.joined))
