-- `assignment::solve_counted` meets its contract. The invariant: the rows below r are finished, by r searches. Assumes nothing.
use Rattle.assignment.specs.State.{State, Lengths, Bytes}
use Rattle.assignment.specs.Matching.{at, cell, out_of}
use Rattle.assignment.specs.Counts.{Searches}
use Rattle.assignment.specs.Loops.{OwnersOf}
use Rattle.assignment.proofs.Roots.{before}
use Rattle.assignment.proofs.solve_counted.Given as goal

abbrev pub invariant-loop-r : goal.invariant-loop-r
invariant-loop-r l = Lengths l.solution.row_duals l.solution.column_duals l.solution.column_of × Bytes l.columns l.solution.column_of × State l.rows l.columns (out_of l.choice (cell l.gains)) (before l.r) (at l.solution.row_duals) (at l.solution.column_duals) (at l.solution.column_of) × OwnersOf l.rows l.solution.column_of l.solution.row_of × Searches l.r l.initial.counts l.counts
