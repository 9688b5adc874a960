-- `assignment::settle` meets its contract. The invariants are `Changed` of the rows, and of the columns, passed. Assumes nothing.
use mathlib.Core.Path.{◌≡◌}
use Rattle.foundations.specs.Changed.{Changed}
use Rattle.assignment.specs.Loops.{row_end, column_end}
use Rattle.assignment.specs.Matching.{at}
use Rattle.assignment.specs.Marks.{marks}
use Rattle.assignment.proofs.settle.Given as goal

abbrev pub invariant-loop-i : goal.invariant-loop-i
invariant-loop-i l = Changed l.i (λ x v. row_end l.e (at (marks l.rows.joined) x) (at l.rows.distance x) v) l.initial.solution.row_duals l.solution.row_duals × (l.solution.column_duals ≡ l.initial.solution.column_duals) × (l.solution.column_of ≡ l.initial.solution.column_of)

abbrev pub invariant-loop-j : goal.invariant-loop-j
invariant-loop-j l = Changed l.j (λ x v. column_end l.e (at (marks l.columns.joined) x) (at l.columns.distance x) v) l.initial.solution.column_duals l.solution.column_duals × (l.solution.row_duals ≡ l.initial.solution.row_duals) × (l.solution.column_of ≡ l.initial.solution.column_of)
