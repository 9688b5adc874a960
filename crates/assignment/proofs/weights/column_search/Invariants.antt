-- `column_search` meets its contract. The invariant: the greatest gain of the rows passed, and the column passed so far. Assumes nothing.
use Prim.Native.Nat.{ℕ}
use Rattle.assignment.specs.Matching.{cell}
use Rattle.assignment.specs.Loops.{Greatest}
use Rattle.assignment.proofs.Counting.{Passed}
use Rattle.assignment.proofs.weights.column_search.Given as goal

abbrev pub invariant-loop-i : goal.invariant-loop-i
invariant-loop-i l = ((b : ℕ) × Greatest l.i (λ x. cell l.g x 0) b l.d) × Passed l.i l.initial.counts l.counts
