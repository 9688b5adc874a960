-- `assignment::owners` meets its contract. The invariant is `OwnersOf` of the rows passed. Assumes nothing.
use Rattle.assignment.specs.Loops.{OwnersOf}
use Rattle.assignment.proofs.owners.Given as goal

abbrev pub invariant-loop-i : goal.invariant-loop-i
invariant-loop-i l = OwnersOf l.i l.m l.own
