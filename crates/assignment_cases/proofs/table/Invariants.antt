-- `assignment_cases::table` meets its contract. The invariant is `Small` of the gains stored. Assumes nothing.
use Rattle.assignment_cases.specs.Small.{Small}
use Rattle.assignment_cases.proofs.table.Given as goal

abbrev pub invariant-loop-i : goal.invariant-loop-i
invariant-loop-i l = Small l.i l.g
