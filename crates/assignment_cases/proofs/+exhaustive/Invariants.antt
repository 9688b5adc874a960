-- `assignment_cases::exhaustive` meets its contract. The measure is the number of rows. The invariant: what was found is no more than k times the limit. Assumes nothing.
use Prim.Native.Nat.{◌*◌, ◌≤◌}
use Rattle.assignment.specs.Matching.{gain_limit}
use Rattle.assignment_cases.proofs.+exhaustive.Given as goal

abbrev pub decreases-exhaustive : goal.decreases-exhaustive
decreases-exhaustive l = l.k

abbrev pub invariant-loop-j : goal.invariant-loop-j
invariant-loop-j l = l.best ≤ l.k * gain_limit
