-- `row_weights` meets its contract. The invariant: the two greatest gains of the columns passed, and the row tried so far. Assumes nothing.
use Prim.Native.Nat.{◌<◌}
use Rattle.model.specs.Limits.{degree_limit}
use Rattle.assignment.specs.Matching.{cell}
use Rattle.assignment.specs.Loops.{GreatestTwo}
use Rattle.assignment.specs.Counts.{Tried}
use Rattle.assignment.proofs.weights.row_weights.Given as goal

abbrev pub invariant-loop-j : goal.invariant-loop-j
invariant-loop-j l = GreatestTwo l.j (cell l.g 0) l.b l.d l.e × Tried 0 l.j l.initial.counts l.counts × (l.b < degree_limit)
