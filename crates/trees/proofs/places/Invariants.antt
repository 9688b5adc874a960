-- `places` stores where each vertex stands. The invariant: the first i are stored. Assumes nothing.
use Rattle.trees.specs.Visits.{Placed}
use Rattle.trees.proofs.places.Given as goal

abbrev pub invariant-loop-i : goal.invariant-loop-i
invariant-loop-i l = Placed l.o.at l.i l.p
