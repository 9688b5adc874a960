-- `table_weights` meets its contract. The invariant: the weights up to choice c, by c further searches at most. Assumes nothing.
use Rattle.assignment.specs.Matching.{cell}
use Rattle.assignment.specs.Counts.{Searches}
use Rattle.assignment.proofs.Choices.{Filled}
use Rattle.assignment.proofs.weights.table_weights.Given as goal

abbrev pub invariant-loop-c : goal.invariant-loop-c
invariant-loop-c l = Filled l.k l.l (cell l.matrix.gains.now) l.all l.c l.t × Searches l.c l.initial.counts l.counts
