-- `largest` meets its contract. Assumes nothing.
use Rattle.one_call.specs.Top.{TopOf}
use Rattle.one_call.proofs.top.largest.Given as goal

abbrev pub invariant-loop-u : goal.invariant-loop-u
invariant-loop-u l = TopOf l.recorded l.found l.work l.u 0 l.top.weight l.top.u l.top.v
