-- `top_of_row` meets its contract. Assumes nothing.
use Rattle.one_call.specs.Top.{TopOf}
use Rattle.one_call.proofs.top.top_of_row.Given as goal

abbrev pub invariant-loop-v : goal.invariant-loop-v
invariant-loop-v l = TopOf l.recorded l.found l.work l.u l.v l.top.weight l.top.u l.top.v
