-- `locate` meets its contract. Assumes nothing.
use Prim.Native.Nat.{◌≤◌, ◌<◌}
use Rattle.plan.specs.Plan.{offset_in}
use Rattle.plan.proofs.locate.Given as goal

abbrev pub invariant-loop-v : goal.invariant-loop-v
invariant-loop-v l = 0 < l.v → offset_in l.plan l.v ≤ l.rest
