-- `gains` meets its contract. Assumes nothing.
use Rattle.model.specs.Values.{recalled}
use Rattle.plan.specs.Pairs.{gain_at, Filled}
use Rattle.model.specs.Graph.{neighbours}
use Rattle.model.specs.Order.{children}
use Prim.Native.Nat.{◌≤◌}
use lib.ListN.{length}
use mathlib.Core.Path.{◌≡◌}
use Rattle.solver.proofs.subproblem.gains.Given as goal

abbrev pub invariant-loop-i : goal.invariant-loop-i
invariant-loop-i l = (l.i ≤ l.k) × (l.k ≡ length (children l.on.recorded.now l.of.u)) × Filled l.i (length (neighbours l.on.found.now l.v)) (gain_at l.on.table.now l.on.recorded.now l.on.found.now (recalled l.on.recorded.now l.on.found.now l.work) l.of.u l.v) l.g
