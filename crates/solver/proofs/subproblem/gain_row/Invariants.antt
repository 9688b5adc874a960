-- `gain_row` meets its contract. Assumes nothing.
use Prim.Native.Nat.{◌*◌, ◌≤◌, ◌<◌}
use mathlib.Core.Path.{◌≡◌}
use lib.ListN.{length}
use Rattle.model.specs.Graph.{neighbours}
use Rattle.model.specs.Limits.{degree_limit}
use Rattle.model.specs.Order.{width}
use Rattle.model.specs.Values.{recalled}
use Rattle.plan.specs.Plan.{child_place_in}
use Rattle.plan.specs.Pairs.{gain_at, RowFilled}
use Rattle.solver.proofs.subproblem.gain_row.Given as goal

abbrev pub invariant-loop-j : goal.invariant-loop-j
invariant-loop-j l =
    (l.j ≤ l.l) × (l.l ≤ degree_limit) × (l.i < degree_limit) × (l.l ≡ length (neighbours l.on.found.now l.v)) × (l.base ≡ child_place_in l.on.plan.now l.u l.i * width l.on.found.now)
    × RowFilled l.j l.i (gain_at l.on.table.now l.on.recorded.now l.on.found.now (recalled l.on.recorded.now l.on.found.now l.work) l.u l.v l.i) l.initial.g l.g
