-- `fill_row` meets its contract. Each turn but the first begins with a pair, the next one. Assumes nothing.
use Rattle.solver.specs.Bound.{begins, search_most}
use Rattle.assignment.specs.Counts.{Searches}
use Rattle.plan.specs.Plan.{offset_in}
use Rattle.plan.specs.Numbers.{Located}
use Rattle.model.specs.Values.{fill}
use Prim.Native.Nat.{◌+◌, ◌≤◌, ◌<◌, ◌-◌}
use mathlib.Core.Bool.{true}
use mathlib.Core.Path.{◌≡◌}
use Rattle.solver.proofs.fill.fill_row.Given as goal

abbrev pub invariant-loop-i : goal.invariant-loop-i
invariant-loop-i l = (l.i ≤ l.count) × (l.work ≡ fill l.on.table.now l.on.recorded.now l.on.found.now l.initial.work l.from l.i) × (l.i < l.count → Located (offset_in l.on.plan.now) l.m (l.first + l.i) l.v × (l.q ≡ l.first + l.i - offset_in l.on.plan.now l.v)) × (0 < l.i → l.i < l.count → begins l.on.found.now (l.from + l.i) ≡ true) × Searches (search_most l.on.recorded.now l.on.found.now l.from l.i) l.initial.scratch.counts l.scratch.counts

abbrev pub decreases-loop-i : goal.decreases-loop-i
decreases-loop-i l = l.count - l.i
