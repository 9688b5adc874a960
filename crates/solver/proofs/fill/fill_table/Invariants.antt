-- `fill_table` meets its contract. The invariant: the numbers written so far. Assumes nothing.
use Prim.Native.Nat.{◌+◌, ◌≤◌}
use mathlib.Core.Path.{◌≡◌}
use Rattle.model.specs.Weights.{stored}
use Rattle.assignment.specs.Matching.{at}
use Rattle.solver.specs.Numbers.{written}
use Rattle.solver.proofs.fill.fill_table.Given as goal

abbrev pub invariant-loop-i : goal.invariant-loop-i
invariant-loop-i l = (l.i ≤ l.count) × (l.work ≡ written l.initial.work l.from l.i (λ j. stored l.w (at l.t (l.first + j))))
