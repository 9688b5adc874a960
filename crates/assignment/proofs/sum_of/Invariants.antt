-- `assignment::sum_of` meets its contract. The invariant: what is added and what is left make the sum. Assumes nothing.
use mathlib.Core.Path.{◌≡◌}
use Prim.Native.Nat.{◌*◌, ◌≤◌}
use Rattle.foundations.specs.Sums.{sum}
use Rattle.assignment.specs.Matching.{at, gain_limit}
use Rattle.assignment.proofs.sum_of.Given as goal

abbrev pub invariant-loop-i : goal.invariant-loop-i
invariant-loop-i l = (l.s ≡ sum l.i (at l.a)) × (l.s ≤ l.i * gain_limit)
