-- `assignment::look_first` meets its contract. The invariant is `First` of the columns passed, and the row tried so far. Assumes nothing.
use Prim.Native.Nat.{◌+◌, ◌-◌}
use Rattle.assignment.specs.Loops.{First}
use Rattle.assignment.specs.Matching.{at, cell, out_of, gain_limit}
use Rattle.assignment.specs.Counts.{Tried}
use Rattle.assignment.proofs.look_first.Given as goal

abbrev pub invariant-loop-j : goal.invariant-loop-j
invariant-loop-j l = First l.j (λ x. gain_limit + at l.z x - out_of l.problem.choice (cell l.problem.matrix.gains.now) l.r x) l.initial.dist l.dist l.near.place l.near.value × Tried l.r l.j l.initial.counts l.counts
