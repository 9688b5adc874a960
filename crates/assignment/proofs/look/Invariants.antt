-- `assignment::look` meets its contract. The invariant is `Looked` of the columns passed, and the row tried so far. Assumes nothing.
use Prim.Native.Nat.{◌+◌, ◌-◌}
use Rattle.assignment.specs.Loops.{Looked}
use Rattle.assignment.specs.Matching.{at, cell, out_of}
use Rattle.assignment.specs.Counts.{Tried}
use mathlib.Core.Path.{◌≡◌}
use Rattle.assignment.specs.Marks.{marks}
use Rattle.assignment.proofs.look.Given as goal

abbrev pub invariant-loop-j : goal.invariant-loop-j
invariant-loop-j l = Looked l.j l.t (λ x. l.base + at l.z x - out_of l.problem.choice (cell l.problem.matrix.gains.now) l.t x) (at (marks l.columns.joined)) l.initial.columns.distance l.initial.columns.from l.columns.distance l.columns.from l.near.place l.near.value × Tried l.t l.j l.initial.counts l.counts × (l.columns.joined ≡ l.initial.columns.joined)
