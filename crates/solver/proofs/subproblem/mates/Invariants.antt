-- `mates` meets its contract. Assumes nothing.
use Prim.Native.Nat.{◌≤◌}
use Rattle.solver.specs.Mates.{MatesTo}
use Rattle.plan.specs.Plan.{neighbour_in}
use Rattle.assignment.specs.Matching.{at, cell, out_of}
use Rattle.solver.proofs.subproblem.mates.Given as goal

abbrev pub invariant-loop-i : goal.invariant-loop-i
invariant-loop-i l = (l.i ≤ l.k) × MatesTo l.l (out_of l.c (cell l.g)) (at l.m) (neighbour_in l.plan l.v) l.i l.r
