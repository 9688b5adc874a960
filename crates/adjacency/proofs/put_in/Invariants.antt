-- `put_in` meets its contract. Assumes nothing.
use Rattle.adjacency.specs.Insertion.{put_in, Putting}
use Rattle.adjacency.proofs.put_in.Given as goal

abbrev pub invariant-loop-i : goal.invariant-loop-i
invariant-loop-i l = Putting l.i l.c l.r (put_in l.w l.initial.r)
