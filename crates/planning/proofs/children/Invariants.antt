-- `children` meets its contract. Assumes nothing.
use Rattle.planning.specs.Making.{ChildrenTo}
use Rattle.planning.proofs.children.Given as goal

abbrev pub invariant-loop-i : goal.invariant-loop-i
invariant-loop-i l = ChildrenTo l.neighbours l.edges l.place l.own l.i l.c l.edge l.at l.vertex
