-- `behind_row` meets its contract. Assumes nothing.
use Rattle.planning.specs.Making.{BehindTo}
use Rattle.planning.proofs.behind_row.Given as goal

abbrev pub invariant-loop-j : goal.invariant-loop-j
invariant-loop-j l = BehindTo l.neighbours l.starts l.v l.j l.r
