-- `edge_table` meets its contract. Assumes nothing.
use mathlib.Core.Path.{◌≡◌}
use Rattle.adjacency.specs.NeighbourSteps.{edge_rows, seen_so_far}
use Rattle.adjacency.proofs.edge_table.Given as goal

abbrev pub invariant-loop-j : goal.invariant-loop-j
invariant-loop-j l = l.t ≡ edge_rows l.neighbours (λ v w. seen_so_far l.s l.n v w l.j)
