-- `neighbour_table` meets its contract. Assumes nothing.
use mathlib.Core.Path.{◌≡◌}
use Rattle.model.specs.Graph.{joined_by}
use Rattle.adjacency.specs.NeighbourSteps.{rows}
use Rattle.adjacency.proofs.neighbour_table.Given as goal

abbrev pub invariant-loop-j : goal.invariant-loop-j
invariant-loop-j l = l.t ≡ rows (λ v w. joined_by l.s l.n v w l.j) l.n
