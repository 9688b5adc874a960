-- A tree as a graph: which vertices are joined, neighbours in eight places, the edge between two vertices and which way it runs.
-- Paper 01, "Bytes of a table and a layout" (lines, neighbours); paper 02, [6].
use Rattle.std.specs.Prelude.{List, ℕ, zero, suc, ◌-◌, Bool, false, ◌&&◌, ◌||◌, cond, eqb, leb}
use Rattle.foundations.specs.Lists.{tab, below, places}
use Rattle.model.specs.Limits.{directed_from, vertex_limit, degree_limit, no_vertex}
use Rattle.model.specs.Tree.{count, end_a, end_b, edge_label_at}

-- the number of edges
abbrev pub edges : List ℕ → ℕ
edges s = count s - 1

-- an edge with ends a and b joins v and w
unfoldable pub joins : ℕ → ℕ → ℕ → ℕ → Bool
joins a b v w = (eqb a v && eqb b w) || (eqb b v && eqb a w)

-- one of the first k edges of a tree of n vertices joins v and w
unfoldable pub joined_by : List ℕ → ℕ → ℕ → ℕ → ℕ → Bool
joined_by s n v w zero = false
joined_by s n v w (suc k) = joined_by s n v w k || joins (end_a s n k) (end_b s n k) v w

abbrev pub joined : List ℕ → ℕ → ℕ → Bool
joined s v w = joined_by s (count s) v w (edges s)

-- the neighbours of v, ascending
unfoldable pub neighbours : List ℕ → ℕ → List ℕ
neighbours s v = below (λ w. joined s v w) (count s)

-- the last of the first k edges that joins v and w (an accepted tree has one at most), 0 for none
unfoldable pub edge_before : List ℕ → ℕ → ℕ → ℕ → ℕ → ℕ
edge_before s n v w zero = 0
edge_before s n v w (suc k) = cond (joins (end_a s n k) (end_b s n k) v w) k (edge_before s n v w k)

abbrev pub edge_of : List ℕ → ℕ → ℕ → ℕ
edge_of s v w = edge_before s (count s) v w (edges s)

-- the label of the edge that joins v and w; where none does, that of edge 0, of which no use is made
unfoldable pub edge_label : List ℕ → ℕ → ℕ → ℕ
edge_label s v w = edge_label_at s (count s) (edge_of s v w)

-- an edge with this label is directed (the paper's flow line): it runs from one of its ends, upstream, to the other
unfoldable pub directed : ℕ → Bool
directed l = leb directed_from l

-- of the directed edge that joins v and w, v is upstream: "the first written end". Of an undirected edge it says too whether v is written first, and no use
-- is made of it; where v and w are not joined, edge 0 is asked, as for a label
unfoldable pub upstream : List ℕ → ℕ → ℕ → Bool
upstream s v w = eqb (end_a s (count s) (edge_of s v w)) v

-- ---- neighbours are kept as eight places for each of 64 vertices, of trees that are not refused

-- a list's first eight, as many as there are places, then 255
abbrev pub in_places : List ℕ → List ℕ
in_places l = places degree_limit no_vertex l

unfoldable pub neighbour_table : List ℕ → List (List ℕ)
neighbour_table s = tab (λ v. in_places (neighbours s v)) vertex_limit
