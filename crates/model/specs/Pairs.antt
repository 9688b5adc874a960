-- The weights of a pair of vertices and of a pair of edges, which for directed edges hangs on how their ends are paired: the only way to a pair's weight.
-- Paper 01, "The mapping"; paper 02, [3] and [6].
use Rattle.std.specs.Prelude.{Bool, ◌&&◌, ◌||◌, not, cond, List, ℕ, eqb}
use Rattle.model.specs.Weights.{Weight, none}
use Rattle.model.specs.Table.{vertex_weight, edge_weight}
use Rattle.model.specs.Tree.{vertex_label, serial, known}
use Rattle.model.specs.Graph.{edge_label, directed, upstream}

-- two serials that are known and different
unfoldable pub apart : ℕ → ℕ → Bool
apart a b = known a && (known b && not (eqb a b))

-- recorded vertex u with found vertex v (the paper's device pair): "Two devices with known, different serials are a forbidden pair"; any other weighs
-- what the table says
unfoldable pub vertex_pair : List ℕ → List ℕ → List ℕ → ℕ → ℕ → Weight
vertex_pair table recorded found u v = cond (apart (serial recorded u) (serial found v)) none (vertex_weight table (vertex_label recorded u) (vertex_label found v))

-- of two directed edges, with u paired with v and u' with v': "upstream end to upstream end". Both ends are asked for, so that the answer is the same
-- from either of them, also where nothing is joined
unfoldable pub same_direction : List ℕ → List ℕ → ℕ → ℕ → ℕ → ℕ → Bool
same_direction recorded found u u' v v' = (upstream recorded u u' && upstream found v v') || (upstream recorded u' u && upstream found v' v)

-- "A flow line pairs only with a flow line, upstream end to upstream end": their labels may differ. Two edges without a direction agree too
unfoldable pub directions_agree : List ℕ → List ℕ → ℕ → ℕ → ℕ → ℕ → Bool
directions_agree recorded found u u' v v' =
    cond (directed (edge_label recorded u u'))
    (directed (edge_label found v v') && same_direction recorded found u u' v v')
    (not (directed (edge_label found v v')))

-- the recorded edge that joins u and u' with the found edge that joins v and v' (the paper's line pair), u paired with v and u' with v': where their
-- directions do not agree "the pair is forbidden, whatever the table says", and so are two flow lines against each other; any other weighs what the table
-- says. Only of joined vertices it means something: every use asks that first
unfoldable pub edge_pair : List ℕ → List ℕ → List ℕ → ℕ → ℕ → ℕ → ℕ → Weight
edge_pair table recorded found u u' v v' = cond (directions_agree recorded found u u' v v') (edge_weight table (edge_label recorded u u') (edge_label found v v')) none
