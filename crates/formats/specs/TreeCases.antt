-- Trees whose items, and whose neighbours, the definitions compute (case 10 of the small plants stands in `cases`). Assumes nothing.
use Rattle.std.specs.Prelude.{◌≡◌, refl, List, [], ◌∷◌, ◌++◌, ℕ}
use Rattle.foundations.specs.Lists.{every, below}
use Rattle.model.specs.Refusals.{first_of}
use Rattle.model.specs.Edges.{component}
use Rattle.model.specs.Tree.{with_serials, vertex_mark_of, vertex_size, serial, serial_new, serials_differ, sized, marked, labels_known, ends_low, closes, acyclic, degree, few_edges, tree_item}
use Rattle.model.specs.Graph.{joins, joined_by, neighbours}

-- ---- three vertices of label 0 with edges a-b and c-d

three : ℕ → ℕ → ℕ → ℕ → List ℕ
three a b c d = 0xB1 ∷ 1 ∷ 3 ∷ 0xB1 ∷ 2 ∷ 0 ∷ 0xB1 ∷ 2 ∷ 0 ∷ 0xB1 ∷ 2 ∷ 0 ∷ 0xB1 ∷ 3 ∷ a ∷ b ∷ 0 ∷ 0xB1 ∷ 3 ∷ c ∷ d ∷ 0 ∷ []

path_accepted : tree_item 3 25 (three 0 1 1 2) 2 1 ≡ 0
unfolding tree_item first_of sized marked labels_known ends_low acyclic closes component few_edges with_serials vertex_mark_of vertex_size serial serial_new serials_differ degree every three
path_accepted = refl

-- a cycle in a found tree; and a label that the table lacks, whose number comes first
found_cycle_refused : tree_item 8 26 (three 0 1 1 0) 2 1 ≡ 11
unfolding tree_item first_of sized marked labels_known ends_low acyclic closes component few_edges with_serials vertex_mark_of vertex_size serial serial_new serials_differ degree every three
found_cycle_refused = refl

label_refused : tree_item 3 25 (three 0 1 1 0) 0 1 ≡ 4
unfolding tree_item first_of sized marked labels_known ends_low acyclic closes component few_edges with_serials vertex_mark_of vertex_size serial serial_new serials_differ degree every three
label_refused = refl

-- ---- a centre with leaves, its edges written from the last leaf to the first

leaves : List ℕ
leaves = 0xB1 ∷ 2 ∷ 0 ∷ 0xB1 ∷ 2 ∷ 0 ∷ 0xB1 ∷ 2 ∷ 0 ∷ 0xB1 ∷ 2 ∷ 0 ∷ []

edge : ℕ → List ℕ
edge x = 0xB1 ∷ 3 ∷ 0 ∷ x ∷ 0 ∷ []

star8 : List ℕ
unfolding leaves edge
star8 = (0xB1 ∷ 1 ∷ 9 ∷ 0xB1 ∷ 2 ∷ 0 ∷ []) ++ leaves ++ leaves ++ edge 8 ++ edge 7 ++ edge 6 ++ edge 5 ++ edge 4 ++ edge 3 ++ edge 2 ++ edge 1

star9 : List ℕ
unfolding leaves edge
star9 = (0xB1 ∷ 1 ∷ 10 ∷ 0xB1 ∷ 2 ∷ 0 ∷ 0xB1 ∷ 2 ∷ 0 ∷ []) ++ leaves ++ leaves ++ edge 9 ++ edge 8 ++ edge 7 ++ edge 6 ++ edge 5 ++ edge 4 ++ edge 3 ++ edge 2 ++ edge 1

eight_accepted : tree_item 3 25 star8 2 1 ≡ 0
unfolding tree_item first_of sized marked labels_known ends_low acyclic closes component few_edges with_serials vertex_mark_of vertex_size serial serial_new serials_differ degree every star8
eight_accepted = refl

nine_refused : tree_item 3 25 star9 2 1 ≡ 7
unfolding tree_item first_of sized marked labels_known ends_low acyclic closes component few_edges with_serials vertex_mark_of vertex_size serial serial_new serials_differ degree every star9
nine_refused = refl

nine_found_refused : tree_item 8 26 star9 2 1 ≡ 12
unfolding tree_item first_of sized marked labels_known ends_low acyclic closes component few_edges with_serials vertex_mark_of vertex_size serial serial_new serials_differ degree every star9
nine_found_refused = refl

-- neighbours ascend, in whatever order the edges are written
star_neighbours : neighbours star8 0 ≡ 1 ∷ 2 ∷ 3 ∷ 4 ∷ 5 ∷ 6 ∷ 7 ∷ 8 ∷ []
unfolding neighbours below joined_by joins star8 with_serials vertex_size
star_neighbours = refl
