-- Rows that the small plants lack: wrong turns of paper 01 (a matching that must be full, adding to a forbidden weight; the others are cases
-- 8, 6 and 4), a table that is not symmetric, and weights at the limits of paper 02, [2]. Assumes nothing.
use Rattle.std.specs.Prelude.{refl, List, [], ◌∷◌, ℕ, ℤ, pos, negsuc}
use Rattle.foundations.specs.Counting.{cnt}
use Rattle.foundations.specs.Lists.{every, below, cat}
use Rattle.foundations.specs.Members.{mem, del}
use Rattle.foundations.specs.Sums.{sumℤ}
use Rattle.model.specs.Bytes.{signed32, bits32}
use Rattle.model.specs.Calls.{input_item}
use Rattle.model.specs.Edges.{component, parent_in}
use Rattle.model.specs.Graph.{joins, joined_by, neighbours, edge_before, edge_label, directed, upstream}
use Rattle.model.specs.Limits.{forbidden}
use Rattle.model.specs.Mapping.{mapped, num, vertex_pairs, edge_pairs, weight, allowed, parent_mapped, vertex_ok, edge_ok, is_top, mapping_ok}
use Rattle.model.specs.Order.{parent, children}
use Rattle.model.specs.Pairs.{apart, same_direction, directions_agree, vertex_pair, edge_pair}
use Rattle.model.specs.Refusals.{first_of}
use Rattle.model.specs.Table.{vertex_weight, edge_weight, table_sized, table_marked, row_ok, weights_ok}
use Rattle.model.specs.Tree.{with_serials, vertex_mark_of, vertex_size, serial, serial_new, serials_differ, sized, marked, labels_known, ends_low, closes, acyclic, degree, few_edges}
use Rattle.model.specs.Values.{greatest, best, value_from, value_to, value, largest, answer}
use Rattle.model.specs.Weights.{is_forbidden, in_range, weight_ok, weighed}
use Rattle.cases.specs.Expected.{weighs, refused, Row, plant, All, end, ◌then◌, by_test}
use Rattle.cases.specs.Plants.{word_bytes, weights, rows, table_of, vertex_bytes, edge_by, edge, edges_of, tree_of, path, table_p, table7, table_one, most, least, too_great, too_low, near_forbidden}

-- pair (0,0) 5, others forbidden; edge weight -1
unfoldable pub table_low : List ℕ
table_low = table_of ((pos 5 ∷ forbidden ∷ []) ∷ (forbidden ∷ forbidden ∷ []) ∷ []) ((negsuc 0 ∷ []) ∷ [])

-- pair (0,1) 7, pair (1,0) 2, others 0
unfoldable pub table_uneven : List ℕ
table_uneven = table_of ((pos 0 ∷ pos 7 ∷ []) ∷ (pos 2 ∷ pos 0 ∷ []) ∷ []) ((pos 0 ∷ []) ∷ [])

-- one vertex each, under a table that item 2 refuses
abbrev out_of_range : ℕ → ℤ → ℤ → Row
out_of_range k v e = plant k (table_one v e) (path (0 ∷ [])) (path (0 ∷ [])) (refused 2)

abbrev pub further_plants : List Row
further_plants =
    -- full: the child pair weighs -1, and 4 is the wrong answer
    plant 1 table_p (path (0 ∷ 1 ∷ [])) (path (0 ∷ 0 ∷ [])) (weighs (pos 5) (0 ∷ 255 ∷ []))
    -- a forbidden vertex pair below an edge pair of -1, a forbidden edge pair above a vertex pair of -2: added up in 32 bits both are great
    ∷ plant 2 table_low (path (0 ∷ 1 ∷ [])) (path (0 ∷ 1 ∷ [])) (weighs (pos 5) (0 ∷ 255 ∷ []))
    ∷ plant 3 table7 (path (0 ∷ 0 ∷ [])) (path (0 ∷ 1 ∷ [])) (weighs (pos 5) (0 ∷ 255 ∷ []))
    -- rows belong to recorded labels, columns to found ones
    ∷ plant 4 table_uneven (path (0 ∷ [])) (path (1 ∷ [])) (weighs (pos 7) (0 ∷ []))
    ∷ plant 5 table_uneven (path (1 ∷ [])) (path (0 ∷ [])) (weighs (pos 2) (0 ∷ []))
    -- the greatest weights are added up exactly; the least and forbidden ones give the empty mapping
    ∷ plant 6 (table_one most most) (path (0 ∷ 0 ∷ 0 ∷ 0 ∷ [])) (path (0 ∷ 0 ∷ 0 ∷ 0 ∷ [])) (weighs (pos 112000000) (0 ∷ 1 ∷ 2 ∷ 3 ∷ []))
    ∷ plant 7 (table_one least least) (path (0 ∷ 0 ∷ [])) (path (0 ∷ 0 ∷ [])) (weighs (pos 0) (255 ∷ 255 ∷ []))
    ∷ plant 8 (table_one forbidden forbidden) (path (0 ∷ 0 ∷ [])) (path (0 ∷ 0 ∷ [])) (weighs (pos 0) (255 ∷ 255 ∷ []))
    -- item 2: one beyond either limit, one above the forbidden number, of vertices and of edges
    ∷ out_of_range 9 too_great most
    ∷ out_of_range 10 most too_great
    ∷ out_of_range 11 too_low least
    ∷ out_of_range 12 least too_low
    ∷ out_of_range 13 near_forbidden forbidden
    ∷ out_of_range 14 forbidden near_forbidden
    ∷ []

pub further_plants_lem : All further_plants
unfolding word_bytes weights rows table_of vertex_bytes edge_by edge edges_of tree_of path table_p table7 table_one table_low table_uneven input_item first_of table_sized table_marked weights_ok row_ok weight_ok is_forbidden in_range vertex_weight edge_weight weighed sized marked labels_known ends_low closes acyclic degree few_edges with_serials vertex_mark_of vertex_size serial serial_new serials_differ component joins joined_by neighbours edge_before edge_label parent parent_in children vertex_pair apart directed upstream same_direction directions_agree edge_pair mapped num vertex_pairs edge_pairs weight allowed parent_mapped vertex_ok edge_ok is_top mapping_ok greatest best value_from value_to value largest answer signed32 bits32 every below mem del sumℤ cnt cat
further_plants_lem =
    by_test refl refl refl refl
    then by_test refl refl refl refl
    then by_test refl refl refl refl
    then by_test refl refl refl refl
    then by_test refl refl refl refl
    then by_test refl refl refl refl
    then by_test refl refl refl refl
    then by_test refl refl refl refl
    then refl
    then refl
    then refl
    then refl
    then refl
    then refl
    then end
