-- The small plants of paper 01 as one table with one theorem: what the paper says of each holds of the definitions. The paper gives the
-- weight, of case 2, 4 and 6 something of the mapping, in case 9 what the certificate's check gives, and in case 10 the item. Assumes nothing.
use Rattle.std.specs.Prelude.{refl, List, [], ◌∷◌, pos}
use Rattle.foundations.specs.Counting.{cnt}
use Rattle.foundations.specs.Lists.{every, tab, below, cat}
use Rattle.foundations.specs.Members.{mem, del, place}
use Rattle.foundations.specs.Sums.{sumℤ}
use Rattle.model.specs.Bytes.{signed32, bits32}
use Rattle.model.specs.Calls.{input_item}
use Rattle.model.specs.Certificate.{squares, certificate_length, record_length, record_at, mapping_in, value_in, child_dual, other_dual, value_of, eq_z, at_most, shape_ok, forbidden_ok, cover_ok, duals_ok, pair_ok, subproblem_ok, check_of}
use Rattle.model.specs.Edges.{component, parent_in}
use Rattle.model.specs.Graph.{joins, joined_by, neighbours, edge_before, edge_label, directed, upstream}
use Rattle.model.specs.Mapping.{mapped, num, vertex_pairs, edge_pairs, weight, allowed, parent_mapped, vertex_ok, edge_ok, is_top, mapping_ok}
use Rattle.model.specs.Order.{parent, children, postorder_from, postorder, position, width, subproblems, offset, slot, index, vertex_at, u_at, v_at, s_at}
use Rattle.model.specs.Pairs.{apart, same_direction, directions_agree, vertex_pair, edge_pair}
use Rattle.model.specs.Refusals.{first_of}
use Rattle.model.specs.Table.{vertex_weight, edge_weight, table_sized, table_marked, row_ok, weights_ok}
use Rattle.model.specs.Tree.{with_serials, vertex_mark_of, vertex_size, serial, serial_new, serials_differ, sized, marked, labels_known, ends_low, closes, acyclic, degree, few_edges}
use Rattle.model.specs.Values.{greatest, best, value_from, value_to, value, largest, answer}
use Rattle.model.specs.Weights.{is_forbidden, in_range, weight_ok, weighed}
use Rattle.cases.specs.Expected.{weighs, refused, checked, Row, plant, All, end, ◌then◌, by_test}
use Rattle.cases.specs.Plants.{word_bytes, weights, rows, table_of, vertex_bytes, edge_by, edge, edges_of, tree_of, path, star, three, table_p, table7, table8, certificate1}

-- case, table, recorded, found, and what is expected
abbrev pub small_plants : List Row
small_plants =
    plant 1 table_p (path (0 ∷ [])) (path (0 ∷ [])) (weighs (pos 5) (0 ∷ []))
    ∷ plant 2 table_p (path (0 ∷ [])) (path (1 ∷ [])) (weighs (pos 0) (255 ∷ []))
    ∷ plant 3 table_p (path (0 ∷ 1 ∷ [])) (path (1 ∷ 0 ∷ [])) (weighs (pos 9) (1 ∷ 0 ∷ []))
    ∷ plant 4 table_p (path (0 ∷ 1 ∷ 0 ∷ [])) (path (0 ∷ 0 ∷ 0 ∷ [])) (weighs (pos 10) (0 ∷ 1 ∷ 2 ∷ []))
    ∷ plant 5 table_p (star (0 ∷ 0 ∷ 0 ∷ 0 ∷ [])) (path (0 ∷ 0 ∷ 0 ∷ 0 ∷ [])) (weighs (pos 17) (1 ∷ 0 ∷ 2 ∷ 255 ∷ []))
    ∷ plant 6 table_p (path (1 ∷ 0 ∷ 0 ∷ [])) (path (0 ∷ 0 ∷ [])) (weighs (pos 11) (255 ∷ 0 ∷ 1 ∷ []))
    ∷ plant 7 table7 (path (0 ∷ 0 ∷ [])) (path (0 ∷ 0 ∷ [])) (weighs (pos 5) (0 ∷ 255 ∷ []))
    ∷ plant 8 table8 (star (0 ∷ 1 ∷ 2 ∷ [])) (star (0 ∷ 1 ∷ 2 ∷ [])) (weighs (pos 13) (0 ∷ 2 ∷ 1 ∷ []))
    ∷ plant 9 table_p (path (0 ∷ [])) (path (0 ∷ [])) (checked (certificate1 5 0 5) 0)
    ∷ plant 9 table_p (path (0 ∷ [])) (path (0 ∷ [])) (checked (certificate1 6 0 5) 22)
    ∷ plant 9 table_p (path (0 ∷ [])) (path (0 ∷ [])) (checked (certificate1 5 0 6) 23)
    ∷ plant 9 table_p (path (0 ∷ [])) (path (0 ∷ [])) (checked (certificate1 0 255 5) 24)
    ∷ plant 10 table_p (three 0 1 1 0) (path (0 ∷ [])) (refused 6)
    ∷ plant 10 table_p (three 0 1 0 3) (path (0 ∷ [])) (refused 5)
    ∷ []

pub small_plants_lem : All small_plants
unfolding word_bytes weights rows table_of vertex_bytes edge_by edge edges_of tree_of path star three table_p table7 table8 input_item first_of table_sized table_marked weights_ok row_ok weight_ok is_forbidden in_range vertex_weight edge_weight weighed sized marked labels_known ends_low closes acyclic degree few_edges with_serials vertex_mark_of vertex_size serial serial_new serials_differ component joins joined_by neighbours edge_before edge_label parent parent_in children vertex_pair apart directed upstream same_direction directions_agree edge_pair mapped num vertex_pairs edge_pairs weight allowed parent_mapped vertex_ok edge_ok is_top mapping_ok greatest best value_from value_to value largest answer signed32 bits32 every below mem del sumℤ cnt cat certificate1 check_of shape_ok squares certificate_length record_length record_at mapping_in value_in child_dual other_dual value_of eq_z at_most forbidden_ok cover_ok duals_ok pair_ok subproblem_ok postorder_from postorder position width subproblems offset slot index vertex_at u_at v_at s_at tab place
small_plants_lem =
    by_test refl refl refl refl
    then by_test refl refl refl refl
    then by_test refl refl refl refl
    then by_test refl refl refl refl
    then by_test refl refl refl refl
    then by_test refl refl refl refl
    then by_test refl refl refl refl
    then by_test refl refl refl refl
    then refl
    then refl
    then refl
    then refl
    then refl
    then refl
    then end
