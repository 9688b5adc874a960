-- Plants with directed edges, the flow lines of paper 02, [6]: edges that run the same way and against each other, edges without a direction, labels 3
-- and 4 to 7, certificates, and the items of table and trees, which know no direction. An edge is written with its upstream end first, as 0>1. Assumes nothing.
-- (Four tables of rows: one of all would take three times the memory to compute.)
use Rattle.std.specs.Prelude.{◌≡◌, refl, true, false, List, [], ◌∷◌, ◌++◌, ℕ, ℤ, pos, negsuc, replicate}
use Rattle.foundations.specs.Counting.{cnt}
use Rattle.foundations.specs.Lists.{every, tab, below, cat}
use Rattle.foundations.specs.Members.{mem, del, place}
use Rattle.foundations.specs.Sums.{sumℤ}
use Rattle.model.specs.Bytes.{signed32, bits32}
use Rattle.model.specs.Calls.{input_item}
use Rattle.model.specs.Certificate.{squares, certificate_length, record_length, record_at, mapping_in, value_in, child_dual, other_dual, value_of, eq_z, at_most, shape_ok, forbidden_ok, cover_ok, duals_ok, pair_ok, subproblem_ok, check_of}
use Rattle.model.specs.Edges.{component, parent_in}
use Rattle.model.specs.Graph.{joins, joined_by, neighbours, edge_before, edge_label, directed, upstream}
use Rattle.model.specs.Limits.{forbidden}
use Rattle.model.specs.Mapping.{mapped, num, vertex_pairs, edge_pairs, weight, allowed, parent_mapped, vertex_ok, edge_ok, is_top, mapping_ok}
use Rattle.model.specs.Order.{parent, children, postorder_from, postorder, position, width, subproblems, offset, slot, index, vertex_at, u_at, v_at, s_at}
use Rattle.model.specs.Pairs.{apart, same_direction, directions_agree, vertex_pair, edge_pair}
use Rattle.model.specs.Refusals.{first_of}
use Rattle.model.specs.Sizes.{sizes_of}
use Rattle.model.specs.Table.{vertex_weight, edge_weight, table_sized, table_marked, row_ok, weights_ok}
use Rattle.model.specs.Tree.{with_serials, vertex_mark_of, vertex_size, serial, serial_new, serials_differ, sized, marked, labels_known, ends_low, closes, acyclic, degree, few_edges}
use Rattle.model.specs.Values.{greatest, best, value_from, value_to, value, largest, answer}
use Rattle.model.specs.Weights.{none, some, is_forbidden, in_range, weight_ok, weighed}
use Rattle.cases.specs.Expected.{Expected, weighs, refused, checked, told, lend, Row, plant, All, end, ◌then◌, by_test}
use Rattle.cases.specs.CertificateCases.{records_of, certificate_of}
use Rattle.cases.specs.Plants.{word_bytes, weights, rows, table_of, vertex_bytes, edge_by, edge, table_p}

-- Vertex labels 0 and 1 weigh 5 and 3 with themselves and are forbidden with each other. Of edges, an undirected label weighs 1 with itself and 0 with
-- another undirected one; the table would give 9 for a directed one with an undirected one; 4 weighs 1 with itself and 3 with 5, 5 weighs -2 with 4
-- and is forbidden with itself.
unfoldable pub table_flow : List ℕ
table_flow =
    table_of
    ((pos 5 ∷ forbidden ∷ []) ∷ (forbidden ∷ pos 3 ∷ []) ∷ [])
    ((pos 1 ∷ pos 0 ∷ pos 0 ∷ pos 0 ∷ pos 9 ∷ pos 9 ∷ [])
    ∷ (pos 0 ∷ pos 1 ∷ pos 0 ∷ pos 0 ∷ pos 9 ∷ pos 9 ∷ [])
    ∷ (pos 0 ∷ pos 0 ∷ pos 1 ∷ pos 0 ∷ pos 9 ∷ pos 9 ∷ [])
    ∷ (pos 0 ∷ pos 0 ∷ pos 0 ∷ pos 1 ∷ pos 9 ∷ pos 9 ∷ [])
    ∷ (pos 9 ∷ pos 9 ∷ pos 9 ∷ pos 9 ∷ pos 1 ∷ pos 3 ∷ [])
    ∷ (pos 9 ∷ pos 9 ∷ pos 9 ∷ pos 9 ∷ negsuc 1 ∷ forbidden ∷ [])
    ∷ [])

-- the same vertex labels, and all eight edge labels, which weigh 1 with each other
unfoldable pub table_eight : List ℕ
table_eight = table_of ((pos 5 ∷ forbidden ∷ []) ∷ (forbidden ∷ pos 3 ∷ []) ∷ []) (replicate 8 (replicate 8 (pos 1)))

-- vertices 0 and 1 of labels 0 and 1, and of label 0 both, joined by an edge with this label from a to b
unfoldable pub two : ℕ → ℕ → ℕ → List ℕ
two label a b = vertex_bytes (0 ∷ 1 ∷ []) ++ edge_by label a b

unfoldable pub two_alike : ℕ → ℕ → ℕ → List ℕ
two_alike label a b = vertex_bytes (0 ∷ 0 ∷ []) ++ edge_by label a b

-- a path of directed edges, 0>1, 1>2, 2>3, and its mirror, 1>0, 2>1, 3>2
unfoldable pub down : List ℕ → List ℕ
down labels = vertex_bytes labels ++ edge_by 4 0 1 ++ edge_by 4 1 2 ++ edge_by 4 2 3

unfoldable pub mirror : List ℕ → List ℕ
mirror labels = vertex_bytes labels ++ edge_by 4 1 0 ++ edge_by 4 2 1 ++ edge_by 4 3 2

-- the certificate of two recorded vertices and two found ones of labels 0 and 1: its weight, the partner of vertex 1, and the value of (0, 0, 0) with the
-- dual of its child
unfoldable pub certificate_two : ℤ → ℕ → ℤ → ℤ → List ℕ
certificate_two w p x a = certificate_of 2 2 w (0 ∷ p ∷ []) (
    -- u = 1: v = 0 with s = 0, 1; v = 1 with s = 1, 0
    (forbidden ∷ pos 0 ∷ []) ∷ (forbidden ∷ []) ∷ (pos 3 ∷ pos 0 ∷ []) ∷ (pos 3 ∷ [])
    -- u = 0
    ∷ (x ∷ a ∷ pos 0 ∷ []) ∷ (pos 5 ∷ pos 0 ∷ []) ∷ (forbidden ∷ pos 0 ∷ pos 0 ∷ []) ∷ (forbidden ∷ pos 0 ∷ [])
    ∷ [])

-- two trees with table `table_flow`, and with all eight edge labels
abbrev flow : List ℕ → List ℕ → Expected → Row
flow recorded found e = plant 0 table_flow recorded found e

abbrev eight : List ℕ → List ℕ → Expected → Row
eight recorded found e = plant 0 table_eight recorded found e

-- ---- which way edges run

abbrev pub direction_plants : List Row
direction_plants =
    -- 0>1 with itself: both vertices and the edge, 5 + 3 + 1
    flow (two 4 0 1) (two 4 0 1) (weighs (pos 9) (0 ∷ 1 ∷ []))
    ∷ flow (two 4 1 0) (two 4 1 0) (weighs (pos 9) (0 ∷ 1 ∷ []))
    -- 0>1 with 1>0: labels allow only 0 with 0 and 1 with 1, so that only one vertex can be mapped, and 0 is the heavier
    ∷ flow (two 4 0 1) (two 4 1 0) (weighs (pos 5) (0 ∷ 255 ∷ []))
    ∷ flow (two 4 1 0) (two 4 0 1) (weighs (pos 5) (0 ∷ 255 ∷ []))
    -- both vertices of label 0: 5 + 5 + 1, in the one of the two ways that follows the direction
    ∷ flow (two_alike 4 0 1) (two_alike 4 0 1) (weighs (pos 11) (0 ∷ 1 ∷ []))
    ∷ flow (two_alike 4 0 1) (two_alike 4 1 0) (weighs (pos 11) (1 ∷ 0 ∷ []))
    -- a path of three directed edges and its mirror: from the other end it is the same, 4 * 5 + 3; vertex by vertex it runs against it
    ∷ flow (down (0 ∷ 0 ∷ 0 ∷ 0 ∷ [])) (mirror (0 ∷ 0 ∷ 0 ∷ 0 ∷ [])) (weighs (pos 23) (3 ∷ 2 ∷ 1 ∷ 0 ∷ []))
    -- along the flow the labels are 0 1 0 0, and in the mirror 0 0 1 0: they share 0 1 0, which is 5 + 3 + 5 + 2. Without directions all four would be kept
    ∷ flow (down (0 ∷ 1 ∷ 0 ∷ 0 ∷ [])) (mirror (0 ∷ 1 ∷ 0 ∷ 0 ∷ [])) (weighs (pos 15) (2 ∷ 1 ∷ 0 ∷ 255 ∷ []))
    -- only the middle one turned: 0>1 is left, 5 + 3 + 1, or one of those of two vertices of label 1, 3 + 3 + 1
    ∷ flow (down (0 ∷ 1 ∷ 1 ∷ 1 ∷ [])) (vertex_bytes (0 ∷ 1 ∷ 1 ∷ 1 ∷ []) ++ edge_by 4 0 1 ++ edge_by 4 2 1 ++ edge_by 4 2 3) (weighs (pos 9) (0 ∷ 1 ∷ 255 ∷ 255 ∷ []))
    -- 1>0>2 with 0>1>2: the edge to the root runs up and the other down, 3 * 5 + 2
    ∷ flow (vertex_bytes (0 ∷ 0 ∷ 0 ∷ []) ++ edge_by 4 1 0 ++ edge_by 4 0 2) (vertex_bytes (0 ∷ 0 ∷ 0 ∷ []) ++ edge_by 4 0 1 ++ edge_by 4 1 2) (weighs (pos 17) (1 ∷ 0 ∷ 2 ∷ []))
    -- two edges from the root, with 0>1>2: one of them, 5 + 5 + 1
    ∷ flow (vertex_bytes (0 ∷ 0 ∷ 0 ∷ []) ++ edge_by 4 0 1 ++ edge_by 4 0 2) (vertex_bytes (0 ∷ 0 ∷ 0 ∷ []) ++ edge_by 4 0 1 ++ edge_by 4 1 2) (weighs (pos 11) (0 ∷ 1 ∷ 255 ∷ []))
    -- an undirected edge, written the other way round in the found tree, beside a directed one: 5 + 3 + 5 + 2
    ∷ flow (vertex_bytes (0 ∷ 1 ∷ 0 ∷ []) ++ edge_by 0 0 1 ++ edge_by 4 1 2) (vertex_bytes (0 ∷ 1 ∷ 0 ∷ []) ++ edge_by 0 1 0 ++ edge_by 4 1 2) (weighs (pos 15) (0 ∷ 1 ∷ 2 ∷ []))
    ∷ []

pub direction_plants_lem : All direction_plants
unfolding word_bytes weights rows table_of vertex_bytes edge_by table_flow two two_alike down mirror input_item first_of table_sized table_marked weights_ok row_ok weight_ok is_forbidden in_range vertex_weight edge_weight weighed sized marked labels_known ends_low closes acyclic degree few_edges with_serials vertex_mark_of vertex_size serial serial_new serials_differ component joins joined_by neighbours edge_before edge_label parent parent_in children vertex_pair apart directed upstream same_direction directions_agree edge_pair mapped num vertex_pairs edge_pairs weight allowed parent_mapped vertex_ok edge_ok is_top mapping_ok greatest best value_from value_to value largest answer signed32 bits32 every below mem del sumℤ cnt cat
direction_plants_lem =
    by_test refl refl refl refl
    then by_test refl refl refl refl
    then by_test refl refl refl refl
    then by_test refl refl refl refl
    then by_test refl refl refl refl
    then by_test refl refl refl refl
    then by_test refl refl refl refl
    then by_test refl refl refl refl
    then by_test refl refl refl refl
    then by_test refl refl refl refl
    then by_test refl refl refl refl
    then by_test refl refl refl refl
    then end

-- ---- which edges are directed

abbrev pub label_plants : List Row
label_plants =
    -- a directed edge with an undirected one, in either tree and written either way: forbidden, where the table says 9
    flow (two 4 0 1) (two 3 0 1) (weighs (pos 5) (0 ∷ 255 ∷ []))
    ∷ flow (two 4 0 1) (two 3 1 0) (weighs (pos 5) (0 ∷ 255 ∷ []))
    ∷ flow (two 3 0 1) (two 4 0 1) (weighs (pos 5) (0 ∷ 255 ∷ []))
    ∷ flow (two 3 1 0) (two 4 0 1) (weighs (pos 5) (0 ∷ 255 ∷ []))
    ∷ flow (two 0 0 1) (two 5 0 1) (weighs (pos 5) (0 ∷ 255 ∷ []))
    -- labels 4 and 5: the table says what they weigh, 5 + 3 + 3 and 5 + 3 - 2, where they run the same way; and 5 with 5 is forbidden by the table
    ∷ flow (two 4 0 1) (two 5 0 1) (weighs (pos 11) (0 ∷ 1 ∷ []))
    ∷ flow (two 4 0 1) (two 5 1 0) (weighs (pos 5) (0 ∷ 255 ∷ []))
    ∷ flow (two 5 1 0) (two 4 1 0) (weighs (pos 6) (0 ∷ 1 ∷ []))
    ∷ flow (two 5 1 0) (two 4 0 1) (weighs (pos 5) (0 ∷ 255 ∷ []))
    ∷ flow (two 5 0 1) (two 5 0 1) (weighs (pos 5) (0 ∷ 255 ∷ []))
    -- labels 0 to 3 have no direction
    ∷ flow (two 3 0 1) (two 3 1 0) (weighs (pos 9) (0 ∷ 1 ∷ []))
    ∷ flow (two 2 0 1) (two 2 1 0) (weighs (pos 9) (0 ∷ 1 ∷ []))
    ∷ flow (two 1 1 0) (two 1 0 1) (weighs (pos 9) (0 ∷ 1 ∷ []))
    ∷ flow (two 0 0 1) (two 3 1 0) (weighs (pos 8) (0 ∷ 1 ∷ []))
    -- labels 6 and 7 have one as 4 and 5 have, also with another of them
    ∷ eight (two 6 0 1) (two 6 1 0) (weighs (pos 5) (0 ∷ 255 ∷ []))
    ∷ eight (two 7 0 1) (two 7 1 0) (weighs (pos 5) (0 ∷ 255 ∷ []))
    ∷ eight (two 7 0 1) (two 4 0 1) (weighs (pos 9) (0 ∷ 1 ∷ []))
    ∷ []

pub direction_labels : All label_plants
unfolding word_bytes weights rows table_of vertex_bytes edge_by table_flow table_eight two input_item first_of table_sized table_marked weights_ok row_ok weight_ok is_forbidden in_range vertex_weight edge_weight weighed sized marked labels_known ends_low closes acyclic degree few_edges with_serials vertex_mark_of vertex_size serial serial_new serials_differ component joins joined_by neighbours edge_before edge_label parent parent_in children vertex_pair apart directed upstream same_direction directions_agree edge_pair mapped num vertex_pairs edge_pairs weight allowed parent_mapped vertex_ok edge_ok is_top mapping_ok greatest best value_from value_to value largest answer signed32 bits32 every below mem del sumℤ cnt cat
direction_labels =
    by_test refl refl refl refl
    then by_test refl refl refl refl
    then by_test refl refl refl refl
    then by_test refl refl refl refl
    then by_test refl refl refl refl
    then by_test refl refl refl refl
    then by_test refl refl refl refl
    then by_test refl refl refl refl
    then by_test refl refl refl refl
    then by_test refl refl refl refl
    then by_test refl refl refl refl
    then by_test refl refl refl refl
    then by_test refl refl refl refl
    then by_test refl refl refl refl
    then by_test refl refl refl refl
    then by_test refl refl refl refl
    then by_test refl refl refl refl
    then end

-- ---- edges without a direction

abbrev pub turned_plants : List Row
turned_plants =
    -- small plants 3 to 6 of paper 01 with the ends of edges written the other way round: what they were
    plant 3 table_p (vertex_bytes (0 ∷ 1 ∷ []) ++ edge 1 0) (vertex_bytes (1 ∷ 0 ∷ []) ++ edge 0 1) (weighs (pos 9) (1 ∷ 0 ∷ []))
    ∷ plant 4 table_p (vertex_bytes (0 ∷ 1 ∷ 0 ∷ []) ++ edge 1 0 ++ edge 1 2) (vertex_bytes (0 ∷ 0 ∷ 0 ∷ []) ++ edge 0 1 ++ edge 2 1) (weighs (pos 10) (0 ∷ 1 ∷ 2 ∷ []))
    ∷ plant 5 table_p (vertex_bytes (0 ∷ 0 ∷ 0 ∷ 0 ∷ []) ++ edge 1 0 ++ edge 0 2 ++ edge 3 0) (vertex_bytes (0 ∷ 0 ∷ 0 ∷ 0 ∷ []) ++ edge 0 1 ++ edge 2 1 ++ edge 2 3) (weighs (pos 17) (1 ∷ 0 ∷ 2 ∷ 255 ∷ []))
    ∷ plant 6 table_p (vertex_bytes (1 ∷ 0 ∷ 0 ∷ []) ++ edge 1 0 ++ edge 2 1) (vertex_bytes (0 ∷ 0 ∷ []) ++ edge 1 0) (weighs (pos 11) (255 ∷ 0 ∷ 1 ∷ []))
    ∷ []

pub direction_ends : All turned_plants
unfolding word_bytes weights rows table_of vertex_bytes edge_by edge table_p input_item first_of table_sized table_marked weights_ok row_ok weight_ok is_forbidden in_range vertex_weight edge_weight weighed sized marked labels_known ends_low closes acyclic degree few_edges with_serials vertex_mark_of vertex_size serial serial_new serials_differ component joins joined_by neighbours edge_before edge_label parent parent_in children vertex_pair apart directed upstream same_direction directions_agree edge_pair mapped num vertex_pairs edge_pairs weight allowed parent_mapped vertex_ok edge_ok is_top mapping_ok greatest best value_from value_to value largest answer signed32 bits32 every below mem del sumℤ cnt cat
direction_ends =
    by_test refl refl refl refl
    then by_test refl refl refl refl
    then by_test refl refl refl refl
    then by_test refl refl refl refl
    then end

-- ---- certificates, items and sizes

abbrev pub certificate_plants : List Row
certificate_plants =
    -- certificates: of 0>1 with itself; with 1>0; the first for the second, which maps against the flow; its bound alone, which nothing reaches; and the
    -- second for the first, where a dual of 0 does not cover the gain of 4. With an undirected edge: the second again, and one as the table would have it
    flow (two 4 0 1) (two 4 0 1) (checked (certificate_two (pos 9) 1 (pos 9) (pos 4)) 0)
    ∷ flow (two 4 0 1) (two 4 1 0) (checked (certificate_two (pos 5) 255 (pos 5) (pos 0)) 0)
    ∷ flow (two 4 0 1) (two 4 1 0) (checked (certificate_two (pos 9) 1 (pos 9) (pos 4)) 21)
    ∷ flow (two 4 0 1) (two 4 1 0) (checked (certificate_two (pos 5) 255 (pos 9) (pos 4)) 24)
    ∷ flow (two 4 0 1) (two 4 0 1) (checked (certificate_two (pos 5) 255 (pos 5) (pos 0)) 23)
    ∷ flow (two 4 0 1) (two 3 0 1) (checked (certificate_two (pos 5) 255 (pos 5) (pos 0)) 0)
    ∷ flow (two 4 0 1) (two 3 0 1) (checked (certificate_two (pos 17) 1 (pos 17) (pos 12)) 21)
    -- the items of table and trees know no direction: a loop of two directed edges, an end that is no vertex, a label that the table has not; nor do sizes
    ∷ flow (vertex_bytes (0 ∷ 0 ∷ 0 ∷ []) ++ edge_by 4 0 1 ++ edge_by 4 1 0) (two 4 0 1) (refused 6)
    ∷ flow (two 4 0 1) (vertex_bytes (0 ∷ 0 ∷ 0 ∷ []) ++ edge_by 4 0 1 ++ edge_by 5 1 0) (refused 11)
    ∷ flow (two 4 0 2) (two 4 0 1) (refused 5)
    ∷ flow (two 6 0 1) (two 4 0 1) (refused 4)
    ∷ flow (two 4 0 1) (two 8 0 1) (refused 9)
    ∷ plant 0 table_p (two 4 0 1) (two 0 0 1) (refused 4)
    ∷ flow (two 4 0 1) (two 4 1 0) (told (lend 8 8 94))
    ∷ []

pub direction_certificates : All certificate_plants
unfolding word_bytes weights rows table_of vertex_bytes edge_by table_p table_flow two certificate_two records_of certificate_of sizes_of input_item first_of table_sized table_marked weights_ok row_ok weight_ok is_forbidden in_range vertex_weight edge_weight weighed sized marked labels_known ends_low closes acyclic degree few_edges with_serials vertex_mark_of vertex_size serial serial_new serials_differ component joins joined_by neighbours edge_before edge_label parent parent_in children vertex_pair apart directed upstream same_direction directions_agree edge_pair mapped num vertex_pairs edge_pairs weight allowed parent_mapped vertex_ok edge_ok is_top mapping_ok greatest best value_from value_to value largest answer signed32 bits32 every below mem del sumℤ cnt cat check_of shape_ok squares certificate_length record_length record_at mapping_in value_in child_dual other_dual value_of eq_z at_most forbidden_ok cover_ok duals_ok pair_ok subproblem_ok postorder_from postorder position width subproblems offset slot index vertex_at u_at v_at s_at tab place
direction_certificates =
    refl
    then refl
    then refl
    then refl
    then refl
    then refl
    then refl
    then refl
    then refl
    then refl
    then refl
    then refl
    then refl
    then refl
    then end

-- "the first written end upstream"
pub first_end : (upstream (two 4 0 1) 0 1 ≡ true) × (upstream (two 4 0 1) 1 0 ≡ false) × (upstream (two 4 1 0) 0 1 ≡ false) × (upstream (two 4 1 0) 1 0 ≡ true)
unfolding vertex_bytes edge_by two with_serials vertex_size joins edge_before upstream cat
first_end = (refl, refl, refl, refl)

-- Exchanging the ends of one of two directed edges forbids the pair, exchanging those of both changes nothing. Of undirected edges neither does
pub pair_order : (edge_pair table_flow (two 4 0 1) (two 4 0 1) 0 1 0 1 ≡ some (pos 1))
    × (edge_pair table_flow (two 4 0 1) (two 4 0 1) 1 0 1 0 ≡ some (pos 1))
    × (edge_pair table_flow (two 4 0 1) (two 4 0 1) 0 1 1 0 ≡ none)
    × (edge_pair table_flow (two 3 0 1) (two 3 0 1) 0 1 1 0 ≡ some (pos 1))
unfolding word_bytes weights rows table_of vertex_bytes edge_by table_flow two is_forbidden edge_weight weighed with_serials vertex_size joins edge_before edge_label directed upstream same_direction directions_agree edge_pair signed32 bits32 cat
pair_order = (refl, refl, refl, refl)
