-- Plants with serials, as paper 02, [3], has them: the small plants with unknown ones, pairs that serials forbid, items 25 and 26 in their order, and
-- records that are mixed. Assumes nothing.
use Rattle.std.specs.Prelude.{refl, List, [], ◌∷◌, ◌++◌, ℕ, ℤ, pos, replicate}
use Rattle.foundations.specs.Counting.{cnt}
use Rattle.foundations.specs.Lists.{every, tab, below, cat}
use Rattle.foundations.specs.Members.{mem, del, place}
use Rattle.foundations.specs.Sums.{sumℤ}
use Rattle.model.specs.Bytes.{signed32, bits32}
use Rattle.model.specs.Calls.{input_item}
use Rattle.model.specs.Certificate.{squares, certificate_length, record_length, record_at, mapping_in, value_in, child_dual, other_dual, value_of, eq_z, at_most, shape_ok, forbidden_ok, cover_ok, duals_ok, pair_ok, subproblem_ok, check_of}
use Rattle.model.specs.Edges.{component, parent_in}
use Rattle.model.specs.Graph.{joins, joined_by, neighbours, edge_before, edge_label, directed, upstream}
use Rattle.model.specs.Limits.{forbidden}
use Rattle.model.specs.Mapping.{mapped, num, vertex_pairs, edge_pairs, weight, allowed, parent_mapped, vertex_ok, edge_ok, is_top, mapping_ok}
use Rattle.model.specs.Order.{parent, children, postorder_from, postorder, position, width, subproblems, offset, slot, index, vertex_at, u_at, v_at, s_at}
use Rattle.model.specs.Pairs.{apart, same_direction, directions_agree, vertex_pair, edge_pair}
use Rattle.model.specs.Refusals.{first_of}
use Rattle.model.specs.Sizes.{sizes_of}
use Rattle.model.specs.Table.{vertex_weight, edge_weight, table_sized, table_marked, row_ok, weights_ok}
use Rattle.model.specs.Tree.{with_serials, vertex_mark_of, vertex_size, serial, serial_new, serials_differ, sized, marked, labels_known, ends_low, closes, acyclic, degree, few_edges}
use Rattle.model.specs.Values.{greatest, best, value_from, value_to, value, largest, answer}
use Rattle.model.specs.Weights.{is_forbidden, in_range, weight_ok, weighed}
use Rattle.cases.specs.Expected.{Expected, weighs, refused, checked, told, lend, refused_by, Row, plant, All, end, ◌then◌, by_test}
use Rattle.cases.specs.CertificateCases.{records_of, certificate_of}
use Rattle.cases.specs.Plants.{word_bytes, weights, rows, table_of, vertex_bytes, edge_by, edge, edges_of, tree_of, path, serial_records, head_with, path_with, star_with, unknown, table_p, table7, table8, certificate1}

-- two joined vertices of label 0 with these marks, in records of 7 bytes and of 3
unfoldable pub two_long : ℕ → ℕ → List ℕ
two_long a b = 0xB1 ∷ 0x01 ∷ 0x02 ∷ 0xB1 ∷ a ∷ 0 ∷ 0 ∷ 0 ∷ 0 ∷ 0 ∷ 0xB1 ∷ b ∷ 0 ∷ 0 ∷ 0 ∷ 0 ∷ 0 ∷ edge 0 1

unfoldable pub two_short : ℕ → ℕ → List ℕ
two_short a b = 0xB1 ∷ 0x01 ∷ 0x02 ∷ 0xB1 ∷ a ∷ 0 ∷ 0xB1 ∷ b ∷ 0 ∷ edge 0 1

-- the certificate of one vertex each whose pair is forbidden
unfoldable pub certificate_none : List ℕ
certificate_none = 0xC1 ∷ 0x01 ∷ 0x01 ∷ 0x01 ∷ 0 ∷ 0 ∷ 0 ∷ 0 ∷ 0xC1 ∷ 0x02 ∷ 255 ∷ 0xC1 ∷ 0x03 ∷ 0 ∷ 0 ∷ 0 ∷ 0x80 ∷ []

-- of small plant 3 with serials 7, 8 and 9, 7, with the first dual: it stands at u = 1, v = 0, s = 0
unfoldable pub certificate_third : ℤ → List ℕ
certificate_third a = certificate_of 2 2 (pos 5) (1 ∷ 255 ∷ []) (
    -- u = 1: v = 0 with s = 0, 1; v = 1 with s = 1, 0
    (forbidden ∷ a ∷ []) ∷ (forbidden ∷ []) ∷ (forbidden ∷ pos 0 ∷ []) ∷ (forbidden ∷ [])
    -- u = 0
    ∷ (forbidden ∷ pos 0 ∷ pos 0 ∷ []) ∷ (forbidden ∷ pos 0 ∷ []) ∷ (pos 5 ∷ pos 0 ∷ pos 0 ∷ []) ∷ (pos 5 ∷ pos 0 ∷ [])
    ∷ [])

-- a vertex of label 0 each, which weigh 5, with serials a and b
abbrev single : ℕ → ℕ → ℕ → Expected → Row
single k a b e = plant k table_p (path_with (0 ∷ []) (a ∷ [])) (path_with (0 ∷ []) (b ∷ [])) e

-- small plant 3 with serials: recorded labels 0, 1 and found labels 1, 0, so that table P gives 5 for (0, 1), 3 for (1, 0) and -2 for the other pairs
abbrev third : List ℕ → List ℕ → Expected → Row
third a b e = plant 3 table_p (path_with (0 ∷ 1 ∷ []) a) (path_with (1 ∷ 0 ∷ []) b) e

-- a tree as the recorded one, and as the found one, with one vertex on the other side
abbrev as_recorded : List ℕ → ℕ → Row
as_recorded s item = plant 0 table_p s (path (0 ∷ [])) (refused item)

abbrev as_found : List ℕ → ℕ → Row
as_found s item = plant 0 table_p (path (0 ∷ [])) s (refused item)

abbrev pub serial_plants : List Row
serial_plants =
    -- the small plants with serials that are all unknown
    plant 1 table_p (path_with (0 ∷ []) (0 ∷ [])) (path_with (0 ∷ []) (0 ∷ [])) (weighs (pos 5) (0 ∷ []))
    ∷ plant 2 table_p (path_with (0 ∷ []) (0 ∷ [])) (path_with (1 ∷ []) (0 ∷ [])) (weighs (pos 0) (255 ∷ []))
    ∷ third (0 ∷ 0 ∷ []) (0 ∷ 0 ∷ []) (weighs (pos 9) (1 ∷ 0 ∷ []))
    ∷ plant 4 table_p (path_with (0 ∷ 1 ∷ 0 ∷ []) (0 ∷ 0 ∷ 0 ∷ [])) (path_with (0 ∷ 0 ∷ 0 ∷ []) (0 ∷ 0 ∷ 0 ∷ [])) (weighs (pos 10) (0 ∷ 1 ∷ 2 ∷ []))
    ∷ plant 5 table_p (star_with (0 ∷ 0 ∷ 0 ∷ 0 ∷ []) (unknown (0 ∷ 0 ∷ 0 ∷ 0 ∷ []))) (path_with (0 ∷ 0 ∷ 0 ∷ 0 ∷ []) (unknown (0 ∷ 0 ∷ 0 ∷ 0 ∷ []))) (weighs (pos 17) (1 ∷ 0 ∷ 2 ∷ 255 ∷ []))
    ∷ plant 6 table_p (path_with (1 ∷ 0 ∷ 0 ∷ []) (0 ∷ 0 ∷ 0 ∷ [])) (path_with (0 ∷ 0 ∷ []) (0 ∷ 0 ∷ [])) (weighs (pos 11) (255 ∷ 0 ∷ 1 ∷ []))
    ∷ plant 7 table7 (path_with (0 ∷ 0 ∷ []) (0 ∷ 0 ∷ [])) (path_with (0 ∷ 0 ∷ []) (0 ∷ 0 ∷ [])) (weighs (pos 5) (0 ∷ 255 ∷ []))
    ∷ plant 8 table8 (star_with (0 ∷ 1 ∷ 2 ∷ []) (0 ∷ 0 ∷ 0 ∷ [])) (star_with (0 ∷ 1 ∷ 2 ∷ []) (0 ∷ 0 ∷ 0 ∷ [])) (weighs (pos 13) (0 ∷ 2 ∷ 1 ∷ []))
    ∷ single 9 0 0 (checked (certificate1 5 0 5) 0)
    ∷ single 9 0 0 (checked (certificate1 6 0 5) 22)
    ∷ single 9 0 0 (checked (certificate1 5 0 6) 23)
    ∷ single 9 0 0 (checked (certificate1 0 255 5) 24)
    ∷ plant 10 table_p (head_with (0 ∷ 0 ∷ 0 ∷ []) (0 ∷ 0 ∷ 0 ∷ []) ++ edge 0 1 ++ edge 1 0) (path (0 ∷ [])) (refused 6)
    ∷ plant 10 table_p (head_with (0 ∷ 0 ∷ 0 ∷ []) (0 ∷ 0 ∷ 0 ∷ []) ++ edge 0 1 ++ edge 0 3) (path (0 ∷ [])) (refused 5)
    -- the serials go with the heaviest mapping
    ∷ third (7 ∷ 8 ∷ []) (8 ∷ 7 ∷ []) (weighs (pos 9) (1 ∷ 0 ∷ []))
    -- recorded 1 has 8, found 0 has 9: a forbidden pair, and so are 7 with 9 and 8 with 7. Recorded 0 with found 1 is left: 5
    ∷ third (7 ∷ 8 ∷ []) (9 ∷ 7 ∷ []) (weighs (pos 5) (1 ∷ 255 ∷ []))
    -- recorded 1 is unknown, and what is left weighs 9 again
    ∷ third (7 ∷ 0 ∷ []) (9 ∷ 7 ∷ []) (weighs (pos 9) (1 ∷ 0 ∷ []))
    -- the serials go with the pairs of -2 alone: none is worth it
    ∷ third (7 ∷ 8 ∷ []) (7 ∷ 8 ∷ []) (weighs (pos 0) (255 ∷ 255 ∷ []))
    -- serials in one tree only
    ∷ plant 3 table_p (path_with (0 ∷ 1 ∷ []) (7 ∷ 8 ∷ [])) (path (1 ∷ 0 ∷ [])) (weighs (pos 9) (1 ∷ 0 ∷ []))
    ∷ plant 3 table_p (path (0 ∷ 1 ∷ [])) (path_with (1 ∷ 0 ∷ []) (7 ∷ 8 ∷ [])) (weighs (pos 9) (1 ∷ 0 ∷ []))
    -- the same serial does not allow what the table forbids
    ∷ plant 0 table8 (path_with (0 ∷ []) (7 ∷ [])) (path_with (1 ∷ []) (7 ∷ [])) (weighs (pos 0) (255 ∷ []))
    -- all 32 bits count: the greatest, each byte that differs alone, and the two ends of a signed number
    ∷ single 0 4294967295 4294967295 (weighs (pos 5) (0 ∷ []))
    ∷ single 0 4294967295 4294967294 (weighs (pos 0) (255 ∷ []))
    ∷ single 0 257 1 (weighs (pos 0) (255 ∷ []))
    ∷ single 0 65537 1 (weighs (pos 0) (255 ∷ []))
    ∷ single 0 16777217 1 (weighs (pos 0) (255 ∷ []))
    ∷ single 0 2147483647 2147483648 (weighs (pos 0) (255 ∷ []))
    ∷ single 0 0 2147483648 (weighs (pos 5) (0 ∷ []))
    -- a certificate of a pair that serials forbid: the forbidden value; a value; the pair mapped
    ∷ single 9 7 8 (checked certificate_none 0)
    ∷ single 9 7 8 (checked (certificate1 0 255 5) 23)
    ∷ single 9 7 8 (checked (certificate1 5 0 5) 21)
    -- with duals: right, and a dual of 1 where serials forbid the pair
    ∷ third (7 ∷ 8 ∷ []) (9 ∷ 7 ∷ []) (checked (certificate_third (pos 0)) 0)
    ∷ third (7 ∷ 8 ∷ []) (9 ∷ 7 ∷ []) (checked (certificate_third (pos 1)) 23)
    -- the check and how much to lend test 25 and 26 too; serials change no length
    ∷ plant 0 table_p (path_with (0 ∷ 0 ∷ []) (7 ∷ 7 ∷ [])) (path (0 ∷ [])) (checked [] 25)
    ∷ plant 0 table_p (path (0 ∷ [])) (path_with (0 ∷ 0 ∷ []) (7 ∷ 7 ∷ [])) (checked [] 26)
    ∷ plant 0 table_p (path_with (0 ∷ 0 ∷ []) (7 ∷ 7 ∷ [])) (path (0 ∷ [])) (told (refused_by 25))
    ∷ plant 0 table_p (path (0 ∷ [])) (path_with (0 ∷ 0 ∷ []) (7 ∷ 7 ∷ [])) (told (refused_by 26))
    ∷ third (7 ∷ 8 ∷ []) (9 ∷ 7 ∷ []) (told (lend 8 8 94))
    -- item 25: behind 7, before 8, with 26; of serials that are no neighbours; of the greatest; and item 26, behind 12
    ∷ as_recorded (star_with (replicate 10 0) (replicate 10 7)) 7
    ∷ plant 0 table_p (path_with (0 ∷ 0 ∷ []) (7 ∷ 7 ∷ [])) [] (refused 25)
    ∷ plant 0 table_p (path_with (0 ∷ 0 ∷ []) (7 ∷ 7 ∷ [])) (path_with (0 ∷ 0 ∷ []) (8 ∷ 8 ∷ [])) (refused 25)
    ∷ as_recorded (path_with (0 ∷ 0 ∷ 0 ∷ []) (7 ∷ 0 ∷ 7 ∷ [])) 25
    ∷ as_recorded (path_with (0 ∷ 0 ∷ []) (4294967295 ∷ 4294967295 ∷ [])) 25
    ∷ as_found (star_with (replicate 10 0) (replicate 10 7)) 12
    ∷ as_found (path_with (0 ∷ 0 ∷ []) (4294967295 ∷ 4294967295 ∷ [])) 26
    -- items 3 and 8: in either length two marks that differ, the marks of the other length, and two that are of neither kind
    ∷ as_recorded (two_long 7 2) 3
    ∷ as_recorded (two_long 2 7) 3
    ∷ as_recorded (two_long 2 2) 3
    ∷ as_recorded (two_short 7 2) 3
    ∷ as_recorded (two_short 2 7) 3
    ∷ as_recorded (two_short 7 7) 3
    ∷ as_found (two_long 7 2) 8
    ∷ as_found (two_short 2 7) 8
    ∷ as_found (two_long 8 8) 8
    ∷ as_found (two_short 3 3) 8
    ∷ []

pub serial_plants_lem : All serial_plants
unfolding word_bytes weights rows table_of vertex_bytes edge_by edge edges_of tree_of path serial_records head_with path_with star_with unknown two_long two_short certificate_none certificate_third records_of certificate_of sizes_of table_p table7 table8 input_item first_of table_sized table_marked weights_ok row_ok weight_ok is_forbidden in_range vertex_weight edge_weight weighed sized marked labels_known ends_low closes acyclic degree few_edges with_serials vertex_mark_of vertex_size serial serial_new serials_differ component joins joined_by neighbours edge_before edge_label parent parent_in children vertex_pair apart directed upstream same_direction directions_agree edge_pair mapped num vertex_pairs edge_pairs weight allowed parent_mapped vertex_ok edge_ok is_top mapping_ok greatest best value_from value_to value largest answer signed32 bits32 every below mem del sumℤ cnt cat certificate1 check_of shape_ok squares certificate_length record_length record_at mapping_in value_in child_dual other_dual value_of eq_z at_most forbidden_ok cover_ok duals_ok pair_ok subproblem_ok postorder_from postorder position width subproblems offset slot index vertex_at u_at v_at s_at tab place
serial_plants_lem =
    by_test refl refl refl refl
    then by_test refl refl refl refl
    then by_test refl refl refl refl
    then by_test refl refl refl refl
    then by_test refl refl refl refl
    then by_test refl refl refl refl
    then by_test refl refl refl refl
    then by_test refl refl refl refl
    then refl
    then refl
    then refl
    then refl
    then refl
    then refl
    then by_test refl refl refl refl
    then by_test refl refl refl refl
    then by_test refl refl refl refl
    then by_test refl refl refl refl
    then by_test refl refl refl refl
    then by_test refl refl refl refl
    then by_test refl refl refl refl
    then by_test refl refl refl refl
    then by_test refl refl refl refl
    then by_test refl refl refl refl
    then by_test refl refl refl refl
    then by_test refl refl refl refl
    then by_test refl refl refl refl
    then by_test refl refl refl refl
    then refl
    then refl
    then refl
    then refl
    then refl
    then refl
    then refl
    then refl
    then refl
    then refl
    then refl
    then refl
    then refl
    then refl
    then refl
    then refl
    then refl
    then refl
    then refl
    then refl
    then refl
    then refl
    then refl
    then refl
    then refl
    then refl
    then refl
    then end
