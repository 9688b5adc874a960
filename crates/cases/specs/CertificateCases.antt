-- A certificate of case 8 with all its duals, and spoiled for each of items 20 to 24: duals are what case 9 lacks. Certificates with weights, values and
-- duals at their ends: weights up to the limits of paper 02, [2], the others up to what 4 signed bytes hold. Assumes nothing.
use Rattle.std.specs.Prelude.{refl, List, [], ◌∷◌, ◌++◌, ℕ, ℤ, pos, negsuc, neg_ℤ}
use Rattle.foundations.specs.Counting.{cnt}
use Rattle.foundations.specs.Lists.{every, tab, below, cat}
use Rattle.foundations.specs.Members.{mem, del, place}
use Rattle.foundations.specs.Sums.{sumℤ}
use Rattle.model.specs.Bytes.{signed32, bits32}
use Rattle.model.specs.Calls.{input_item}
use Rattle.model.specs.Certificate.{squares, certificate_length, record_length, record_at, mapping_in, value_in, child_dual, other_dual, value_of, eq_z, at_most, shape_ok, forbidden_ok, cover_ok, duals_ok, pair_ok, subproblem_ok, check_of}
use Rattle.model.specs.Edges.{component, parent_in}
use Rattle.model.specs.Graph.{joins, joined_by, neighbours, edge_before, edge_label, directed, upstream}
use Rattle.model.specs.Limits.{forbidden}
use Rattle.model.specs.Mapping.{mapped, num, vertex_pairs, edge_pairs, weight, allowed, parent_mapped, vertex_ok, edge_ok, is_top, mapping_ok}
use Rattle.model.specs.Order.{parent, children, postorder_from, postorder, position, width, subproblems, offset, slot, index, vertex_at, u_at, v_at, s_at}
use Rattle.model.specs.Pairs.{apart, same_direction, directions_agree, vertex_pair, edge_pair}
use Rattle.model.specs.Refusals.{first_of}
use Rattle.model.specs.Table.{vertex_weight, edge_weight, table_sized, table_marked, row_ok, weights_ok}
use Rattle.model.specs.Tree.{with_serials, vertex_mark_of, vertex_size, serial, serial_new, serials_differ, sized, marked, labels_known, ends_low, closes, acyclic, degree, few_edges}
use Rattle.model.specs.Values.{greatest, largest}
use Rattle.model.specs.Weights.{is_forbidden, in_range, weight_ok, weighed}
use Rattle.cases.specs.Expected.{checked, Row, plant, All, end, ◌then◌}
use Rattle.cases.specs.Plants.{word_bytes, weights, table_of, rows, vertex_bytes, edge_by, edge, edges_of, tree_of, path, star, table8, table_one, most, least, too_great, too_low}

-- each record by its value and its duals
unfoldable pub records_of : List (List ℤ) → List ℕ
records_of [] = []
records_of (zs ∷ l) = 0xC1 ∷ 0x03 ∷ weights zs ++ records_of l

unfoldable pub certificate_of : ℕ → ℕ → ℤ → List ℕ → List (List ℤ) → List ℕ
certificate_of n m w partners records = 0xC1 ∷ 0x01 ∷ n ∷ m ∷ weights (w ∷ []) ++ cat (λ p. 0xC1 ∷ 0x02 ∷ p ∷ []) partners ++ records_of records

-- of case 8, with its weight, the partners of vertices 1 and 2, and the duals of children 1 and 2 in the record of (0, 0, 0)
unfoldable pub certificate8 : ℤ → ℕ → ℕ → ℤ → ℤ → List ℕ
certificate8 w p q a b = certificate_of 3 3 w (0 ∷ p ∷ q ∷ []) (
    -- u = 1: v = 0 with s = 0, 1, 2; v = 1 with s = 1, 0; v = 2 with s = 2, 0
    (forbidden ∷ pos 0 ∷ pos 0 ∷ []) ∷ (forbidden ∷ pos 0 ∷ []) ∷ (forbidden ∷ pos 0 ∷ [])
    ∷ (pos 5 ∷ pos 0 ∷ []) ∷ (pos 5 ∷ [])
    ∷ (pos 4 ∷ pos 0 ∷ []) ∷ (pos 4 ∷ [])
    -- u = 2
    ∷ (forbidden ∷ pos 0 ∷ pos 0 ∷ []) ∷ (forbidden ∷ pos 0 ∷ []) ∷ (forbidden ∷ pos 0 ∷ [])
    ∷ (pos 4 ∷ pos 0 ∷ []) ∷ (pos 4 ∷ [])
    ∷ (pos 0 ∷ pos 0 ∷ []) ∷ (pos 0 ∷ [])
    -- u = 0
    ∷ (pos 13 ∷ a ∷ b ∷ pos 1 ∷ pos 0 ∷ []) ∷ (pos 9 ∷ pos 4 ∷ pos 0 ∷ pos 0 ∷ []) ∷ (pos 10 ∷ pos 1 ∷ pos 0 ∷ pos 4 ∷ [])
    ∷ (forbidden ∷ pos 0 ∷ pos 0 ∷ pos 0 ∷ []) ∷ (forbidden ∷ pos 0 ∷ pos 0 ∷ [])
    ∷ (forbidden ∷ pos 0 ∷ pos 0 ∷ pos 0 ∷ []) ∷ (forbidden ∷ pos 0 ∷ pos 0 ∷ [])
    ∷ [])

-- of one recorded vertex and a found path of three: its weight, the partner, the value of every record but two, and those two, of v = 1 with s = 1 and with
-- s = 0. The first is one of those that item 24 looks at, the second is not
unfoldable pub certificate_ends : ℤ → ℕ → ℤ → List ℤ → List ℤ → List ℕ
certificate_ends w p x own other = certificate_of 1 3 w (p ∷ []) (
    (x ∷ pos 0 ∷ []) ∷ (x ∷ [])
    ∷ own ∷ other ∷ (x ∷ pos 0 ∷ [])
    ∷ (x ∷ pos 0 ∷ []) ∷ (x ∷ [])
    ∷ [])

-- its row, where every pair weighs w
abbrev at_ends : ℕ → ℤ → List ℕ → ℕ → Row
at_ends k w certificate item = plant k (table_one w w) (path (0 ∷ [])) (path (0 ∷ 0 ∷ 0 ∷ [])) (checked certificate item)

abbrev pub certificates : List Row
certificates =
    plant 1 table8 (star (0 ∷ 1 ∷ 2 ∷ [])) (star (0 ∷ 1 ∷ 2 ∷ [])) (checked (certificate8 (pos 13) 2 1 (pos 4) (pos 3)) 0)
    -- one byte more; two vertices with one partner; another weight than the mapping's; the duals of the two children changed over
    ∷ plant 2 table8 (star (0 ∷ 1 ∷ 2 ∷ [])) (star (0 ∷ 1 ∷ 2 ∷ [])) (checked (certificate8 (pos 13) 2 1 (pos 4) (pos 3) ++ (0 ∷ [])) 20)
    ∷ plant 3 table8 (star (0 ∷ 1 ∷ 2 ∷ [])) (star (0 ∷ 1 ∷ 2 ∷ [])) (checked (certificate8 (pos 13) 2 2 (pos 4) (pos 3)) 21)
    ∷ plant 4 table8 (star (0 ∷ 1 ∷ 2 ∷ [])) (star (0 ∷ 1 ∷ 2 ∷ [])) (checked (certificate8 (pos 13) 1 2 (pos 4) (pos 3)) 22)
    ∷ plant 5 table8 (star (0 ∷ 1 ∷ 2 ∷ [])) (star (0 ∷ 1 ∷ 2 ∷ [])) (checked (certificate8 (pos 13) 2 1 (pos 3) (pos 4)) 23)
    -- a lighter mapping with its own weight
    ∷ plant 6 table8 (star (0 ∷ 1 ∷ 2 ∷ [])) (star (0 ∷ 1 ∷ 2 ∷ [])) (checked (certificate8 (pos 10) 1 2 (pos 4) (pos 3)) 24)
    -- the greatest weight: right; one more in the head, in a value
    ∷ at_ends 7 most (certificate_ends most 2 most (most ∷ pos 0 ∷ pos 0 ∷ []) (most ∷ pos 0 ∷ [])) 0
    ∷ at_ends 8 most (certificate_ends too_great 2 most (most ∷ pos 0 ∷ pos 0 ∷ []) (most ∷ pos 0 ∷ [])) 22
    ∷ at_ends 9 most (certificate_ends most 2 most (most ∷ pos 0 ∷ pos 0 ∷ []) (too_great ∷ pos 0 ∷ [])) 23
    -- the least: the empty mapping; the greatest dual that 4 bytes hold, with the sum as value; the same where item 24 looks; one below 0
    ∷ at_ends 10 least (certificate_ends (pos 0) 255 least (least ∷ pos 0 ∷ pos 0 ∷ []) (pos 2131483647 ∷ pos 2147483647 ∷ [])) 0
    ∷ at_ends 11 least (certificate_ends (pos 0) 255 least (pos 2131483647 ∷ pos 2147483647 ∷ pos 0 ∷ []) (least ∷ pos 0 ∷ [])) 24
    ∷ at_ends 12 least (certificate_ends (pos 0) 255 least (least ∷ pos 0 ∷ pos 0 ∷ []) (too_low ∷ negsuc 0 ∷ [])) 23
    -- a sum of 2 duals and a weight that is right but for 2 ^ 32
    ∷ at_ends 13 least (certificate_ends (pos 0) 255 least (neg_ℤ (pos 16000002) ∷ pos 2147483647 ∷ pos 2147483647 ∷ []) (least ∷ pos 0 ∷ [])) 23
    ∷ []

pub certificate_cases : All certificates
unfolding records_of certificate_of certificate8 certificate_ends word_bytes weights rows table_of vertex_bytes edge_by edge edges_of tree_of path star table8 table_one input_item first_of table_sized table_marked weights_ok row_ok weight_ok is_forbidden in_range vertex_weight edge_weight weighed sized marked labels_known ends_low closes acyclic degree few_edges with_serials vertex_mark_of vertex_size serial serial_new serials_differ component joins joined_by neighbours edge_before edge_label parent parent_in children vertex_pair apart directed upstream same_direction directions_agree edge_pair mapped num vertex_pairs edge_pairs weight allowed parent_mapped vertex_ok edge_ok is_top mapping_ok greatest largest signed32 bits32 every below mem del sumℤ cnt cat check_of shape_ok squares certificate_length record_length record_at mapping_in value_in child_dual other_dual value_of eq_z at_most forbidden_ok cover_ok duals_ok pair_ok subproblem_ok postorder_from postorder position width subproblems offset slot index vertex_at u_at v_at s_at tab place
certificate_cases = refl then refl then refl then refl then refl then refl then refl then refl then refl then refl then refl then refl then refl then end
