-- How much to lend for small plants, counted by hand: the subproblems, the work numbers wanted, a certificate's length; and four that are refused.
-- Assumes nothing.
use Rattle.std.specs.Prelude.{◌≡◌, refl, List, [], ◌∷◌, length}
use Rattle.foundations.specs.Lists.{every, below, cat}
use Rattle.model.specs.Bytes.{signed32, bits32}
use Rattle.model.specs.Calls.{input_item}
use Rattle.model.specs.Certificate.{squares, certificate_length}
use Rattle.model.specs.Edges.{component}
use Rattle.model.specs.Graph.{joins, joined_by, neighbours}
use Rattle.model.specs.Order.{width, subproblems}
use Rattle.model.specs.Refusals.{first_of}
use Rattle.model.specs.Sizes.{sizes_of}
use Rattle.model.specs.Table.{table_sized, table_marked, row_ok, weights_ok}
use Rattle.model.specs.Tree.{with_serials, vertex_mark_of, vertex_size, serial, serial_new, serials_differ, sized, marked, labels_known, ends_low, closes, acyclic, degree, few_edges}
use Rattle.model.specs.Weights.{is_forbidden, in_range, weight_ok}
use Rattle.cases.specs.Expected.{told, lend, refused_by, Row, plant, All, end, ◌then◌}
use Rattle.cases.specs.Plants.{word_bytes, weights, rows, table_of, vertex_bytes, edge_by, edge, edges_of, tree_of, path, star, three, table_p, table7, certificate1}

abbrev pub sizes_plants : List Row
sizes_plants =
    -- one vertex each: 8 + 3 bytes, and a record of 6
    plant 1 table_p (path (0 ∷ [])) (path (0 ∷ [])) (told (lend 1 1 17))
    -- one and two: records of 10, 6, 10 and 6; two and one: 8 + 6 bytes, and records of 6 and 10
    ∷ plant 2 table_p (path (0 ∷ [])) (path (0 ∷ 0 ∷ [])) (told (lend 4 4 43))
    ∷ plant 3 table_p (path (0 ∷ 0 ∷ [])) (path (0 ∷ [])) (told (lend 2 2 30))
    -- small plants 3 and 5, and 5 exchanged
    ∷ plant 4 table_p (path (0 ∷ 1 ∷ [])) (path (1 ∷ 0 ∷ [])) (told (lend 8 8 94))
    ∷ plant 5 table_p (star (0 ∷ 0 ∷ 0 ∷ 0 ∷ [])) (path (0 ∷ 0 ∷ 0 ∷ 0 ∷ [])) (told (lend 40 40 540))
    ∷ plant 6 table_p (path (0 ∷ 0 ∷ 0 ∷ 0 ∷ [])) (star (0 ∷ 0 ∷ 0 ∷ 0 ∷ [])) (told (lend 40 40 572))
    -- forbidden edge pairs take the same
    ∷ plant 7 table7 (path (0 ∷ 1 ∷ [])) (path (1 ∷ 0 ∷ [])) (told (lend 8 8 94))
    -- a loop in the recorded tree, in the found one, in both; no table at all
    ∷ plant 8 table_p (three 0 1 1 0) (path (0 ∷ [])) (told (refused_by 6))
    ∷ plant 9 table_p (path (0 ∷ [])) (three 0 1 1 0) (told (refused_by 11))
    ∷ plant 10 table_p (three 0 1 1 0) (three 0 1 1 0) (told (refused_by 6))
    ∷ plant 11 [] (three 0 1 1 0) [] (told (refused_by 1))
    ∷ []

pub sizes_cases : All sizes_plants
unfolding word_bytes weights rows table_of vertex_bytes edge_by edge edges_of tree_of path star three table_p table7 input_item first_of table_sized table_marked weights_ok row_ok weight_ok is_forbidden in_range sized marked labels_known ends_low closes acyclic degree few_edges with_serials vertex_mark_of vertex_size serial serial_new serials_differ component joins joined_by neighbours signed32 bits32 every below cat squares certificate_length width subproblems sizes_of
sizes_cases =
    refl
    then refl
    then refl
    then refl
    then refl
    then refl
    then refl
    then refl
    then refl
    then refl
    then refl
    then end

-- the paper's certificate of small plant 9 is as long as that
sheet_long : length (certificate1 5 0 5) ≡ 17
unfolding certificate1
sheet_long = refl
