-- Values in order, and a number of the order, computed of two plants. Assumes nothing.
use Rattle.std.specs.Prelude.{◌≡◌, refl, [], ◌∷◌, pos}
use Rattle.foundations.specs.Lists.{tab, below, cat}
use Rattle.foundations.specs.Members.{mem, del, place}
use Rattle.model.specs.Tree.{with_serials, vertex_size, serial}
use Rattle.model.specs.Bytes.{signed32, bits32}
use Rattle.model.specs.Edges.{component, parent_in}
use Rattle.model.specs.Graph.{joins, joined_by, neighbours, edge_before, edge_label, directed, upstream}
use Rattle.model.specs.Limits.{forbidden}
use Rattle.model.specs.Mapping.{num}
use Rattle.model.specs.Order.{parent, children, postorder_from, postorder, position, width, subproblems, offset, slot, index, vertex_at, u_at, v_at, s_at}
use Rattle.model.specs.Pairs.{apart, same_direction, directions_agree, vertex_pair, edge_pair}
use Rattle.model.specs.Table.{vertex_weight, edge_weight}
use Rattle.model.specs.Values.{greatest, best, value_from, value_to, value, number, value_at, values}
use Rattle.model.specs.Weights.{is_forbidden, weighed}
use Rattle.cases.specs.Plants.{word_bytes, weights, rows, table_of, vertex_bytes, edge_by, edge, edges_of, tree_of, path, star, table8}

-- case 8: u by postorder 1, 2, 0; then v ascending; then s, first v itself
pub values8 : values table8 (star (0 ∷ 1 ∷ 2 ∷ [])) (star (0 ∷ 1 ∷ 2 ∷ []))
    ≡ forbidden ∷ forbidden ∷ forbidden ∷ pos 5 ∷ pos 5 ∷ pos 4 ∷ pos 4
    ∷ forbidden ∷ forbidden ∷ forbidden ∷ pos 4 ∷ pos 4 ∷ pos 0 ∷ pos 0
    ∷ pos 13 ∷ pos 9 ∷ pos 10 ∷ forbidden ∷ forbidden ∷ forbidden ∷ forbidden ∷ []
unfolding values value_at number subproblems tab u_at v_at s_at vertex_at offset postorder postorder_from width word_bytes weights rows table_of vertex_bytes edge_by edge edges_of tree_of table8 star is_forbidden vertex_weight edge_weight weighed component joins joined_by neighbours edge_before edge_label parent parent_in children vertex_pair apart directed upstream same_direction directions_agree edge_pair num greatest best value_from value_to value signed32 bits32 below mem del cat with_serials vertex_size serial
values8 = refl

pub index8 : index (star (0 ∷ 1 ∷ 2 ∷ [])) (star (0 ∷ 1 ∷ 2 ∷ [])) 0 2 0 ≡ 20
unfolding index position slot place offset postorder postorder_from width joins joined_by neighbours parent parent_in component children vertex_bytes edge_by edge edges_of tree_of star below cat with_serials vertex_size
index8 = refl

-- a forbidden pair above an allowed one: its value is the forbidden number, with nothing added
pub values_forbidden : values table8 (path (0 ∷ 1 ∷ [])) (path (1 ∷ 1 ∷ [])) ≡ pos 5 ∷ pos 5 ∷ pos 5 ∷ pos 5 ∷ forbidden ∷ forbidden ∷ forbidden ∷ forbidden ∷ []
unfolding values value_at number subproblems tab u_at v_at s_at vertex_at offset postorder postorder_from width word_bytes weights rows table_of vertex_bytes edge_by edge edges_of tree_of table8 path is_forbidden vertex_weight edge_weight weighed component joins joined_by neighbours edge_before edge_label parent parent_in children vertex_pair apart directed upstream same_direction directions_agree edge_pair num greatest best value_from value_to value signed32 bits32 below mem del cat with_serials vertex_size serial
values_forbidden = refl
