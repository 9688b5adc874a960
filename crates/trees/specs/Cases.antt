-- Orders of small trees that the definitions compute. Assumes nothing.
use Rattle.std.specs.Prelude.{◌≡◌, refl, List, [], ◌∷◌, ℕ}
use Rattle.foundations.specs.Lists.{below, cat, tab}
use Rattle.foundations.specs.Members.{place}
use Rattle.model.specs.Tree.{with_serials, vertex_size}
use Rattle.model.specs.Edges.{component, parent_in, depth_in}
use Rattle.model.specs.Graph.{joins, joined_by, neighbours}
use Rattle.model.specs.Order.{parent, depth, children, postorder_from, postorder, position, width, subproblems, offset, slot, index, vertex_at, u_at, v_at, s_at}

-- two vertices
two : List ℕ
two = 0xB1 ∷ 1 ∷ 2 ∷ 0xB1 ∷ 2 ∷ 0 ∷ 0xB1 ∷ 2 ∷ 0 ∷ 0xB1 ∷ 3 ∷ 1 ∷ 0 ∷ 0 ∷ []

-- five vertices: 0 has the children 2 and 3; 3 has 1 and 4. The edges are written in another order
five : List ℕ
five = 0xB1 ∷ 1 ∷ 5 ∷ 0xB1 ∷ 2 ∷ 0 ∷ 0xB1 ∷ 2 ∷ 0 ∷ 0xB1 ∷ 2 ∷ 0 ∷ 0xB1 ∷ 2 ∷ 0 ∷ 0xB1 ∷ 2 ∷ 0 ∷ 0xB1 ∷ 3 ∷ 4 ∷ 3 ∷ 0 ∷ 0xB1 ∷ 3 ∷ 3 ∷ 0 ∷ 0 ∷ 0xB1 ∷ 3 ∷ 0 ∷ 2 ∷ 0 ∷ 0xB1 ∷ 3 ∷ 1 ∷ 3 ∷ 0 ∷ []

five_parents : tab (parent five) 5 ≡ 0 ∷ 3 ∷ 0 ∷ 0 ∷ 3 ∷ []
unfolding tab parent parent_in component five with_serials vertex_size
five_parents = refl

five_depths : tab (depth five) 5 ≡ 0 ∷ 2 ∷ 1 ∷ 1 ∷ 2 ∷ []
unfolding tab depth depth_in component five with_serials vertex_size
five_depths = refl

five_postorder : postorder five ≡ 2 ∷ 1 ∷ 4 ∷ 3 ∷ 0 ∷ []
unfolding postorder postorder_from children cat below joined_by joins parent parent_in component five with_serials vertex_size
five_postorder = refl

-- v's subproblems begin after those of the vertices before it
five_offsets : tab (offset five) 6 ≡ 0 ∷ 3 ∷ 5 ∷ 7 ∷ 11 ∷ 13 ∷ []
unfolding tab offset neighbours below joined_by joins five with_serials vertex_size
five_offsets = refl

-- n(3m - 2) subproblems: u by postorder, then v, then s, first v itself
two_subproblems : subproblems two two ≡ 8
unfolding subproblems width two
two_subproblems = refl

two_u : tab (u_at two two) 8 ≡ 1 ∷ 1 ∷ 1 ∷ 1 ∷ 0 ∷ 0 ∷ 0 ∷ 0 ∷ []
unfolding tab u_at width postorder postorder_from children cat below joined_by joins parent parent_in component two with_serials vertex_size
two_u = refl

two_v : tab (v_at two) 8 ≡ 0 ∷ 0 ∷ 1 ∷ 1 ∷ 0 ∷ 0 ∷ 1 ∷ 1 ∷ []
unfolding tab v_at vertex_at offset width neighbours below joined_by joins two with_serials vertex_size
two_v = refl

two_s : tab (s_at two) 8 ≡ 0 ∷ 1 ∷ 1 ∷ 0 ∷ 0 ∷ 1 ∷ 1 ∷ 0 ∷ []
unfolding tab s_at v_at vertex_at offset width neighbours below joined_by joins two with_serials vertex_size
two_s = refl

five_index : index five two 3 1 0 ≡ 15
unfolding index position postorder postorder_from children cat place width offset slot neighbours below joined_by joins parent parent_in component five two with_serials vertex_size
five_index = refl
