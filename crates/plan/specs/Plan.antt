-- The plan of two trees: what a call looks up in them, as rows of eight bytes: ten blocks of a row for each vertex, the first five
-- of the recorded tree and the others of the found tree. Only this file, `src/` and `planning` know where a number stands; all else goes by the laws
-- of `Planned`. Assumes nothing.
use Rattle.std.specs.Prelude.{◌≡◌, ◌≢◌, List, [], ℕ, ◌+◌, ◌*◌, ◌≤◌, ◌<◌, get_or, length, ℤ}
use Rattle.model.specs.Limits.{vertex_limit, degree_limit}
use Rattle.model.specs.Bytes.{word_at}
use Rattle.model.specs.Tree.{count, vertex_label, serial}
use Rattle.model.specs.Graph.{neighbours}
use Rattle.model.specs.Order.{children, parent, postorder, position, offset, slot, subproblems}
use Rattle.model.specs.Calls.{input_item}
use Rattle.trees.specs.Directions.{seen}

-- ---- where a number stands

-- the rows of all blocks; those of the found tree begin at the first of its five
abbrev pub plan_rows : ℕ
plan_rows = 10 * vertex_limit

abbrev pub found_row : ℕ
found_row = 5 * vertex_limit

-- where the rows begin in which the vertices' own labels and serials stand, of the recorded and of the found tree
abbrev pub recorded_vertices : ℕ
recorded_vertices = 4 * vertex_limit

abbrev pub found_vertices : ℕ
found_vertices = 9 * vertex_limit

-- of vertex x of the tree whose such rows begin at `first`: its label, and its serial in the last four of eight bytes
abbrev pub label_in : List (List ℕ) → ℕ → ℕ → ℕ
label_in plan first x = get_or (get_or plan (first + x) []) 0 0

abbrev pub serial_in : List (List ℕ) → ℕ → ℕ → ℕ
serial_in plan first x = word_at (get_or plan (first + x) []) 4

-- recorded vertex u: how many children it has, its place in the postorder, the vertex that stands u-th in the postorder, its parent, and the edge
-- to the parent as seen from it
abbrev pub child_count_in : List (List ℕ) → ℕ → ℕ
child_count_in plan u = get_or (get_or plan u []) 0 0

abbrev pub place_in : List (List ℕ) → ℕ → ℕ
place_in plan u = get_or (get_or plan u []) 1 0

abbrev pub order_in : List (List ℕ) → ℕ → ℕ
order_in plan u = get_or (get_or plan u []) 2 0

abbrev pub parent_in : List (List ℕ) → ℕ → ℕ
parent_in plan u = get_or (get_or plan u []) 3 0

abbrev pub parent_edge_in : List (List ℕ) → ℕ → ℕ
parent_edge_in plan u = get_or (get_or plan u []) 4 0

-- its i-th child: the vertex, the edge to it as seen from u, and its place in the postorder
abbrev pub child_in : List (List ℕ) → ℕ → ℕ → ℕ
child_in plan u i = get_or (get_or plan (vertex_limit + u) []) i 0

abbrev pub child_edge_in : List (List ℕ) → ℕ → ℕ → ℕ
child_edge_in plan u i = get_or (get_or plan (2 * vertex_limit + u) []) i 0

abbrev pub child_place_in : List (List ℕ) → ℕ → ℕ → ℕ
child_place_in plan u i = get_or (get_or plan (3 * vertex_limit + u) []) i 0

-- found vertex v: how many neighbours it has, and where its subproblems begin among those of one recorded vertex
abbrev pub degree_in : List (List ℕ) → ℕ → ℕ
degree_in plan v = get_or (get_or plan (found_row + v) []) 0 0

abbrev pub offset_in : List (List ℕ) → ℕ → ℕ
offset_in plan v = get_or (get_or plan (found_row + v) []) 1 0

-- its j-th neighbour: the vertex, the edge to it as seen from v, and where the subproblem behind it stands
abbrev pub neighbour_in : List (List ℕ) → ℕ → ℕ → ℕ
neighbour_in plan v j = get_or (get_or plan (6 * vertex_limit + v) []) j 0

abbrev pub neighbour_edge_in : List (List ℕ) → ℕ → ℕ → ℕ
neighbour_edge_in plan v j = get_or (get_or plan (7 * vertex_limit + v) []) j 0

abbrev pub behind_in : List (List ℕ) → ℕ → ℕ → ℕ
behind_in plan v j = get_or (get_or plan (8 * vertex_limit + v) []) j 0

-- ---- what it says of the trees

pub record RecordedIn (r : List ℕ) (plan : List (List ℕ)) (u : ℕ) : Type 0 where
  pub child_count : child_count_in plan u ≡ length (children r u)
  pub few : length (children r u) ≤ degree_limit
  pub place : place_in plan u ≡ position r u
  pub order : order_in plan u ≡ get_or (postorder r) u 0
  pub above : parent_in plan u ≡ parent r u
  pub above_edge : u ≢ 0 → parent_edge_in plan u ≡ seen r u (parent r u)
  pub child : (i : ℕ) → i < length (children r u) → child_in plan u i ≡ get_or (children r u) i 0
  pub child_edge : (i : ℕ) → i < length (children r u) → child_edge_in plan u i ≡ seen r u (get_or (children r u) i 0)
  pub child_place : (i : ℕ) → i < length (children r u) → child_place_in plan u i ≡ position r (get_or (children r u) i 0)

pub record FoundIn (f : List ℕ) (plan : List (List ℕ)) (v : ℕ) : Type 0 where
  pub degree : degree_in plan v ≡ length (neighbours f v)
  pub begins : offset_in plan v ≡ offset f v
  pub neighbour : (j : ℕ) → j < length (neighbours f v) → neighbour_in plan v j ≡ get_or (neighbours f v) j 0
  pub edge : (j : ℕ) → j < length (neighbours f v) → neighbour_edge_in plan v j ≡ seen f v (get_or (neighbours f v) j 0)
  pub behind : (j : ℕ) → j < length (neighbours f v) → behind_in plan v j ≡ offset f (get_or (neighbours f v) j 0) + slot f (get_or (neighbours f v) j 0) v

-- the label and the serial of vertex x of the tree s, whose such rows begin at `first`
pub record VertexIn (s : List ℕ) (plan : List (List ℕ)) (first x : ℕ) : Type 0 where
  pub label : label_in plan first x ≡ vertex_label s x
  pub own : serial_in plan first x ≡ serial s x

pub record Planned (r f : List ℕ) (plan : List (List ℕ)) : Type 0 where
  pub recorded : (u : ℕ) → u < count r → RecordedIn r plan u
  pub recorded_vertex : (u : ℕ) → u < count r → VertexIn r plan recorded_vertices u
  pub found : (v : ℕ) → v < count f → FoundIn f plan v
  pub found_vertex : (v : ℕ) → v < count f → VertexIn f plan found_vertices v

-- ---- what functions over a plan ask

-- inputs that items 1 to 12, 25 and 26 let pass, and their plan
pub record Ready (table r f : List ℕ) (plan : List (List ℕ)) : Type 0 where
  pub passes : input_item table r f ≡ 0
  pub planned : Planned r f plan

-- work numbers enough
pub record Lent (r f : List ℕ) (work : List ℤ) : Type 0 where
  pub enough : subproblems r f ≤ length work

-- a pair of vertices
pub record Pair (r f : List ℕ) (u v : ℕ) : Type 0 where
  pub u_low : u < count r
  pub v_low : v < count f
