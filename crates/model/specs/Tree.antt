-- A tree's bytes: head, labels, serials, edges, and the items 3 to 7 and 25 (8 to 12 and 26 for the found tree). The paper's layout; its devices are
-- vertices, lines edges, kinds labels. Vertex records with a serial are those of paper 02, [3]; by [6] the order of an edge's ends may mean something.
use Rattle.std.specs.Prelude.{List, [], ◌∷◌, ℕ, zero, suc, ◌+◌, ◌*◌, ◌-◌, Bool, ◌&&◌, ◌||◌, cond, not, length, eqb, ltb, leb}
use Rattle.foundations.specs.Lists.{every}
use Rattle.model.specs.Limits.{vertex_limit, degree_limit}
use Rattle.model.specs.Bytes.{byte_at, is_mark, word_at, tree_mark, vertex_mark, serial_mark, edge_mark}
use Rattle.model.specs.Lengths.{tree_head_length, vertex_length, edge_length, serial_vertex_length}
use Rattle.model.specs.Edges.{component}
use Rattle.model.specs.Refusals.{Item, item, first_of}

-- n, the number of vertices; it is 0, which is wrong, where the bytes are too few to have one
abbrev pub count : List ℕ → ℕ
count s = byte_at s 2

-- "A layout uses one kind of device record throughout": the mark of the first says which, and item 3 asks it of all. A first mark that is neither of the
-- two counts as the shorter kind here, and item 3 refuses it.
unfoldable pub with_serials : List ℕ → Bool
with_serials s = is_mark s tree_head_length serial_mark

-- the mark of a vertex record, and its length
unfoldable pub vertex_mark_of : List ℕ → List ℕ
vertex_mark_of s = cond (with_serials s) serial_mark vertex_mark

unfoldable pub vertex_size : List ℕ → ℕ
vertex_size s = cond (with_serials s) serial_vertex_length vertex_length

-- Of a tree of n vertices: where the record of vertex v and of edge j start. The vertices follow the head, then the edges.
abbrev pub vertex_start : List ℕ → ℕ → ℕ
vertex_start s v = tree_head_length + vertex_size s * v

abbrev pub edge_start : List ℕ → ℕ → ℕ → ℕ
edge_start s n j = vertex_start s n + edge_length * j

-- its length, with n - 1 edges: "8n - 2", and "12n - 2" with serials, for n from 1 on (of n = 0 nothing asks)
abbrev pub tree_size : List ℕ → ℕ → ℕ
tree_size s n = edge_start s n (n - 1)

-- the label of vertex v, and its serial, 0 where the records have none; the end of edge j that is written first, the other, and its label
abbrev pub vertex_label : List ℕ → ℕ → ℕ
vertex_label s v = byte_at s (vertex_start s v + 2)

unfoldable pub serial : List ℕ → ℕ → ℕ
serial s v = cond (with_serials s) (word_at s (vertex_start s v + 3)) 0

-- "0 is unknown"
abbrev pub known : ℕ → Bool
known x = not (eqb x 0)

abbrev pub end_a : List ℕ → ℕ → ℕ → ℕ
end_a s n j = byte_at s (edge_start s n j + 2)

abbrev pub end_b : List ℕ → ℕ → ℕ → ℕ
end_b s n j = byte_at s (edge_start s n j + 3)

abbrev pub edge_label_at : List ℕ → ℕ → ℕ → ℕ
edge_label_at s n j = byte_at s (edge_start s n j + 4)

-- ---- item 3: the length, a mark, or the count

unfoldable pub sized : List ℕ → Bool
sized s = (leb 1 (count s) && leb (count s) vertex_limit) && eqb (length s) (tree_size s (count s))

unfoldable pub marked : List ℕ → ℕ → Bool
marked s n = is_mark s 0 tree_mark && (every (λ v. is_mark s (vertex_start s v) (vertex_mark_of s)) n && every (λ j. is_mark s (edge_start s n j) edge_mark) (n - 1))

-- ---- item 4: a label that is not in a table of K and L labels

unfoldable pub labels_known : List ℕ → ℕ → ℕ → ℕ → Bool
labels_known s n K L = every (λ v. ltb (vertex_label s v) K) n && every (λ j. ltb (edge_label_at s n j) L) (n - 1)

-- ---- item 5: an end of n or more

unfoldable pub ends_low : List ℕ → ℕ → Bool
ends_low s n = every (λ j. ltb (end_a s n j) n && ltb (end_b s n j) n) (n - 1)

-- ---- item 6: an edge whose ends are the same or connected by earlier edges (as a statement: `Closes`)

unfoldable pub closes : List ℕ → ℕ → ℕ → Bool
closes s n j = eqb (component (end_a s n) (end_b s n) j (end_a s n j)) (component (end_a s n) (end_b s n) j (end_b s n j))

unfoldable pub acyclic : List ℕ → ℕ → Bool
acyclic s n = every (λ j. not (closes s n j)) (n - 1)

-- ---- item 7: a vertex with more than 8 edges

-- how many of the first k edges end at v
unfoldable pub degree : List ℕ → ℕ → ℕ → ℕ → ℕ
degree s n v zero = 0
degree s n v (suc k) = degree s n v k + cond (eqb (end_a s n k) v || eqb (end_b s n k) v) 1 0

unfoldable pub few_edges : List ℕ → ℕ → Bool
few_edges s n = every (λ v. leb (degree s n v (n - 1)) degree_limit) n

-- ---- item 25 (26 for the found tree): a known serial stands twice

-- that of vertex v stands at no vertex before it, or is unknown
unfoldable pub serial_new : List ℕ → ℕ → Bool
serial_new s v = not (known (serial s v)) || every (λ x. not (eqb (serial s x) (serial s v))) v

unfoldable pub serials_differ : List ℕ → ℕ → Bool
serials_differ s n = every (λ v. serial_new s v) n

-- ---- the items in the order tested; `first` is 3 for the recorded tree and 8 for the found one, `twice` 25 and 26

abbrev pub tree_items : ℕ → ℕ → List ℕ → ℕ → ℕ → List Item
tree_items first twice s K L =
    item first (not (sized s && marked s (count s)))
    ∷ item (first + 1) (not (labels_known s (count s) K L))
    ∷ item (first + 2) (not (ends_low s (count s)))
    ∷ item (first + 3) (not (acyclic s (count s)))
    ∷ item (first + 4) (not (few_edges s (count s)))
    ∷ item twice (not (serials_differ s (count s)))
    ∷ []

unfoldable pub tree_item : ℕ → ℕ → List ℕ → ℕ → ℕ → ℕ
tree_item first twice s K L = first_of (tree_items first twice s K L)
