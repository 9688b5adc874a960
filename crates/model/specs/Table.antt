-- The weight table: K vertex labels, L edge labels; rows are recorded labels, columns found ones. Items 1 and 2, the range of
-- weights by paper 02, [2].
-- Paper 01: table head, device row, line row; its device kinds are vertex labels here, its line kinds edge labels.
use Rattle.std.specs.Prelude.{ℕ, ◌+◌, ◌*◌, Bool, ◌&&◌, not, List, [], ◌∷◌, length, eqb, leb}
use Rattle.foundations.specs.Lists.{every}
use Rattle.model.specs.Limits.{vertex_label_limit, edge_label_limit}
use Rattle.model.specs.Bytes.{byte_at, is_mark, table_mark, vertex_row_mark, edge_row_mark, int32_at}
use Rattle.model.specs.Lengths.{table_head_length, vertex_row_length, edge_row_length}
use Rattle.model.specs.Weights.{Weight, weighed, weight_ok}
use Rattle.model.specs.Refusals.{Item, item, first_of}

-- K and L
abbrev pub vertex_labels : List ℕ → ℕ
vertex_labels table = byte_at table 2

abbrev pub edge_labels : List ℕ → ℕ
edge_labels table = byte_at table 3

-- where row i starts: K vertex rows follow the head, then L edge rows
abbrev pub vertex_row : List ℕ → ℕ → ℕ
vertex_row table i = table_head_length + i * vertex_row_length (vertex_labels table)

abbrev pub edge_row : List ℕ → ℕ → ℕ
edge_row table i = vertex_row table (vertex_labels table) + i * edge_row_length (edge_labels table)

-- "4 + K(2 + 4K) + L(2 + 4L) bytes": where an edge row after the last would start
abbrev pub table_length : List ℕ → ℕ
table_length table = edge_row table (edge_labels table)

-- where the weight in column j of the row at place r stands
abbrev pub column : ℕ → ℕ → ℕ
column r j = r + 2 + 4 * j

-- the weight of row i and column j
unfoldable pub vertex_weight : List ℕ → ℕ → ℕ → Weight
vertex_weight table i j = weighed (int32_at table (column (vertex_row table i) j))

unfoldable pub edge_weight : List ℕ → ℕ → ℕ → Weight
edge_weight table i j = weighed (int32_at table (column (edge_row table i) j))

-- ---- item 1: the length, a mark, K or L

unfoldable pub table_sized : List ℕ → Bool
table_sized table =
    (leb 1 (vertex_labels table) && leb (vertex_labels table) vertex_label_limit)
    && ((leb 1 (edge_labels table) && leb (edge_labels table) edge_label_limit)
    && eqb (length table) (table_length table))

unfoldable pub table_marked : List ℕ → Bool
table_marked table =
    is_mark table 0 table_mark
    && (every (λ i. is_mark table (vertex_row table i) vertex_row_mark) (vertex_labels table)
    && every (λ i. is_mark table (edge_row table i) edge_row_mark) (edge_labels table))

-- ---- item 2: a weight out of range and not forbidden

unfoldable pub row_ok : List ℕ → ℕ → ℕ → Bool
row_ok table r k = every (λ j. weight_ok (int32_at table (column r j))) k

unfoldable pub weights_ok : List ℕ → Bool
weights_ok table =
    every (λ i. row_ok table (vertex_row table i) (vertex_labels table)) (vertex_labels table)
    && every (λ i. row_ok table (edge_row table i) (edge_labels table)) (edge_labels table)

-- the items in the order tested
abbrev pub table_items : List ℕ → List Item
table_items table = item 1 (not (table_sized table && table_marked table)) ∷ item 2 (not (weights_ok table)) ∷ []

unfoldable pub table_item : List ℕ → ℕ
table_item table = first_of (table_items table)
