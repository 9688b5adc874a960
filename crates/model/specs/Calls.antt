-- The items that a call tests, in its order. Paper 01, last paragraph of "Why a call is turned down", and paper 02, [3]. Every call begins with 1 to 7,
-- 25, 8 to 12 and 26; the lists of the job calls are in Jobs, of writing in Writing, of the check in Certificate. How much to lend (Sizes) tests no others.
use Rattle.std.specs.Prelude.{List, [], ◌∷◌, ◌++◌, ℕ, length, ltb, ℤ}
use Rattle.model.specs.Refusals.{Item, item, first_of}
use Rattle.model.specs.Table.{table_items, vertex_labels, edge_labels}
use Rattle.model.specs.Tree.{count, tree_items}
use Rattle.model.specs.Order.{subproblems}

-- 1 and 2: the table; 3 to 7 and 25: the recorded tree; 8 to 12 and 26: the found tree
abbrev pub input_items : List ℕ → List ℕ → List ℕ → List Item
input_items table recorded found =
    table_items table
    ++ (tree_items 3 25 recorded (vertex_labels table) (edge_labels table)
    ++ tree_items 8 26 found (vertex_labels table) (edge_labels table))

unfoldable pub input_item : List ℕ → List ℕ → List ℕ → ℕ
input_item table recorded found = first_of (input_items table recorded found)

-- 13: fewer than n(3m - 2) work numbers; 18: a mapping buffer shorter than n
abbrev pub work_item : List ℕ → List ℕ → List ℤ → Item
work_item recorded found work = item 13 (ltb (length work) (subproblems recorded found))

abbrev pub mapping_item : List ℕ → List ℕ → Item
mapping_item recorded mapping = item 18 (ltb (length mapping) (count recorded))

-- the match in one call: these, 13 and 18
abbrev pub match_items : List ℕ → List ℕ → List ℕ → List ℤ → List ℕ → List Item
match_items table recorded found work mapping = input_items table recorded found ++ (work_item recorded found work ∷ mapping_item recorded mapping ∷ [])

unfoldable pub match_item : List ℕ → List ℕ → List ℕ → List ℤ → List ℕ → ℕ
match_item table recorded found work mapping = first_of (match_items table recorded found work mapping)
