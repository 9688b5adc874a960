-- The match program's input: table, recorded tree and found tree, one after the other. Paper 01, "Small plants", last paragraph; paper 02, [3].
use Rattle.std.specs.Prelude.{Bool, ◌&&◌, not, cond, List, ℕ, length, take, drop, eqb}
use Rattle.model.specs.Bytes.{is_mark}
use Rattle.model.specs.Lengths.{tree_head_length}
use Rattle.model.specs.Table.{table_length}
use Rattle.model.specs.Tree.{count, vertex_mark_of, tree_size}

-- "each takes the length its head names, or the rest if none can be known; the found layout takes all that remains"

-- the table takes what its head names, or all there is if that is less; of a head that is cut off the missing bytes are read as zeros, and the
-- length is at least 4, so it takes all there is
unfoldable pub table_part : List ℕ → List ℕ
table_part input = take (table_length input) input

unfoldable pub after_table : List ℕ → List ℕ
after_table input = drop (table_length input) input

-- "The match program finds a layout's length from its head and its first device mark": it is known where the count is not 0 and the mark is of either
-- kind. Bytes that are cut off are read as zeros, so that it is not known where the count or the mark is.
unfoldable pub length_known : List ℕ → Bool
length_known s = not (eqb (count s) 0) && is_mark s tree_head_length (vertex_mark_of s)

unfoldable pub tree_length : List ℕ → ℕ
tree_length s = cond (length_known s) (tree_size s (count s)) (length s)

unfoldable pub recorded_part : List ℕ → List ℕ
recorded_part input = take (tree_length (after_table input)) (after_table input)

unfoldable pub found_part : List ℕ → List ℕ
found_part input = drop (tree_length (after_table input)) (after_table input)
