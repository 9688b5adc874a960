-- Items 1 and 2 of tables with one vertex label and one edge label, by computation. Assumes nothing.
use Rattle.std.specs.Prelude.{◌≡◌, refl, List, [], ◌∷◌, ◌++◌, ℕ}
use Rattle.foundations.specs.Lists.{every}
use Rattle.model.specs.Bytes.{signed32}
use Rattle.model.specs.Weights.{is_forbidden, in_range, weight_ok}
use Rattle.model.specs.Refusals.{first_of}
use Rattle.model.specs.Table.{table_sized, table_marked, row_ok, weights_ok, table_item}

-- the second bytes of the marks of head and vertex row, K, L and the bytes of the vertex weight; the edge weight is 0
abbrev small : (head k l row : ℕ) → List ℕ → List ℕ
small head k l row weight = 0xB1 ∷ head ∷ k ∷ l ∷ 0xB1 ∷ row ∷ (weight ++ (0xB1 ∷ 6 ∷ 0 ∷ 0 ∷ 0 ∷ 0 ∷ []))

-- 16,000,000; 16,000,001; their opposites; the forbidden number; 12,345,678, which is out of range if its high byte comes first
abbrev most : List ℕ
most = 0x00 ∷ 0x24 ∷ 0xF4 ∷ 0x00 ∷ []

abbrev more : List ℕ
more = 0x01 ∷ 0x24 ∷ 0xF4 ∷ 0x00 ∷ []

abbrev least : List ℕ
least = 0x00 ∷ 0xDC ∷ 0x0B ∷ 0xFF ∷ []

abbrev less : List ℕ
less = 0xFF ∷ 0xDB ∷ 0x0B ∷ 0xFF ∷ []

abbrev never : List ℕ
never = 0x00 ∷ 0x00 ∷ 0x00 ∷ 0x80 ∷ []

abbrev ordered : List ℕ
ordered = 0x4E ∷ 0x61 ∷ 0xBC ∷ 0x00 ∷ []

-- a table, its item
abbrev Gets : List ℕ → ℕ → Type 0
Gets table k = table_item table ≡ k

accepted : Gets (small 4 1 1 5 most) 0 × (Gets (small 4 1 1 5 least) 0 × (Gets (small 4 1 1 5 never) 0 × Gets (small 4 1 1 5 ordered) 0))
unfolding table_item first_of table_sized table_marked weights_ok row_ok every weight_ok is_forbidden in_range signed32
accepted = (refl, (refl, (refl, refl)))

out_of_range_lem : Gets (small 4 1 1 5 more) 2 × Gets (small 4 1 1 5 less) 2
unfolding table_item first_of table_sized table_marked weights_ok row_ok every weight_ok is_forbidden in_range signed32
out_of_range_lem = (refl, refl)

-- K and L at 0 and above their limits
labels : Gets (small 4 0 1 5 most) 1 × (Gets (small 4 33 1 5 most) 1 × (Gets (small 4 1 0 5 most) 1 × Gets (small 4 1 9 5 most) 1))
unfolding table_item first_of table_sized
labels = (refl, (refl, (refl, refl)))

-- no bytes, one byte, one byte short, one too many
lengths : Gets [] 1 × (Gets (0xB1 ∷ []) 1 × (Gets (small 4 1 1 5 (0x00 ∷ 0x24 ∷ 0xF4 ∷ [])) 1 × Gets (small 4 1 1 5 (0x00 ∷ most)) 1))
unfolding table_item first_of table_sized
lengths = (refl, (refl, (refl, refl)))

-- a wrong mark of head or row; with a weight out of range too, the earlier item
marks : Gets (small 5 1 1 5 most) 1 × (Gets (small 4 1 1 6 most) 1 × Gets (small 4 1 1 6 more) 1)
unfolding table_item first_of table_sized table_marked every
marks = (refl, (refl, refl))
