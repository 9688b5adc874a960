-- Tables and trees written as the bytes of papers 01 and 02. Assumes nothing.
use Rattle.std.specs.Prelude.{List, [], ◌∷◌, ◌++◌, ℕ, suc, ◌-◌, ◌/◌, ◌%◌, ℤ, pos, negsuc, neg_ℤ, length, take, replicate}
use Rattle.foundations.specs.Lists.{cat}
use Rattle.model.specs.Bytes.{bits32}
use Rattle.model.specs.Limits.{forbidden}

-- ---- a table by its vertex rows and edge rows

unfoldable pub word_bytes : ℕ → List ℕ
word_bytes n = n % 256 ∷ n / 256 % 256 ∷ n / 65536 % 256 ∷ n / 16777216 ∷ []

unfoldable pub weights : List ℤ → List ℕ
weights [] = []
weights (z ∷ zs) = word_bytes (bits32 z) ++ weights zs

unfoldable pub rows : ℕ → List (List ℤ) → List ℕ
rows mark [] = []
rows mark (zs ∷ l) = 0xB1 ∷ mark ∷ weights zs ++ rows mark l

unfoldable pub table_of : List (List ℤ) → List (List ℤ) → List ℕ
table_of vertexRows edge_rows = 0xB1 ∷ 0x04 ∷ length vertexRows ∷ length edge_rows ∷ rows 0x05 vertexRows ++ rows 0x06 edge_rows

-- ---- a tree by its labels, and by the ends of its edges, which have label 0 where no other is given

unfoldable pub vertex_bytes : List ℕ → List ℕ
vertex_bytes labels = 0xB1 ∷ 0x01 ∷ length labels ∷ cat (λ k. 0xB1 ∷ 0x02 ∷ k ∷ []) labels

unfoldable pub edge_by : ℕ → ℕ → ℕ → List ℕ
edge_by label a b = 0xB1 ∷ 0x03 ∷ a ∷ b ∷ label ∷ []

unfoldable pub edge : ℕ → ℕ → List ℕ
edge a b = edge_by 0 a b

-- vertex v, v + 1, .. joined to an earlier vertex each
unfoldable pub edges_of : ℕ → List ℕ → List ℕ
edges_of v [] = []
edges_of v (w ∷ l) = edge w v ++ edges_of (suc v) l

unfoldable pub tree_of : List ℕ → List ℕ → List ℕ
tree_of labels ups = vertex_bytes labels ++ edges_of 1 ups

-- a path by its labels in order, up to four; a centre with leaves
unfoldable pub path : List ℕ → List ℕ
path labels = tree_of labels (take (length labels - 1) (0 ∷ 1 ∷ 2 ∷ []))

unfoldable pub star : List ℕ → List ℕ
star labels = tree_of labels (replicate (length labels - 1) 0)

-- three vertices of label 0 with edges a-b and c-d
unfoldable pub three : ℕ → ℕ → ℕ → ℕ → List ℕ
three a b c d = vertex_bytes (0 ∷ 0 ∷ 0 ∷ []) ++ edge a b ++ edge c d

-- ---- the same trees with serials, in the longer records of paper 02, [3]

unfoldable pub serial_records : List ℕ → List ℕ → List ℕ
serial_records [] serials = []
serial_records (k ∷ labels) [] = []
serial_records (k ∷ labels) (x ∷ serials) = 0xB1 ∷ 0x07 ∷ k ∷ word_bytes x ++ serial_records labels serials

unfoldable pub head_with : List ℕ → List ℕ → List ℕ
head_with labels serials = 0xB1 ∷ 0x01 ∷ length labels ∷ serial_records labels serials

unfoldable pub path_with : List ℕ → List ℕ → List ℕ
path_with labels serials = head_with labels serials ++ edges_of 1 (take (length labels - 1) (0 ∷ 1 ∷ 2 ∷ []))

unfoldable pub star_with : List ℕ → List ℕ → List ℕ
star_with labels serials = head_with labels serials ++ edges_of 1 (replicate (length labels - 1) 0)

-- all serials unknown
unfoldable pub unknown : List ℕ → List ℕ
unknown labels = replicate (length labels) 0

-- ---- the tables of the small plants

-- table P: vertex rows (5, -2) and (-2, 3), edge weight 1
unfoldable pub table_p : List ℕ
table_p = table_of ((pos 5 ∷ negsuc 1 ∷ []) ∷ (negsuc 1 ∷ pos 3 ∷ []) ∷ []) ((pos 1 ∷ []) ∷ [])

-- the same with edges forbidden
unfoldable pub table7 : List ℕ
table7 = table_of ((pos 5 ∷ negsuc 1 ∷ []) ∷ (negsuc 1 ∷ pos 3 ∷ []) ∷ []) ((forbidden ∷ []) ∷ [])

-- pairs (0,0) 5, (1,1) 5, (1,2) 4, (2,1) 4, (2,2) 0, others forbidden; edge weight 0
unfoldable pub table8 : List ℕ
table8 =
    table_of
    ((pos 5 ∷ forbidden ∷ forbidden ∷ []) ∷ (forbidden ∷ pos 5 ∷ pos 4 ∷ []) ∷ (forbidden ∷ pos 4 ∷ pos 0 ∷ []) ∷ [])
    ((pos 0 ∷ []) ∷ [])

-- ---- one label of vertices and one of edges, and what either weighs

unfoldable pub table_one : ℤ → ℤ → List ℕ
table_one v e = table_of ((v ∷ []) ∷ []) ((e ∷ []) ∷ [])

-- the greatest weight and the least, one beyond each, and one above the forbidden number
abbrev pub most : ℤ
most = pos 16000000

abbrev pub least : ℤ
least = neg_ℤ (pos 16000000)

abbrev pub too_great : ℤ
too_great = pos 16000001

abbrev pub too_low : ℤ
too_low = neg_ℤ (pos 16000001)

abbrev pub near_forbidden : ℤ
near_forbidden = neg_ℤ (pos 2147483647)

-- ---- the certificate of case 1, by the low byte of its weight, its partner byte, and the low byte of its value

unfoldable pub certificate1 : ℕ → ℕ → ℕ → List ℕ
certificate1 weight partner value =
    0xC1 ∷ 0x01 ∷ 0x01 ∷ 0x01 ∷ weight ∷ 0x00 ∷ 0x00 ∷ 0x00
    ∷ 0xC1 ∷ 0x02 ∷ partner
    ∷ 0xC1 ∷ 0x03 ∷ value ∷ 0x00 ∷ 0x00 ∷ 0x00
    ∷ []
