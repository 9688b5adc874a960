-- The length of a record from its mark, by cases: one for each of the ten marks, and unknown for any other pair of bytes. Paper 01, "Bytes of a table and a
-- layout" and "The sheet"; paper 02, [3] and [5]. The other definitions take the lengths by name from here; where something stands inside its record is a
-- number where it is read, and so are the 4 bytes of a bound in the sheet's length. Layouts are trees, devices vertices, lines edges; u, v and s are those of
-- "Subproblems and their order".
use Rattle.std.specs.Prelude.{ℕ, ◌+◌, ◌*◌, ◌&&◌, cond, List, [], ◌∷◌, eqb, Option, Some, None}

-- ---- the bytes of each record, in the order of the marks: 2 are the mark, a weight, a value, a bound and a serial have 4, all else has 1

-- B1 01, layout head: n
abbrev pub tree_head_length : ℕ
tree_head_length = 3

-- B1 02, device: its kind
abbrev pub vertex_length : ℕ
vertex_length = 3

-- B1 03, line: two device numbers, its kind
abbrev pub edge_length : ℕ
edge_length = 5

-- B1 04, table head: K, L
abbrev pub table_head_length : ℕ
table_head_length = 4

-- B1 05, device row: K weights
abbrev pub vertex_row_length : ℕ → ℕ
vertex_row_length K = 2 + 4 * K

-- B1 06, line row: L weights
abbrev pub edge_row_length : ℕ → ℕ
edge_row_length L = 2 + 4 * L

-- B1 07, device with a serial: its kind, the serial
abbrev pub serial_vertex_length : ℕ
serial_vertex_length = 7

-- C1 01, sheet head: n, m, the weight
abbrev pub certificate_head_length : ℕ
certificate_head_length = 8

-- C1 02, partner: a partner byte
abbrev pub partner_length : ℕ
partner_length = 3

-- C1 03, subproblem: the value, a bound for each child of u, one for each neighbour of v other than s
abbrev pub subproblem_length : ℕ → ℕ → ℕ
subproblem_length children others = 6 + 4 * children + 4 * others

-- ---- by the mark

-- a mark's two bytes, and the length of a record that has it
abbrev pub Case : Type 0
Case = ℕ × ℕ × ℕ

abbrev pub cases : ℕ → ℕ → ℕ → ℕ → List Case
cases K L children others =
    (0xB1, 0x01, tree_head_length)
    ∷ (0xB1, 0x02, vertex_length)
    ∷ (0xB1, 0x03, edge_length)
    ∷ (0xB1, 0x04, table_head_length)
    ∷ (0xB1, 0x05, vertex_row_length K)
    ∷ (0xB1, 0x06, edge_row_length L)
    ∷ (0xB1, 0x07, serial_vertex_length)
    ∷ (0xC1, 0x01, certificate_head_length)
    ∷ (0xC1, 0x02, partner_length)
    ∷ (0xC1, 0x03, subproblem_length children others)
    ∷ []

-- the length by the case of the mark a b, of a list of cases
abbrev pub case_of : ℕ → ℕ → List Case → Option ℕ
case_of a b [] = None
case_of a b ((x, y, bytes) ∷ rest) = cond (eqb a x && eqb b y) (Some bytes) (case_of a b rest)

-- a and b are any two bytes. K and L are the table's, for its rows alone; `children` counts the children of u and `others` the neighbours of v other than s,
-- for a subproblem's record alone
abbrev pub length_by_mark : ℕ → ℕ → ℕ → ℕ → ℕ → ℕ → Option ℕ
length_by_mark a b K L children others = case_of a b (cases K L children others)
