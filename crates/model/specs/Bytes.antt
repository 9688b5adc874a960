-- Bytes, marks, and 32-bit numbers in them, unsigned for serials and signed for weights. Paper 01, "Bytes of a table and a layout"; paper 02, [3].
-- A list of bytes is total: past its end stand zeros, and no mark has a zero.
use Rattle.std.specs.Prelude.{ℕ, ◌+◌, ◌*◌, ◌-◌, ◌/◌, ◌%◌, Bool, cond, ◌&&◌, List, [], ◌∷◌, get_or, set, ltb, eqb, ℤ, pos, negsuc}

abbrev pub byte_at : List ℕ → ℕ → ℕ
byte_at s i = get_or s i 0

-- ---- marks: two bytes before each record

-- the two bytes at place i are those of the mark m
abbrev pub is_mark : List ℕ → ℕ → List ℕ → Bool
is_mark s i m = eqb (byte_at s i) (byte_at m 0) && eqb (byte_at s (i + 1)) (byte_at m 1)

-- layout head, device, device with a serial number (paper 02, [3]), line
abbrev pub tree_mark : List ℕ
tree_mark = 0xB1 ∷ 0x01 ∷ []

abbrev pub vertex_mark : List ℕ
vertex_mark = 0xB1 ∷ 0x02 ∷ []

abbrev pub serial_mark : List ℕ
serial_mark = 0xB1 ∷ 0x07 ∷ []

abbrev pub edge_mark : List ℕ
edge_mark = 0xB1 ∷ 0x03 ∷ []

-- table head, device row, line row
abbrev pub table_mark : List ℕ
table_mark = 0xB1 ∷ 0x04 ∷ []

abbrev pub vertex_row_mark : List ℕ
vertex_row_mark = 0xB1 ∷ 0x05 ∷ []

abbrev pub edge_row_mark : List ℕ
edge_row_mark = 0xB1 ∷ 0x06 ∷ []

-- ---- serials and weights are 4 bytes, low byte first, a weight in two's complement

-- the number of four bytes, low byte first
abbrev pub word : ℕ → ℕ → ℕ → ℕ → ℕ
word b0 b1 b2 b3 = b0 + 256 * b1 + 65536 * b2 + 16777216 * b3

-- the unsigned number at place i
abbrev pub word_at : List ℕ → ℕ → ℕ
word_at s i = word (byte_at s i) (byte_at s (i + 1)) (byte_at s (i + 2)) (byte_at s (i + 3))

-- the integer that 32 bits stand for, and the bits of a 32-bit integer
unfoldable pub signed32 : ℕ → ℤ
signed32 n = cond (ltb n 2147483648) (pos n) (negsuc (4294967295 - n))

unfoldable pub bits32 : ℤ → ℕ
bits32 (pos n) = n
bits32 (negsuc n) = 4294967295 - n

abbrev pub int32 : ℕ → ℕ → ℕ → ℕ → ℤ
int32 b0 b1 b2 b3 = signed32 (word b0 b1 b2 b3)

-- the integer at place i
abbrev pub int32_at : List ℕ → ℕ → ℤ
int32_at s i = signed32 (word_at s i)

-- the bytes with the number n, below 2^32, or the integer z, at place i
unfoldable pub put_word : List ℕ → ℕ → ℕ → List ℕ
put_word s i n = set (set (set (set s i (n % 256)) (i + 1) ((n / 256) % 256)) (i + 2) ((n / 65536) % 256)) (i + 3) (n / 16777216)

abbrev pub put_int32 : List ℕ → ℕ → ℤ → List ℕ
put_int32 s i z = put_word s i (bits32 z)
