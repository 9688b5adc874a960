-- The lengths computed, held against the papers: K = 2, L = 3, a subproblem with one child and two others. Assumes nothing.
use Rattle.std.specs.Prelude.{◌≡◌, refl, [], ◌∷◌, ℕ, Option, Some, None}
use Rattle.model.specs.Lengths.{length_by_mark}

abbrev of : ℕ → ℕ → Option ℕ
of a b = length_by_mark a b 2 3 1 2

-- head, vertex and edge of a tree; head, vertex row and edge row of a table; a vertex with a serial
inputs : of 0xB1 0x01 ∷ of 0xB1 0x02 ∷ of 0xB1 0x03 ∷ of 0xB1 0x04 ∷ of 0xB1 0x05 ∷ of 0xB1 0x06 ∷ of 0xB1 0x07 ∷ [] ≡ Some 3 ∷ Some 3 ∷ Some 5 ∷ Some 4 ∷ Some 10 ∷ Some 14 ∷ Some 7 ∷ []
inputs = refl

-- head, partner and subproblem of a certificate
certificates : of 0xC1 0x01 ∷ of 0xC1 0x02 ∷ of 0xC1 0x03 ∷ [] ≡ Some 8 ∷ Some 3 ∷ Some 18 ∷ []
certificates = refl

-- the first byte of a mark with another second one, another first byte, no bytes at all
others : of 0xB1 0x00 ∷ of 0xB1 0x08 ∷ of 0xC1 0x00 ∷ of 0xC1 0x04 ∷ of 0xC1 0x07 ∷ of 0xB0 0x01 ∷ of 0xC2 0x01 ∷ of 0x01 0xB1 ∷ of 0xFF 0xFF ∷ of 0x00 0x00 ∷ []
    ≡ None ∷ None ∷ None ∷ None ∷ None ∷ None ∷ None ∷ None ∷ None ∷ None ∷ []
others = refl
