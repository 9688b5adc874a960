-- Matchings of rows 0 .. k-1 with columns 0 .. l-1: their weight, and the greatest weight, by trying all. Assumes nothing.
use Rattle.std.specs.Prelude.{◌≡◌, refl, ◌≢◌, Bool, true, cond, not, ◌&&◌, List, [], ℕ, zero, suc, ◌+◌, ◌*◌, ◌≤◌, ◌<◌, max, ltb, eqb, get_or}
use Rattle.std.proofs.Common.{eq-eqb, ne_eqb}
use Rattle.foundations.specs.Sums.{sum}
use Rattle.model.specs.Limits.{degree_limit}

-- ---- arrays as functions

abbrev pub at : List ℕ → ℕ → ℕ
at l i = get_or l i 0

-- a table of `degree_limit` rows and columns as one array, row after row
abbrev pub cell : List ℕ → ℕ → ℕ → ℕ
cell g i j = get_or g (i * degree_limit + j) 0

-- a table as an array of rows
abbrev pub entry : List (List ℕ) → ℕ → ℕ → ℕ
entry t i j = get_or (get_or t i []) j 0

-- the gain x of a row with column j, 0 where choice c leaves the column out
abbrev pub kept_of : ℕ → ℕ → ℕ → ℕ
kept_of c j x = cond (eqb (j + 1) c) 0 x

-- the gains without the column that choice c leaves out: none for 0, else column c - 1
unfoldable pub out_of : ℕ → (ℕ → ℕ → ℕ) → ℕ → ℕ → ℕ
out_of c g i j = kept_of c j (g i j)

pub out_kept : (c : ℕ) (g : ℕ → ℕ → ℕ) (i j : ℕ) → kept_of c j (g i j) ≡ out_of c g i j
unfolding out_of
out_kept c g i j = refl

pub out_yes : (c : ℕ) (g : ℕ → ℕ → ℕ) (i j : ℕ) → j + 1 ≡ c → out_of c g i j ≡ 0
unfolding out_of
out_yes c g i j e = rw (eq-eqb (j + 1) c e)

pub out_no : (c : ℕ) (g : ℕ → ℕ → ℕ) (i j : ℕ) → j + 1 ≢ c → out_of c g i j ≡ g i j
unfolding out_of
out_no c g i j n = rw (ne_eqb (j + 1) c n)

-- ---- matchings

-- no gain and no dual is greater: 2 ^ 48
abbrev pub gain_limit : ℕ
gain_limit = 281474976710656

-- what row i gains: the gain of its column, and 0 where it has none, that is, where m i is l or more (the code writes FREE)
unfoldable pub gained : ℕ → (ℕ → ℕ → ℕ) → (ℕ → ℕ) → ℕ → ℕ
gained l g m i = cond (ltb (m i) l) (g i (m i)) 0

unfoldable pub weight : ℕ → ℕ → (ℕ → ℕ → ℕ) → (ℕ → ℕ) → ℕ
weight k l g m = sum k (gained l g m)

-- no two rows have the same column
abbrev pub Injective : ℕ → ℕ → (ℕ → ℕ) → Type 0
Injective k l m = (i j : ℕ) → i < k → j < k → m i < l → m i ≡ m j → i ≡ j

-- some row has column j
abbrev pub Has : ℕ → (ℕ → ℕ) → ℕ → Type 0
Has k m j = (i : ℕ) × (i < k) × (m i ≡ j)

-- ---- the greatest weight

-- the free columns but c
unfoldable pub minus : (ℕ → Bool) → ℕ → ℕ → Bool
minus free c j = free j && not (eqb j c)

-- the best over the free columns below n for a row with these gains, where `rest` is the best of the rows before it
unfoldable pub best_column : ℕ → (ℕ → Bool) → (ℕ → ℕ) → ((ℕ → Bool) → ℕ) → ℕ
best_column zero free gain rest = 0
best_column (suc j) free gain rest =
    let here = cond (free j) (gain j + rest (minus free j)) 0 in
    max (best_column j free gain rest) here

-- the greatest weight of rows 0 .. k-1: the last row is left out, or has a free column
unfoldable pub best : ℕ → (ℕ → ℕ → ℕ) → ℕ → (ℕ → Bool) → ℕ
best l g zero free = 0
best l g (suc k) free = max (best l g k free) (best_column l free (g k) (best l g k))

-- every column is free
abbrev pub all : ℕ → Bool
all j = true

-- duals whose sums cover every gain
pub record Feasible (k l : ℕ) (g : ℕ → ℕ → ℕ) (y z : ℕ → ℕ) : Type 0 where
  pub covers : (i j : ℕ) → i < k → j < l → g i j ≤ y i + z j
