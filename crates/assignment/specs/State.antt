-- The state between searches, for any set of finished rows, and the solution, in which every row is finished. Assumes nothing.
use Rattle.std.specs.Prelude.{◌≡◌, ◌⊎◌, Bool, true, false, cond, not, ◌||◌, List, ℕ, ◌+◌, ◌≤◌, ◌<◌, eqb, length, replicate, Option, Some, None}
use Rattle.foundations.specs.Sums.{sum}
use Rattle.model.specs.Limits.{degree_limit}
use Rattle.assignment.specs.Matching.{at, out_of, gain_limit, weight, Injective, Has, best, all, gained}

-- the sizes, and the gains' limit
pub record Sized (k l : ℕ) (g : ℕ → ℕ → ℕ) : Type 0 where
  pub rows : k ≤ degree_limit
  pub columns : l ≤ degree_limit
  pub gains : (i j : ℕ) → i < k → j < l → g i j ≤ gain_limit

-- the arrays that a caller lends
pub record Lengths (y z m : List ℕ) : Type 0 where
  pub rows : length y ≡ degree_limit
  pub columns : length z ≡ degree_limit
  pub matching : length m ≡ degree_limit

-- no row has a column, and no column a dual
pub record Blank (z m : List ℕ) : Type 0 where
  pub columns : z ≡ replicate degree_limit 0
  pub matching : m ≡ replicate degree_limit degree_limit

-- each row has a column, or `degree_limit`
pub record Bytes (l : ℕ) (m : List ℕ) : Type 0 where
  pub range : (x : ℕ) → x < degree_limit → (at m x < l) ⊎ (at m x ≡ degree_limit)

-- Row duals y, column duals z and the column m of each row, where `finished` says which rows are finished. Other rows are pending: they have no column,
-- and their duals mean nothing.
pub record State (k l : ℕ) (g : ℕ → ℕ → ℕ) (finished : ℕ → Bool) (y z m : ℕ → ℕ) : Type 0 where
  pub feasible : (i j : ℕ) → i < k → finished i ≡ true → j < l → g i j ≤ y i + z j
  pub tight : (i : ℕ) → i < k → m i < l → g i (m i) ≡ y i + z (m i)
  pub injective : Injective k l m
  pub columns : (j : ℕ) → j < l → (z j ≡ 0) ⊎ Has k m j
  pub rows : (i : ℕ) → i < k → finished i ≡ true → (y i ≡ 0) ⊎ (m i < l)
  pub pending : (i : ℕ) → i < k → finished i ≡ false → l ≤ m i
  pub limit : (i : ℕ) → i < k → finished i ≡ true → y i ≤ gain_limit

-- the finished rows, and r
unfoldable pub also : ℕ → (ℕ → Bool) → ℕ → Bool
also r finished i = finished i || eqb i r

-- all rows but r
abbrev pub but : ℕ → ℕ → Bool
but r i = not (eqb i r)

-- row r is pending; which rows are finished is free
pub record Pending (k l r : ℕ) (g : ℕ → ℕ → ℕ) (y z m : ℕ → ℕ) : Type 0 where
  pub finished : ℕ → Bool
  pub state : State k l g finished y z m
  pub pending : finished r ≡ false

-- whichever rows were finished, they and row r are finished
pub record Joined (k l r : ℕ) (g : ℕ → ℕ → ℕ) (y z m y' z' m' : ℕ → ℕ) : Type 0 where
  pub state : (p : Pending k l r g y z m) → State k l g (also r p.finished) y' z' m'

-- The answer: duals that cover every gain, tight at the matched pairs and 0 at rows and columns that are not matched, so that their sum is the
-- matching's weight, and no matching weighs more.
pub record Solved (k l : ℕ) (g : ℕ → ℕ → ℕ) (y z m : ℕ → ℕ) : Type 0 where
  pub feasible : (i j : ℕ) → i < k → j < l → g i j ≤ y i + z j
  pub tight : (i : ℕ) → i < k → m i < l → g i (m i) ≡ y i + z (m i)
  pub injective : Injective k l m
  pub columns : (j : ℕ) → j < l → (z j ≡ 0) ⊎ Has k m j
  pub rows : (i : ℕ) → i < k → (y i ≡ 0) ⊎ (m i < l)
  pub row_limit : (i : ℕ) → i < k → y i ≤ gain_limit
  pub column_limit : (j : ℕ) → j < l → z j ≤ gain_limit
  pub equal : weight k l g m ≡ sum k y + sum l z
  pub greatest : weight k l g m ≡ best l g k all

-- the answer in the caller's arrays
pub record Answer (k l : ℕ) (g : ℕ → ℕ → ℕ) (y z m : List ℕ) : Type 0 where
  pub sizes : Lengths y z m
  pub bytes : Bytes l m
  pub solved : Solved k l g (at y) (at z) (at m)

-- y and z cover every gain, and their sum is the weight of m, so that no matching weighs more
pub record Dual (k l : ℕ) (g : ℕ → ℕ → ℕ) (y z m : ℕ → ℕ) : Type 0 where
  pub feasible : (i j : ℕ) → i < k → j < l → g i j ≤ y i + z j
  pub injective : Injective k l m
  pub equal : weight k l g m ≡ sum k y + sum l z

-- r is the weight of a matching whose duals show that none is heavier
pub record Heaviest (k l : ℕ) (g : ℕ → ℕ → ℕ) (r : ℕ) : Type 0 where
  pub y : ℕ → ℕ
  pub z : ℕ → ℕ
  pub m : ℕ → ℕ
  pub dual : Dual k l g y z m
  pub total : r ≡ sum k y + sum l z

-- of one row: the greatest weight is `rest` for the choice `out`, and `whole` for every other
pub record SingleOf (l : ℕ) (g : ℕ → ℕ → ℕ) (out whole rest : ℕ) : Type 0 where
  pub each : (c : ℕ) → c ≤ l → Heaviest 1 l (out_of c g) (cond (eqb c out) rest whole)
  pub less : rest ≤ whole
  pub some : 1 ≤ out

-- t has the greatest weight for each choice: at 0 that of all columns, at c that without column c - 1
pub record WeightsOf (k l : ℕ) (g : ℕ → ℕ → ℕ) (t : List ℕ) : Type 0 where
  pub size : length t ≡ degree_limit + 1
  pub each : (c : ℕ) → c ≤ l → Heaviest k l (out_of c g) (at t c)

-- r is the sum of all duals, and so the greatest weight of whatever they are the answer of
pub record Total (k l : ℕ) (y z : ℕ → ℕ) (r : ℕ) : Type 0 where
  pub equal : r ≡ sum k y + sum l z
  pub greatest : (g : ℕ → ℕ → ℕ) (m : ℕ → ℕ) → Solved k l g y z m → r ≡ best l g k all

-- a place, or `degree_limit` for none
abbrev pub place_or : Option ℕ → ℕ
place_or (Some j) = j
place_or None = degree_limit

-- r is what row i has in the answer: its column if the gain is not 0, else none, which is `degree_limit`
pub record Partner (l : ℕ) (g : ℕ → ℕ → ℕ) (m : ℕ → ℕ) (i r : ℕ) : Type 0 where
  pub range : r ≤ degree_limit
  pub pair : r < degree_limit → (r ≡ m i) × (r < l) × (0 < g i r)
  pub none : degree_limit ≤ r → gained l g m i ≡ 0
