-- What the small loops leave. Assumes nothing.
use Rattle.std.specs.Prelude.{◌≡◌, ◌≢◌, cond, List, ℕ, ◌+◌, ◌*◌, ◌-◌, ◌≤◌, ◌<◌, eqb, ltb, length}
use Rattle.foundations.specs.Changed.{Changed}
use Rattle.model.specs.Limits.{degree_limit}
use Rattle.assignment.specs.Matching.{at, gain_limit}

-- greater than every distance
abbrev pub far : ℕ
far = 18446744073709551615

-- the lesser of two distances, and the row or column that has it
abbrev pub less_of : ℕ → ℕ → ℕ
less_of new old = cond (ltb new old) new old

abbrev pub who_of : ℕ → ℕ → ℕ → ℕ → ℕ
who_of new old t f = cond (ltb new old) t f

-- a column of the tree is not chosen
abbrev pub open_of : ℕ → ℕ → ℕ
open_of c x = cond (eqb c 1) far x

-- the duals at the end of a search at distance e, of a row that joined at j and a column that joined at w
abbrev pub row_end : ℕ → ℕ → ℕ → ℕ → ℕ
row_end e t j x = cond (eqb t 1) (x + j - e) x

abbrev pub column_end : ℕ → ℕ → ℕ → ℕ → ℕ
column_end e c w x = cond (eqb c 1) (x + e - w) x

-- own has the row of each column, or `degree_limit`, where the first i rows are looked at
pub record OwnersOf (i : ℕ) (m own : List ℕ) : Type 0 where
  pub has : (c : ℕ) → c < degree_limit → at own c < degree_limit → (at own c < i) × (at m (at own c) ≡ c)
  pub none : (c : ℕ) → c < degree_limit → degree_limit ≤ at own c → (x : ℕ) → x < i → at m x ≢ c
  pub size : length own ≡ degree_limit

-- no f x below j is greater than d, and b has it where it is not 0
pub record Greatest (j : ℕ) (f : ℕ → ℕ) (b d : ℕ) : Type 0 where
  pub most : (x : ℕ) → x < j → f x ≤ d
  pub found : 0 < d → (b < j) × (f b ≡ d)

-- of the f x below j none is greater than d, which b has where it is not 0; and of those but b none is greater than e, which one has where it is not 0
pub record GreatestTwo (j : ℕ) (f : ℕ → ℕ) (b d e : ℕ) : Type 0 where
  pub most : (x : ℕ) → x < j → f x ≤ d
  pub found : 0 < d → (b < j) × (f b ≡ d)
  pub next : (x : ℕ) → x < j → x ≢ b → f x ≤ e
  pub other : 0 < e → (i : ℕ) × (i < j) × (i ≢ b) × (f i ≡ e)

-- b is a column below j outside C with the least f, which is d; where there is none b is `degree_limit` and d is `far`
pub record Nearest (j : ℕ) (C f : ℕ → ℕ) (b d : ℕ) : Type 0 where
  pub low : (x : ℕ) → x < j → C x ≢ 1 → d ≤ f x
  pub small : d ≤ far
  pub found : d < far → (b < j) × (C b ≢ 1) × (f b ≡ d)

-- the first j columns are looked at from row t: distances, the rows that have them, and the nearest column outside
pub record Looked (j t : ℕ) (F C : ℕ → ℕ) (dist from dist' from' : List ℕ) (b d : ℕ) : Type 0 where
  pub distances : Changed j (λ x v. less_of (F x) v) dist dist'
  pub sources : Changed j (λ x v. who_of (F x) (at dist x) t v) from from'
  pub nearest : Nearest j C (at dist') b d

-- the first j columns have their distance from the root, and the nearest
pub record First (j : ℕ) (F : ℕ → ℕ) (dist dist' : List ℕ) (b d : ℕ) : Type 0 where
  pub distances : Changed j (λ x v. F x) dist dist'
  pub nearest : Nearest j (λ x. 0) (at dist') b d

-- no dual falls below 0 or passes its range where a search ends at distance e
pub record Room (k l e : ℕ) (row col dist join y z : List ℕ) : Type 0 where
  pub few_rows : k ≤ degree_limit
  pub few_columns : l ≤ degree_limit
  pub y_long : length y ≡ degree_limit
  pub z_long : length z ≡ degree_limit
  pub rows : (x : ℕ) → x < k → at row x ≡ 1 → (e ≤ at y x + at join x) × (at y x + at join x ≤ 2 * gain_limit)
  pub columns : (x : ℕ) → x < l → at col x ≡ 1 → (at dist x ≤ at z x + e) × (at z x + e ≤ 2 * gain_limit)

-- the duals after a search that ended at distance e
pub record Settled (k l e : ℕ) (row col dist join y z y' z' : List ℕ) : Type 0 where
  pub rows : Changed k (λ x v. row_end e (at row x) (at join x) v) y y'
  pub columns : Changed l (λ x v. column_end e (at col x) (at dist x) v) z z'
