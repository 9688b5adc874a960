-- The tree of a search. T i ≡ 1 marks its rows and C j ≡ 1 its columns. Assumes nothing.
use Rattle.std.specs.Prelude.{◌≡◌, ◌⊎◌, ◌≢◌, Bool, cond, List, [], ℕ, ◌+◌, ◌≤◌, ◌<◌, eqb, length, get_or, set}
use Rattle.foundations.specs.Sums.{sum}
use Rattle.model.specs.Limits.{degree_limit}
use Rattle.assignment.specs.Matching.{at, entry, gain_limit, Injective, Has}
use Rattle.assignment.specs.State.{State, Sized, Lengths, Bytes, Pending, Joined, Solved, Answer, but}
use Rattle.assignment.specs.Loops.{OwnersOf, Nearest}

-- a is a matching of the columns of m in which row t has none, and the root has one. Rows outside the tree have what they have in m, and rows of the
-- tree have tight columns of the tree.
pub record Alternative (k l : ℕ) (g : ℕ → ℕ → ℕ) (y z m T C : ℕ → ℕ) (t : ℕ) (a : ℕ → ℕ) : Type 0 where
  pub own : l ≤ a t
  pub same : (i : ℕ) → i < k → T i ≢ 1 → a i ≡ m i
  pub tree : (i : ℕ) → i < k → T i ≡ 1 → i ≢ t → (a i < l) × (C (a i) ≡ 1) × (g i (a i) ≡ y i + z (a i))
  pub injective : Injective k l a
  pub covers : (j : ℕ) → j < l → Has k m j → Has k a j

-- the tree of a search from row r: for each column outside the least slack S and the tree row F that has it, and an alternative A t for each tree row t
pub record Tree (k l : ℕ) (g : ℕ → ℕ → ℕ) (r : ℕ) (y z m T C S F : ℕ → ℕ) (A : ℕ → ℕ → ℕ) : Type 0 where
  pub root : T r ≡ 1
  pub cover : (j : ℕ) → j < l → g r j ≤ y r + z j
  pub limit : y r ≤ gain_limit
  pub rows : (i : ℕ) → i < k → T i ≡ 1 → i ≢ r → (m i < l) × (C (m i) ≡ 1)
  pub back : (i : ℕ) → i < k → m i < l → C (m i) ≡ 1 → T i ≡ 1
  pub columns : (j : ℕ) → j < l → C j ≡ 1 → Has k m j
  pub slack : (i j : ℕ) → i < k → j < l → T i ≡ 1 → C j ≢ 1 → S j + g i j ≤ y i + z j
  pub from : (j : ℕ) → j < l → C j ≢ 1 → (F j < k) × (T (F j) ≡ 1) × (S j + g (F j) j ≡ y (F j) + z j)
  pub alt : (t : ℕ) → t < k → T t ≡ 1 → Alternative k l g y z m T C t (A t)

-- tree rows are lowered by e, tree columns raised, and the slack of the others lowered
pub record Shifted (k l e : ℕ) (T C y z S y' z' S' : ℕ → ℕ) : Type 0 where
  pub yin : (i : ℕ) → i < k → T i ≡ 1 → y' i + e ≡ y i
  pub yout : (i : ℕ) → i < k → T i ≢ 1 → y' i ≡ y i
  pub zin : (j : ℕ) → j < l → C j ≡ 1 → z' j ≡ z j + e
  pub zout : (j : ℕ) → j < l → C j ≢ 1 → z' j ≡ z j
  pub sout : (j : ℕ) → j < l → C j ≢ 1 → S' j + e ≡ S j

-- f' is f with v at c
pub record Put (n : ℕ) (f : ℕ → ℕ) (c v : ℕ) (f' : ℕ → ℕ) : Type 0 where
  pub here : f' c ≡ v
  pub other : (j : ℕ) → j < n → j ≢ c → f' j ≡ f j

-- the slacks of the columns outside the tree after row t is looked at
pub record Seen (l : ℕ) (gt : ℕ → ℕ) (yt : ℕ) (z C : ℕ → ℕ) (t : ℕ) (S F S' F' : ℕ → ℕ) : Type 0 where
  pub old : (j : ℕ) → j < l → C j ≢ 1 → S' j ≤ S j
  pub new : (j : ℕ) → j < l → C j ≢ 1 → S' j + gt j ≤ yt + z j
  pub from : (j : ℕ) → j < l → C j ≢ 1 → ((S' j ≡ S j) × (F' j ≡ F j)) ⊎ ((S' j + gt j ≡ yt + z j) × (F' j ≡ t))

-- x where the mark is set, else 0
abbrev pub marked : (ℕ → ℕ) → ℕ → ℕ → ℕ
marked T x i = cond (eqb (T i) 1) x 0

-- the tree has one row more than columns: x for each of its rows is x more than x for each of its columns
pub record Balance (k l : ℕ) (T C : ℕ → ℕ) : Type 0 where
  pub even : (x : ℕ) → sum k (marked T x) ≡ x + sum l (marked C x)

-- A search under way. The duals y and z in the arrays are those at its start; its own Y and Z are lower on tree rows and higher on tree columns. A row
-- joined at distance J i and a column at W j, and D is the distance now, so a tree row's dual is y i + J i - D, a tree column's z j + D - W j, and the
-- slack of a column outside W j - D. The sum of all duals has fallen by D. Duals are written to the arrays once, at the end.
pub record Run (k l r : ℕ) (g : ℕ → ℕ → ℕ) (finished : ℕ → Bool) (D : ℕ) (y z m T C W F J : ℕ → ℕ) (A : ℕ → ℕ → ℕ) : Type 0 where
  pub Y : ℕ → ℕ
  pub Z : ℕ → ℕ
  pub S : ℕ → ℕ
  pub start : State k l g finished y z m
  pub state : State k l g finished Y Z m
  pub tree : Tree k l g r Y Z m T C S F A
  pub root : y r ≡ gain_limit
  pub now : D ≤ gain_limit
  pub yin : (i : ℕ) → i < k → T i ≡ 1 → Y i + D ≡ y i + J i
  pub yout : (i : ℕ) → i < k → T i ≢ 1 → Y i ≡ y i
  pub zin : (j : ℕ) → j < l → C j ≡ 1 → Z j + W j ≡ z j + D
  pub zout : (j : ℕ) → j < l → C j ≢ 1 → Z j ≡ z j
  pub sout : (j : ℕ) → j < l → C j ≢ 1 → S j + D ≡ W j
  pub balance : Balance k l T C
  pub total : sum k Y + sum l Z + D ≡ sum k y + sum l z

-- tree row a has the least y + J of the tree rows, which is `low`
pub record Lowest (k : ℕ) (y T J : ℕ → ℕ) (a low : ℕ) : Type 0 where
  pub below : a < k
  pub tree : T a ≡ 1
  pub equal : low ≡ y a + J a
  pub least : (i : ℕ) → i < k → T i ≡ 1 → low ≤ y i + J i
  pub small : low ≤ gain_limit

-- how many columns are outside the tree: what falls with each turn of a search
unfoldable pub outside : ℕ → (ℕ → ℕ) → ℕ
outside l C = sum l (λ j. cond (eqb (C j) 1) 0 1)

-- the lengths of a search's own arrays
pub record Arrays (row col dist from join : List ℕ) (alt : List (List ℕ)) : Type 0 where
  pub rows : length row ≡ degree_limit
  pub columns : length col ≡ degree_limit
  pub distances : length dist ≡ degree_limit
  pub sources : length from ≡ degree_limit
  pub joins : length join ≡ degree_limit
  pub alternatives : length alt ≡ degree_limit
  pub each : (t : ℕ) → t < degree_limit → length (get_or alt t []) ≡ degree_limit

-- row o and column b join the tree at distance d; o's alternative is p's with b for p and none for o
pub record Grown (p b o d : ℕ) (alt : List (List ℕ)) (row col join : List ℕ) (alt' : List (List ℕ)) (row' col' join' : List ℕ) : Type 0 where
  pub rows : row' ≡ set row o 1
  pub columns : col' ≡ set col b 1
  pub joins : join' ≡ set join o d
  pub alts : alt' ≡ set alt o (set (set (get_or alt p []) p b) o degree_limit)

-- a search under way, of the arrays
pub record Searching (k l r : ℕ) (g : ℕ → ℕ → ℕ) (finished : ℕ → Bool) (y z m row col dist from join : List ℕ) (alt : List (List ℕ)) : Type 0 where
  pub level : ℕ
  pub run : Run k l r g finished level (at y) (at z) (at m) (at row) (at col) (at dist) (at from) (at join) (entry alt)

-- row r is pending and was looked at: its dual is the limit, which covers every gain, and each column has its distance from r
pub record Rooted (k l r : ℕ) (g : ℕ → ℕ → ℕ) (y z m own dist : List ℕ) (b d : ℕ) : Type 0 where
  pub sized : Sized k l g
  pub below : r < k
  pub sizes : Lengths y z m
  pub bytes : Bytes l m
  pub long : length dist ≡ degree_limit
  pub root : at y r ≡ gain_limit
  pub owners : OwnersOf k m own
  pub distances : (j : ℕ) → j < l → at dist j + g r j ≡ gain_limit + at z j
  pub nearest : Nearest l (λ x. 0) (at dist) b d
  pub pending : Pending k l r g (at y) (at z) (at m)

-- between two turns of a search that began with y₀, z₀ and m₀: row a has the least dual of the tree, and b is the nearest column outside, at distance d
pub record Turn (k l r : ℕ) (g : ℕ → ℕ → ℕ) (y₀ z₀ m₀ y z m own row col dist from join : List ℕ) (alt : List (List ℕ)) (a low b d : ℕ) : Type 0 where
  pub sizes : Lengths y z m
  pub arrays : Arrays row col dist from join alt
  pub bytes : (t : ℕ) → t < degree_limit → Bytes l (get_or alt t [])
  pub owners : OwnersOf k m own
  pub lowest : Lowest k (at y) (at row) (at join) a low
  pub nearest : Nearest l (at col) (at dist) b d
  pub search : (p : Pending k l r g (at y₀) (at z₀) (at m₀)) → Searching k l r g p.finished y z m row col dist from join alt

-- a search has ended
pub record Ended (k l r : ℕ) (g : ℕ → ℕ → ℕ) (y z m y' z' m' : List ℕ) : Type 0 where
  pub sizes : Lengths y' z' m'
  pub bytes : Bytes l m'
  pub joined : Joined k l r g (at y) (at z) (at m) (at y') (at z') (at m')

-- row r is the only pending one, and some matching has no column for it; own has the row of each column
pub record Vacant (k l r : ℕ) (g : ℕ → ℕ → ℕ) (y z own : List ℕ) : Type 0 where
  pub m : List ℕ
  pub sized : Sized k l g
  pub below : r < k
  pub sizes : Lengths y z m
  pub bytes : Bytes l m
  pub state : State k l g (but r) (at y) (at z) (at m)
  pub owners : OwnersOf k m own

-- a search from r ends at distance e: some answer has duals whose sum is that of y, with the limit for row r, and z, less e
pub record Reached (k l r : ℕ) (g : ℕ → ℕ → ℕ) (y z : List ℕ) (e : ℕ) : Type 0 where
  pub y' : ℕ → ℕ
  pub z' : ℕ → ℕ
  pub m' : ℕ → ℕ
  pub solved : Solved k l g y' z' m'
  pub total : sum k y' + sum l z' + e + at y r ≡ sum k (at y) + sum l (at z) + gain_limit
  pub limit : e ≤ gain_limit

-- y and z are the duals of an answer, and own has the row of each column in its matching
pub record Solution (k l : ℕ) (g : ℕ → ℕ → ℕ) (y z own : List ℕ) : Type 0 where
  pub m : List ℕ
  pub answer : Answer k l g y z m
  pub owners : OwnersOf k m own
