-- The values of the subproblems, filling the work numbers, and the answer. Paper 01, "Subproblems and their order" and "Jobs".
use Rattle.std.specs.Prelude.{◌≡◌, true, cond, List, [], ◌∷◌, ℕ, zero, suc, ◌+◌, ◌<◌, get_or, set, T, ℤ, pos}
use Rattle.std.specs.Int.Signed.{lt_z}
use Rattle.foundations.specs.Lists.{tab, below}
use Rattle.foundations.specs.Members.{mem, del}
use Rattle.model.specs.Limits.{forbidden, ceiling, vertex_limit}
use Rattle.model.specs.Weights.{Weight, none, some, weighed, plus_w, max_w}
use Rattle.model.specs.Tree.{count}
use Rattle.model.specs.Graph.{neighbours}
use Rattle.model.specs.Order.{children, choices, subproblems, index, u_at, v_at, s_at}
use Rattle.model.specs.Pairs.{vertex_pair, edge_pair}
use Rattle.model.specs.Mapping.{num}

-- ---- the heaviest matching

-- the greatest of f x for the x of a list, and d
unfoldable pub greatest : List ℕ → (ℕ → Weight) → Weight → Weight
greatest [] f d = d
greatest (x ∷ l) f d = max_w (f x) (greatest l f d)

-- The heaviest matching, not necessarily full, of a list of children with a list of neighbours, where pair (c, x) weighs w c x and is
-- left out if that is forbidden: c is skipped, or takes an x that no later child takes.
unfoldable pub best : (ℕ → ℕ → Weight) → List ℕ → List ℕ → Weight
best w [] available = some (pos 0)
best w (c ∷ cs) available = greatest available (λ x. plus_w (w c x) (best w cs (del x available))) (best w cs available)

-- ---- the value of a subproblem (u, v, s), from given values of its children's

-- child pair (c, x) weighs its edge pair plus the value of (c, x) with v as its s
abbrev pub branch : List ℕ → List ℕ → List ℕ → (ℕ → ℕ → ℕ → Weight) → ℕ → ℕ → ℕ → ℕ → Weight
branch table recorded found given u v c x = plus_w (edge_pair table recorded found u c v x) (given c x v)

-- forbidden if the pair (u, v) is; else its weight plus the heaviest matching of u's children with v's neighbours other than s
unfoldable pub value_from : List ℕ → List ℕ → List ℕ → (ℕ → ℕ → ℕ → Weight) → ℕ → ℕ → ℕ → Weight
value_from table recorded found given u v s =
    plus_w (vertex_pair table recorded found u v) (best (branch table recorded found given u v) (children recorded u) (del s (neighbours found v)))

-- "for each recorded u, found v, and s that is v or a neighbour of v"
pub record Subproblem (recorded found : List ℕ) (u v s : ℕ) : Type 0 where
  pub u_low : u < count recorded
  pub v_low : v < count found
  pub s_in : T (mem s (choices found v))

-- the given values solve the subproblems: each is what it is from the others
abbrev pub Solves : List ℕ → List ℕ → List ℕ → (ℕ → ℕ → ℕ → Weight) → Type 0
Solves table recorded found given = (u v s : ℕ) → Subproblem recorded found u v s → given u v s ≡ value_from table recorded found given u v s

-- by recursion down the recorded tree, to a depth of k
unfoldable pub value_to : List ℕ → List ℕ → List ℕ → ℕ → ℕ → ℕ → ℕ → Weight
value_to table recorded found zero u v s = none
value_to table recorded found (suc k) u v s = value_from table recorded found (value_to table recorded found k) u v s

-- no tree is deeper than it has vertices
unfoldable pub value : List ℕ → List ℕ → List ℕ → ℕ → ℕ → ℕ → Weight
value table recorded found u v s = value_to table recorded found vertex_limit u v s

-- ---- the answer's weight: the greater of 0 and the largest value with s = v

abbrev pub vertices : List ℕ → List ℕ
vertices s = below (λ v. true) (count s)

unfoldable pub largest : List ℕ → List ℕ → (ℕ → ℕ → ℕ → Weight) → ℤ
largest recorded found given = num (greatest (vertices recorded) (λ u. greatest (vertices found) (λ v. given u v v) none) (some (pos 0)))

unfoldable pub answer : List ℕ → List ℕ → List ℕ → ℤ
answer table recorded found = largest recorded found (value table recorded found)

-- ---- all values as numbers, in order

unfoldable pub number : Weight → ℤ
number none = forbidden
number (some z) = z

unfoldable pub value_at : List ℕ → List ℕ → List ℕ → ℕ → ℤ
value_at table recorded found k = number (value table recorded found (u_at recorded found k) (v_at found k) (s_at found k))

unfoldable pub values : List ℕ → List ℕ → List ℕ → List ℤ
values table recorded found = tab (value_at table recorded found) (subproblems recorded found)

-- ---- work numbers: any memory, from which one subproblem is solved

-- the work number of (u, v, s)
unfoldable pub recalled : List ℕ → List ℕ → List ℤ → ℕ → ℕ → ℕ → Weight
recalled recorded found work u v s = weighed (get_or work (index recorded found u v s) (pos 0))

-- as stored: the forbidden number for none, and the ceiling, which is that of paper 02, [2], for a number above it
unfoldable pub clipped : Weight → ℤ
clipped none = forbidden
clipped (some z) = cond (lt_z (pos ceiling) z) (pos ceiling) z

unfoldable pub solve_at : List ℕ → List ℕ → List ℕ → List ℤ → ℕ → ℕ → ℕ → ℤ
solve_at table recorded found work u v s = clipped (value_from table recorded found (recalled recorded found work) u v s)

unfoldable pub solve : List ℕ → List ℕ → List ℕ → List ℤ → ℕ → ℤ
solve table recorded found work k = solve_at table recorded found work (u_at recorded found k) (v_at found k) (s_at found k)

-- the work after c subproblems from number k on
unfoldable pub fill : List ℕ → List ℕ → List ℕ → List ℤ → ℕ → ℕ → List ℤ
fill table recorded found work k zero = work
fill table recorded found work k (suc c) = set (fill table recorded found work k c) (k + c) (solve table recorded found (fill table recorded found work k c) (k + c))
