-- What a record of duals says of a subproblem's value. Paper 01, "The sheet": its bounds are duals here.
use Rattle.std.specs.Prelude.{◌≡◌, List, ℕ, T, ℤ, pos, ◌+ℤ◌, ◌≤ℤ◌}
use Rattle.foundations.specs.Members.{mem, del}
use Rattle.foundations.specs.Sums.{lsum}
use Rattle.model.specs.Weights.{Weight, some}
use Rattle.model.specs.Graph.{neighbours}
use Rattle.model.specs.Order.{children}
use Rattle.model.specs.Pairs.{vertex_pair}
use Rattle.model.specs.Values.{branch, Subproblem}

-- "has bounds of 0 or more; for each child pair not left out, its two bounds add up to at least line weight plus the child's recorded
-- value; the value is the weight of (u, v) plus all bounds": `given` gives the recorded values, w is the weight of (u, v)
pub record Covers (table recorded found : List ℕ) (given : ℕ → ℕ → ℕ → Weight) (u v s : ℕ) (w : ℤ) : Type 0 where
  pub child_dual : ℕ → ℤ
  pub neighbour_dual : ℕ → ℤ
  pub child_nonneg : (c : ℕ) → T (mem c (children recorded u)) → pos 0 ≤ℤ child_dual c
  pub neighbour_nonneg : (x : ℕ) → T (mem x (del s (neighbours found v))) → pos 0 ≤ℤ neighbour_dual x
  pub cover : (c x : ℕ) → T (mem c (children recorded u)) → T (mem x (del s (neighbours found v))) → (z : ℤ) → branch table recorded found given u v c x ≡ some z → z ≤ℤ (child_dual c +ℤ neighbour_dual x)
  pub sum : given u v s ≡ some (w +ℤ (lsum (children recorded u) child_dual +ℤ lsum (del s (neighbours found v)) neighbour_dual))

-- at every subproblem whose pair is allowed; of the record of a forbidden pair nothing is asked here
abbrev pub AllCover : List ℕ → List ℕ → List ℕ → (ℕ → ℕ → ℕ → Weight) → Type 0
AllCover table recorded found given = (u v s : ℕ) → Subproblem recorded found u v s → (w : ℤ) → vertex_pair table recorded found u v ≡ some w → Covers table recorded found given u v s w
