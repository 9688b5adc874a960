-- The gains of a pair of vertices by the work numbers. Assumes nothing.
use Rattle.std.specs.Prelude.{◌≡◌, List, ℕ, ◌+◌, ◌*◌, ◌≤◌, ◌<◌, length, get_or, ℤ, pos}
use Rattle.std.proofs.Math.Path.{ap}
use Rattle.std.proofs.Common.{sym, arith}
use Rattle.model.specs.Weights.{weighed}
use Rattle.model.specs.Graph.{neighbours}
use Rattle.model.specs.Order.{children, width, subproblems}
use Rattle.model.specs.Values.{recalled}
use Rattle.plan.specs.Plan.{child_edge_in, child_place_in, neighbour_edge_in, behind_in, Ready, Lent, Pair}
use Rattle.plan.specs.Pairs.{RowOf, EdgePair, GainIs, gain_at, gain_is, branch_index, branch_low}
use Rattle.solver.specs.declared.subproblem.Shared.{Shared}

-- what the pairs of a recorded vertex share: how many children it has, how many work numbers stand for each of them, and its row
pub record SharedOf (table r f : List ℕ) (plan : List (List ℕ)) (of : Shared) : Type 0 where
  pub counted : of.count ≡ length (children r of.u)
  pub wide : of.width ≡ width f
  pub row : RowOf table plan of.u of.row.start of.row.serial

module _ {table r f : List ℕ} {plan : List (List ℕ)} (N : Ready table r f plan) {u v : ℕ} (Q : Pair r f u v) (i : ℕ) (hi : i < length (children r u)) (j : ℕ) (hj : j < length (neighbours f v)) where
  pub work_low : {work : List ℤ} → Lent r f work → child_place_in plan u i * width f + behind_in plan v j < length work
  work_low {work} E = let a = branch_low N Q i hi j hj in let n : subproblems r f ≤ length work = E.enough in omega arith

  pub work_gain : (work : List ℤ) (edge : ℤ) (g : ℕ) → EdgePair table (child_edge_in plan u i) (neighbour_edge_in plan v j) edge → GainIs edge (get_or work (child_place_in plan u i * width f + behind_in plan v j) (pos 0)) g → g ≡ gain_at table r f (recalled r f work) u v i j
  work_gain work edge g e h = gain_is N Q i hi j hj (recalled r f work) edge (get_or work (child_place_in plan u i * width f + behind_in plan v j) (pos 0)) g e is h
    where
      is : recalled r f work (get_or (children r u) i 0) (get_or (neighbours f v) j 0) v ≡ weighed (get_or work (child_place_in plan u i * width f + behind_in plan v j) (pos 0))
      is = unfold recalled in ap (λ (k : ℕ). weighed (get_or work k (pos 0))) (sym (branch_index N Q i hi j hj))
