-- `visit` adds what lies below v, then v. The invariant: the places of v seen so far are visited. It ends since k falls. Assumes nothing.
use Rattle.std.proofs.Common.{◌-◌, ℕ, List, ◌++◌}
use Rattle.foundations.specs.Lists.{Holds}
use Rattle.model.specs.Limits.{vertex_limit, no_vertex}
use Rattle.trees.specs.Visits.{visits}
use Rattle.trees.proofs.+visit.Given as goal

abbrev pub decreases-visit : goal.decreases-visit
decreases-visit l = l.k

abbrev pub invariant-loop-w : goal.invariant-loop-w
invariant-loop-w l = (p : List ℕ) → Holds vertex_limit no_vertex p l.fn.order.at l.fn.order.len → Holds vertex_limit no_vertex (p ++ visits l.t (l.k - 1) l.v l.from l.w-index) l.order.at l.order.len
