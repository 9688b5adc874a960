-- `subproblem_count` meets its contract. Assumes nothing.
use Rattle.model.specs.Order.{width, subproblems}
use Rattle.plan.proofs.counts.subproblem_count.Goals as goal

pub returns : goal.returns
unfolding subproblems width
returns c =
    let e = c.product.ensures in
    rw (← c.vertex_count.ensures, ← c.vertex_count-2.ensures) e
