-- `width_of` meets its contract. Assumes nothing.
use Rattle.model.specs.Order.{width}
use native.Mathlib.Omega.{arith}
use Rattle.plan.proofs.counts.width_of.Goals as goal

pub returns : goal.returns
unfolding width
returns c =
    let e = c.vertex_count.ensures in
    let q = c.requires.passed.ends in
    let a = q.some in
    let b = q.few in
    (omega arith, omega arith, omega arith)
