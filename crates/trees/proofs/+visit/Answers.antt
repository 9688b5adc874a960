-- `visit` meets its contract. Assumes nothing.
use Rattle.std.proofs.Common.{◌-◌, ◌≡◌, arith}
use Rattle.trees.specs.Visits.{visits_none, visits_go, visits_skip, visits_all, post_none}
use Rattle.trees.proofs.+visit.Goals as goal
use Rattle.trees.proofs.+visit.Goals.{then-w-from, else-w-from}

pub returns-then-k-eq0 : goal.returns-then-k-eq0
returns-then-k-eq0 t c p h = let a = c.args in rw (post_none a.t.now a.k a.v a.from p c.if-k-eq0.true) h

pub loop-w-init : goal.loop-w-init
loop-w-init t c p h = let a = c.args in rw (visits_none a.t.now (a.k - 1) a.v a.from p) h

pub loop-w-preserved : goal.loop-w-preserved
loop-w-preserved t c p h =
    let a = c.args in
    let b = c.loop-w in
    elim c.if-w-from.branch [
      | then-w-from w ↦ rw (visits_go a.t.now (a.k - 1) a.v a.from b.w-index p w.if-w-from.true, w.order-is) (w.visit.ensures _ (b.invariant p h))
      | else-w-from w ↦ rw (visits_skip a.t.now (a.k - 1) a.v a.from b.w-index p w.if-w-from.false, w.order-is) (b.invariant p h)
    ]

pub returns : goal.returns
returns t c p h =
    let b = c.loop-w in
    let a = c.args in
    let z : a.k ≡ 0 → ⊥ = c.if-k-eq0.false in
    rw (← visits_all a.t.now a.k (a.k - 1) a.v a.from b.w-index p (omega arith) (omega arith)) (c.push.ensures _ (b.invariant p h))
