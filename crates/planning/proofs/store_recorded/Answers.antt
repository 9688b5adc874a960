-- `store_recorded` meets its contract. Assumes nothing.
use Rattle.planning.specs.Rows.{recorded_none, recorded_more}
use mathlib.Core.Path.{◌≡◌}
use borrow.Author.Rules.{rules}
use native.Mathlib.Omega.{arith}
use Rattle.planning.proofs.store_recorded.Goals as goal

pub vertex_count-n-requires : goal.vertex_count-n-requires
vertex_count-n-requires c =
    let e = c.requires.recorded_read.sound.passed.ends in
    record { some = e.some; few = e.few; long = e.long }

pub loop-u-init : goal.loop-u-init
loop-u-init c =
    let few = c.requires.recorded_read.sound.passed.ends.few in
    (search rules, omega (arith, few, c.vertex_count-n.ensures), recorded_none _ _ c.requires.plan_len)

pub loop-u-preserved : goal.loop-u-preserved
loop-u-preserved c =
    let low = c.loop-u-test.true in
    let n = c.loop-u.invariant.0 in (
      c.loop-u.invariant.0,
      c.loop-u.invariant.1,
      recorded_more c.requires.recorded_read _ c.loop-u.plan c.loop-u.u (omega (arith, low, n)) c.loop-u.invariant.2 _ _ _ _ _ c.later_at-k.result c.children-row.ensures c.later_at-k.ensures
          (rw (c.at_or-above.ensures, c.at_or-above_edge.ensures) at c.head_of-head.ensures),
    )

pub returns : goal.returns
returns c =
    let e : c.loop-u.u ≡ c.vertex_count-n.result = omega arith in
    rw (e, c.loop-u.invariant.0) at c.loop-u.invariant.2
