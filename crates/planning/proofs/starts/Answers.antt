-- `starts` meets its contract. Assumes nothing.
use Rattle.model.specs.Limits.{prefix_limit, degree_limit}
use Rattle.planning.specs.Making.{zeros, starts_none, starts_more}
use Prim.Native.Nat.{◌≤◌}
use mathlib.Core.Path.{◌≡◌, refl}
use borrow.Author.Rules.{rules}
use native.Mathlib.Omega.{arith}
use Rattle.planning.proofs.starts.Goals as goal

pub vertex_count-n-requires : goal.vertex_count-n-requires
vertex_count-n-requires c =
    let e = c.requires.sound.passed.ends in
    record { some = e.some; few = e.few; long = e.long }

pub loop-v-init : goal.loop-v-init
loop-v-init c = (search rules, starts_none _ _ refl (zeros prefix_limit))

pub overflow_add-s : goal.overflow_add-s
overflow_add-s c = omega (arith, c.loop-v.invariant.1.small c.loop-v.v)

pub overflow_add-s-in-loop-v : goal.overflow_add-s-in-loop-v
overflow_add-s-in-loop-v c =
    let k : c.taken-k.result ≤ degree_limit = c.taken-k.ensures.few in omega (arith, c.loop-v.invariant.1.small c.loop-v.v)

pub loop-v-preserved : goal.loop-v-preserved
loop-v-preserved c =
    let q = c.requires.sound in
    (c.loop-v.invariant.0, starts_more _ q.K q.L q.passed c.loop-v.v c.loop-v.s c.taken-k.result _ (omega arith) c.loop-v.invariant.1 (rw c.requires.neighbours_value at c.taken-k.ensures) refl)

pub returns : goal.returns
returns c =
    let e : c.loop-v.v ≡ c.vertex_count-n.result = omega arith in
    rw (e, c.loop-v.invariant.0) at c.loop-v.invariant.1
