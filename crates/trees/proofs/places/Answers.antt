-- `places` stores where each vertex stands. The invariant: the first i are stored. Assumes nothing.
use Rattle.model.specs.Limits.{vertex_limit}
use Rattle.trees.specs.Visits.{Placed, placed_more}
use native.Mathlib.Omega.{arith}
use mathlib.Core.Path.{◌≡◌, refl, subst}
use Prim.Native.Nat.{◌<◌}
use lib.ListN.{get_or}
use Rattle.trees.proofs.places.Goals as goal

pub loop-i-init : goal.loop-i-init
loop-i-init c = record { long = refl; back = λ k l. absurd (omega arith) }

pub overflow_cast-p-in-loop-i : goal.overflow_cast-p-in-loop-i
overflow_cast-p-in-loop-i c =
    let low : get_or c.args.o.at c.loop-i.i 0 < vertex_limit = c.requires.low c.loop-i.i (omega arith) in
    omega (arith, low)

pub bounds-p-x : goal.bounds-p-x
bounds-p-x c =
    let low : get_or c.args.o.at c.loop-i.i 0 < vertex_limit = c.requires.low c.loop-i.i (omega arith) in
    low

pub bounds-o-i : goal.bounds-o-i
bounds-o-i c = omega (arith, c.requires.few)

pub loop-i-preserved : goal.loop-i-preserved
loop-i-preserved c = placed_more _ _ c.loop-i.i _ c.requires (omega arith) c.loop-i.invariant

pub returns : goal.returns
returns c =
    let l = c.loop-i in
    let e : l.i ≡ c.args.o.len = omega arith in
    subst (λ k. Placed c.args.o.at k l.p) e l.invariant
