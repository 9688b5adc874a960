-- `vertex_ok` meets its contract. Assumes nothing.
use Rattle.std.proofs.Common.{refl, get_or}
use Prim.Native.Nat.{◌<◌}
use native.Mathlib.Omega.{arith}
use Rattle.foundations.specs.Machine.{back}
use Rattle.model.specs.Tree.{count}
use Rattle.plan.specs.Numbers.{ready_accepted}
use Rattle.plan.specs.Pairs.{pair_weighs}
use Rattle.mappings.specs.Tested.{pair_allowed, vertex_free, vertex_out, vertex_in}
use Rattle.mappings.proofs.vertices.vertex_ok.Goals as goal

pub bounds-mapping-u : goal.bounds-mapping-u
bounds-mapping-u c = omega (arith, c.requires.u_bound, (ready_accepted c.args.on.now.ready).recorded.ends.few)

pub returns-then-v : goal.returns-then-v
returns-then-v c = vertex_free _ _ _ _ _ _ refl c.if-v.true

pub returns-then-m-v : goal.returns-then-m-v
returns-then-m-v c = vertex_out _ _ _ _ _ _ refl c.if-v.false (omega (arith, c.m.ensures.value, c.if-m-v.true))

pub is_new-requires : goal.is_new-requires
is_new-requires c = omega (arith, c.requires.u_bound, (ready_accepted c.args.on.now.ready).recorded.ends.few)

pub returns : goal.returns
returns c =
    let low : (get_or c.args.mapping.now c.args.u 0) < count c.args.on.now.found.now = omega (arith, c.m.ensures.value, c.if-m-v.false) in
    let w = c.vertex_pair in
    let e = pair_allowed _ w.result _ (pair_weighs c.args.on.now.ready c.requires.u_bound (low) w.ensures).is (rw (back w.type_inv) at c.is_forbidden-forbidden.ensures) in
    vertex_in _ _ _ _ _ _ refl c.is_new.result _ c.if-v.false (low) c.is_new.ensures e
