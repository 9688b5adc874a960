-- `edge_ok` meets its contract. Assumes nothing.
use Prim.Native.Nat.{◌<◌}
use mathlib.Core.Path.{◌≡◌, refl}
use Rattle.model.specs.Limits.{vertex_limit}
use Rattle.model.specs.Order.{parent}
use Rattle.mappings.specs.Tested.{above, above_low, edge_off, edge_on}
use mathlib.Core.Path.{ap}
use mathlib.Core.Bool.{not}
use Rattle.mappings.proofs.edges.edge_ok.Goals as goal

pub parent-w-requires : goal.parent-w-requires
parent-w-requires c =
    let u_low : c.args.u < vertex_limit = (above_low (above c.args.on.now.ready) c.args.u _ c.requires.u_bound refl).0 in
    u_low

pub is_mapped-here-requires : goal.is_mapped-here-requires
is_mapped-here-requires c =
    let u_low : c.args.u < vertex_limit = (above_low (above c.args.on.now.ready) c.args.u _ c.requires.u_bound refl).0 in
    u_low

pub is_mapped-above-requires : goal.is_mapped-above-requires
is_mapped-above-requires c =
    let w-low : c.parent-w.result < vertex_limit = (above_low (above c.args.on.now.ready) c.args.u c.parent-w.result c.requires.u_bound c.parent-w.ensures).1 in
    w-low

pub returns-then-not-both : goal.returns-then-not-both
returns-then-not-both c =
    let is : c.parent-w.result ≡ parent c.args.on.now.recorded.now c.args.u = (above_low (above c.args.on.now.ready) c.args.u c.parent-w.result c.requires.u_bound c.parent-w.ensures).2 in
    edge_off _ _ _ _ c.args.u c.parent-w.result c.is_mapped-here.result c.is_mapped-above.result (is) c.is_mapped-here.ensures c.is_mapped-above.ensures (ap not c.if-not-both.true)

pub bounds-mapping-w : goal.bounds-mapping-w
bounds-mapping-w c =
    let w-low : c.parent-w.result < vertex_limit = (above_low (above c.args.on.now.ready) c.args.u c.parent-w.result c.requires.u_bound c.parent-w.ensures).1 in
    w-low

pub bounds-mapping-u : goal.bounds-mapping-u
bounds-mapping-u c =
    let u_low : c.args.u < vertex_limit = (above_low (above c.args.on.now.ready) c.args.u _ c.requires.u_bound refl).0 in
    u_low

pub returns : goal.returns
returns c =
    let is : c.parent-w.result ≡ parent c.args.on.now.recorded.now c.args.u = (above_low (above c.args.on.now.ready) c.args.u c.parent-w.result c.requires.u_bound c.parent-w.ensures).2 in
    edge_on _ _ _ _ c.args.u c.parent-w.result c.is_mapped-here.result c.is_mapped-above.result (is) c.is_mapped-here.ensures c.is_mapped-above.ensures c.edge_between.result (ap not c.if-not-both.false) c.edge_between.ensures
