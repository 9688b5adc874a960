-- `is_top` meets its contract. Assumes nothing.
use mathlib.Core.Path.{refl}
use Rattle.mappings.specs.Tested.{above, above_low, top_is}
use Rattle.mappings.proofs.is_top.Goals as goal

pub is_mapped-here-requires : goal.is_mapped-here-requires
is_mapped-here-requires c = (above_low (above c.args.on.now.ready) _ _ c.requires.u_bound refl).0

pub parent-requires : goal.parent-requires
parent-requires c = (above_low (above c.args.on.now.ready) _ _ c.requires.u_bound refl).0

pub is_mapped-above-requires : goal.is_mapped-above-requires
is_mapped-above-requires c = (above_low (above c.args.on.now.ready) _ _ c.requires.u_bound c.parent.ensures).1

pub returns : goal.returns
returns c =
    let h = c.is_mapped-here in
    top_is _ _ c.args.u _ h.result c.is_mapped-above.result (above_low (above c.args.on.now.ready) _ _ c.requires.u_bound c.parent.ensures).2 h.ensures c.is_mapped-above.ensures
