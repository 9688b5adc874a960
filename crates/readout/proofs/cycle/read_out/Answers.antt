-- `read_out` meets its contract. Assumes nothing.
use Rattle.readout.specs.CycleLaws.{top_subproblem, top_room, read_out}
use Rattle.readout.proofs.cycle.read_out.Goals as goal

pub list_pair-requires-clause-subproblem : goal.list_pair-requires-clause-subproblem
list_pair-requires-clause-subproblem c =
    let k = c.args.on.now.ready.passes in top_subproblem _ _ _ c.args.work.now k c.requires.u_bound.0 c.requires.u_bound.1

pub list_pair-requires-clause-room : goal.list_pair-requires-clause-room
list_pair-requires-clause-room c =
    let k = c.args.on.now.ready.passes in top_room _ _ _ c.args.work.now k c.args.u _ c.args.mapping.now _ c.requires.u_bound.0 c.n-n.ensures.value c.requires.recorded_in_bounds c.clear.ensures

pub returns : goal.returns
returns c = read_out _ _ _ _ c.args.on.now.ready.passes c.args.u _ c.args.mapping.now _ c.requires.u_bound.0 c.n-n.ensures.value c.requires.recorded_in_bounds c.clear.ensures c.list_pair.ensures
