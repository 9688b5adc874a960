-- `choice` meets its contract. Assumes nothing.
use Rattle.plan.specs.Pairs.{pair_low, degree_is, degree_few}
use Rattle.solver.specs.Mates.{sub_pair, sub_table, sub_choice}
use Rattle.solver.specs.Heaviest.{table_sized_lem}
use Rattle.solver.proofs.subproblem.choice.Goals as goal

pub degree-l-requires : goal.degree-l-requires
degree-l-requires c = (pair_low c.args.on.now.ready (sub_pair c.requires.subproblem)).1

pub slot-c-requires-clause-v_lt_vertex_limit : goal.slot-c-requires-clause-v_lt_vertex_limit
slot-c-requires-clause-v_lt_vertex_limit c = (pair_low c.args.on.now.ready (sub_pair c.requires.subproblem)).1

pub slot-c-requires-clause-v_bound : goal.slot-c-requires-clause-v_bound
slot-c-requires-clause-v_bound c = rw (degree_is c.args.on.now.ready (sub_pair c.requires.subproblem)) (degree_few c.args.on.now.ready (sub_pair c.requires.subproblem))

pub mates-requires-clause-sized : goal.mates-requires-clause-sized
mates-requires-clause-sized c =
    let C = c.shared_of-of.ensures in table_sized_lem (sub_table c.args.on.now.ready c.requires.subproblem _ _ (rw C.0 at c.gains.ensures) (rw C.0 at C.1.counted) c.degree-l.ensures c.slot-c.ensures)

pub mates-requires-clause-v_lt_vertex_limit : goal.mates-requires-clause-v_lt_vertex_limit
mates-requires-clause-v_lt_vertex_limit c =
    let C = c.shared_of-of.ensures in (pair_low c.args.on.now.ready (sub_pair c.requires.subproblem)).1

pub returns : goal.returns
returns c =
    let C = c.shared_of-of.ensures in
    sub_choice c.args.on.now.ready c.requires.subproblem _ _ (rw C.0 at c.gains.ensures) (rw C.0 at C.1.counted) c.degree-l.ensures c.slot-c.ensures c.mates.ensures
