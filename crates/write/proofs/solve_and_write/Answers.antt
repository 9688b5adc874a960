-- `solve_and_write` solves and reads out, then stores the front and the records. Assumes nothing.
use Rattle.std.proofs.Common.{◌≤◌, length, arith}
use Rattle.foundations.specs.Machine.{back}
use Rattle.records.specs.Places.{ready_inputs, inputs_few}
use Rattle.write.specs.Call.{solved_full, front_room, written_left}
use Rattle.write.specs.Frames.{front_long, front_part, front_as}
use Rattle.write.proofs.solve_and_write.Goals as goal

pub solve_and_read-w-requires-clause-recorded_in_bounds : goal.solve_and_read-w-requires-clause-recorded_in_bounds
solve_and_read-w-requires-clause-recorded_in_bounds c = (inputs_few (ready_inputs c.args.on.now.ready)).0

pub put_front-requires-clause-n_in_bounds : goal.put_front-requires-clause-n_in_bounds
put_front-requires-clause-n_in_bounds c =
    let few : c.n.result ≤ length c.solve_and_read-w.new.mapping = let n = c.n.ensures.few in omega arith in
    rw (front_long _ _ few, c.n.ensures.value) (omega (arith, front_room _ _ _ c.args.on.now.ready.passes, c.requires.found_in_bounds))

pub returns : goal.returns
returns c =
    let few : c.n.result ≤ length c.solve_and_read-w.new.mapping = let n = c.n.ensures.few in omega arith in
    let S = c.solve_and_read-w.ensures in
    let F = front_as c.n.ensures.value c.m.ensures.value (back {z = c.solve_and_read-w.result} c.solve_and_read-w.type_inv) (front_part few c.put_front.ensures) in
    written_left c.args.on.now.ready.passes S F (solved_full c.args.on.now.ready.passes S) c.put_records.ensures c.requires.found_in_bounds
