-- `put_pair` stores the record of each choice of s where the one before it ends. Assumes nothing.
use Rattle.std.proofs.Common.{◌≡◌, ap, ◌∙◌, ℕ, ◌+◌, ◌*◌, ◌≤◌, length, get_or, pos, arith, rules}
use Rattle.foundations.specs.Machine.{Same, back}
use Rattle.plan.specs.Numbers.{ready_sound}
use Rattle.plan.specs.Pairs.{weighable, pair_weighs, pair_low, degree_is, children_is, degree_few, children_few}
use Rattle.records.specs.Places.{ready_inputs, found_known}
use Rattle.duals.specs.Solved.{pair_table, duals_at}
use Rattle.write.specs.Frames.{front_long, fits_part, one_part}
use Rattle.write.specs.Records.{here_of, row_low, row_few, here_pair, here_choice, here_work, here_room, here_fits, here_left, walked_then, walked_end, pair_end}
use Rattle.write.proofs.record.put_pair.Goals as goal

pub in_order-u-requires : goal.in_order-u-requires
in_order-u-requires c = row_low c.args.on.now.ready c.requires.i_bound.0

pub vertex_pair-w-requires : goal.vertex_pair-w-requires
vertex_pair-w-requires c =
    let N = c.args.on.now.ready in
    let Q = here_pair N c.requires.i_bound.0 c.in_order-u.ensures c.requires.i_bound.1 in
    weighable N Q.u_low Q.v_low

pub pair_gains-g-requires-clause-pair : goal.pair_gains-g-requires-clause-pair
pair_gains-g-requires-clause-pair c =
    here_pair c.args.on.now.ready c.requires.i_bound.0 c.in_order-u.ensures c.requires.i_bound.1

pub child_count-k-requires : goal.child_count-k-requires
child_count-k-requires c =
    let N = c.args.on.now.ready in
    let Q = here_pair N c.requires.i_bound.0 c.in_order-u.ensures c.requires.i_bound.1 in
    (pair_low N Q).0

pub degree-d-requires : goal.degree-d-requires
degree-d-requires c =
    let N = c.args.on.now.ready in
    let Q = here_pair N c.requires.i_bound.0 c.in_order-u.ensures c.requires.i_bound.1 in
    (pair_low N Q).1

pub width_of-requires : goal.width_of-requires
width_of-requires c =
    ready_sound c.args.on.now.ready

pub overflow_mul-base : goal.overflow_mul-base
overflow_mul-base c =
    omega (arith, row_few c.args.on.now.ready c.requires.i_bound.0 _ c.width_of.ensures.0)

pub offset-requires : goal.offset-requires
offset-requires c =
    let N = c.args.on.now.ready in
    let Q = here_pair N c.requires.i_bound.0 c.in_order-u.ensures c.requires.i_bound.1 in
    (pair_low N Q).1

pub overflow_add-base : goal.overflow_add-base
overflow_add-base c =
    let N = c.args.on.now.ready in
    let a = row_few N c.requires.i_bound.0 _ c.width_of.ensures.0 in
    let o = (found_known (ready_inputs N) _ c.requires.i_bound.1).offset_low in
    omega (arith, c.offset.ensures)

pub overflow_add-choices : goal.overflow_add-choices
overflow_add-choices c =
    let N = c.args.on.now.ready in
    let Q = here_pair N c.requires.i_bound.0 c.in_order-u.ensures c.requires.i_bound.1 in
    omega (arith, c.degree-d.ensures, degree_is N Q, degree_few N Q)

pub duals_of-duals-requires : goal.duals_of-duals-requires
duals_of-duals-requires c =
    let N = c.args.on.now.ready in
    let Q = here_pair N c.requires.i_bound.0 c.in_order-u.ensures c.requires.i_bound.1 in
    let b : Same c.vertex_pair-w.result = back c.vertex_pair-w.type_inv in
    let G = rw b at c.pair_gains-g.ensures in
    let H = here_of {q = c.loop-q.q} N c.requires.full c.requires.i_bound c.in_order-u.ensures c.child_count-k.ensures c.degree-d.ensures (let t = c.loop-q-test.true in omega arith) in
    pair_table N Q G H.children_in H.degree_in_lem _ (here_choice H)

pub shared_ref_as_front-put_one : goal.shared_ref_as_front-put_one
shared_ref_as_front-put_one c =
    let N = c.args.on.now.ready in
    let Q = here_pair N c.requires.i_bound.0 c.in_order-u.ensures c.requires.i_bound.1 in
    omega (arith, c.child_count-k.ensures, children_is N Q, children_few N Q)

pub shared_ref_as_front-put_one-in-loop-q : goal.shared_ref_as_front-put_one-in-loop-q
shared_ref_as_front-put_one-in-loop-q c =
    let N = c.args.on.now.ready in
    let Q = here_pair N c.requires.i_bound.0 c.in_order-u.ensures c.requires.i_bound.1 in
    omega (arith, c.degree-d.ensures, degree_is N Q, degree_few N Q)

pub overflow_add-value : goal.overflow_add-value
overflow_add-value c =
    let N = c.args.on.now.ready in
    let Q = here_pair N c.requires.i_bound.0 c.in_order-u.ensures c.requires.i_bound.1 in
    let H = here_of {q = c.loop-q.q} N c.requires.full c.requires.i_bound c.in_order-u.ensures c.child_count-k.ensures c.degree-d.ensures (let t = c.loop-q-test.true in omega arith) in
    let h = here_work H _ _ c.width_of.ensures.0 c.offset.ensures in
    omega (arith, h.1, h.2)

pub offset_bounds-work-base : goal.offset_bounds-work-base
offset_bounds-work-base c =
    let N = c.args.on.now.ready in
    let Q = here_pair N c.requires.i_bound.0 c.in_order-u.ensures c.requires.i_bound.1 in
    let H = here_of {q = c.loop-q.q} N c.requires.full c.requires.i_bound c.in_order-u.ensures c.child_count-k.ensures c.degree-d.ensures (let t = c.loop-q-test.true in omega arith) in
    let h = here_work H _ _ c.width_of.ensures.0 c.offset.ensures in
    omega (arith, h.1, h.2)

pub bounds-work-base : goal.bounds-work-base
bounds-work-base c =
    let N = c.args.on.now.ready in
    let Q = here_pair N c.requires.i_bound.0 c.in_order-u.ensures c.requires.i_bound.1 in
    let H = here_of {q = c.loop-q.q} N c.requires.full c.requires.i_bound c.in_order-u.ensures c.child_count-k.ensures c.degree-d.ensures (let t = c.loop-q-test.true in omega arith) in
    let h = here_work H _ _ c.width_of.ensures.0 c.offset.ensures in
    omega (arith, h.1, h.2)

pub put_one-next-requires-clause-one_fits : goal.put_one-next-requires-clause-one_fits
put_one-next-requires-clause-one_fits c =
    let N = c.args.on.now.ready in
    let Q = here_pair N c.requires.i_bound.0 c.in_order-u.ensures c.requires.i_bound.1 in
    let b : Same c.vertex_pair-w.result = back c.vertex_pair-w.type_inv in
    let G = rw b at c.pair_gains-g.ensures in
    let H = here_of {q = c.loop-q.q} N c.requires.full c.requires.i_bound c.in_order-u.ensures c.child_count-k.ensures c.degree-d.ensures (let t = c.loop-q-test.true in omega arith) in
    let D = duals_at N Q G H.children_in H.degree_in_lem c.loop-q.q (here_choice H) (pair_weighs N Q.u_low Q.v_low c.vertex_pair-w.ensures) (rw b at c.duals_of-duals.ensures) in
    let F = here_fits H D in
    let few_k : c.child_count-k.result ≤ length c.duals_of-duals.result.children = omega (arith, F.few) in
    let few_d : c.degree-d.result ≤ length c.duals_of-duals.result.neighbours = omega (arith, F.degree) in
    fits_part few_k few_d F

pub put_one-next-requires-clause-q_in_bounds : goal.put_one-next-requires-clause-q_in_bounds
put_one-next-requires-clause-q_in_bounds c =
    let N = c.args.on.now.ready in
    let Q = here_pair N c.requires.i_bound.0 c.in_order-u.ensures c.requires.i_bound.1 in
    let b : Same c.vertex_pair-w.result = back c.vertex_pair-w.type_inv in
    let G = rw b at c.pair_gains-g.ensures in
    let H = here_of {q = c.loop-q.q} N c.requires.full c.requires.i_bound c.in_order-u.ensures c.child_count-k.ensures c.degree-d.ensures (let t = c.loop-q-test.true in omega arith) in
    let D = duals_at N Q G H.children_in H.degree_in_lem c.loop-q.q (here_choice H) (pair_weighs N Q.u_low Q.v_low c.vertex_pair-w.ensures) (rw b at c.duals_of-duals.ensures) in
    let F = here_fits H D in
    let few_k : c.child_count-k.result ≤ length c.duals_of-duals.result.children = omega (arith, F.few) in
    let few_d : c.degree-d.result ≤ length c.duals_of-duals.result.neighbours = omega (arith, F.degree) in
    let W = c.loop-q.invariant in
    rw (front_long _ _ few_k, front_long _ _ few_d) (omega (arith, here_room H W.ends, c.requires.found_in_bounds, W.records.kept.size))

pub loop-q-preserved : goal.loop-q-preserved
loop-q-preserved c =
    let N = c.args.on.now.ready in
    let Q = here_pair N c.requires.i_bound.0 c.in_order-u.ensures c.requires.i_bound.1 in
    let b : Same c.vertex_pair-w.result = back c.vertex_pair-w.type_inv in
    let G = rw b at c.pair_gains-g.ensures in
    let H = here_of {q = c.loop-q.q} N c.requires.full c.requires.i_bound c.in_order-u.ensures c.child_count-k.ensures c.degree-d.ensures (let t = c.loop-q-test.true in omega arith) in
    let D = duals_at N Q G H.children_in H.degree_in_lem c.loop-q.q (here_choice H) (pair_weighs N Q.u_low Q.v_low c.vertex_pair-w.ensures) (rw b at c.duals_of-duals.ensures) in
    let F = here_fits H D in
    let few_k : c.child_count-k.result ≤ length c.duals_of-duals.result.children = omega (arith, F.few) in
    let few_d : c.degree-d.result ≤ length c.duals_of-duals.result.neighbours = omega (arith, F.degree) in
    let h = here_work H _ _ c.width_of.ensures.0 c.offset.ensures in
    let W = c.loop-q.invariant in
    let z = get_or c.args.work.now (c.args.i * c.width_of.result + c.offset.result + c.loop-q.q) (pos 0) in
    let value : Same z = search rules in
    let one = here_left H D W.ends (value ∙ ap (λ (k : ℕ). get_or c.args.work.now k (pos 0)) h.0) (one_part few_k few_d F c.put_one-next.ensures) in
    walked_then (omega arith) (omega arith) W one

pub returns : goal.returns
returns c =
    let N = c.args.on.now.ready in
    let Q = here_pair N c.requires.i_bound.0 c.in_order-u.ensures c.requires.i_bound.1 in
    let e : c.loop-q.q ≡ c.degree-d.result + 1 = omega (arith, c.loop-q-test.false, c.loop-q.auto.q-end) in
    walked_end c.loop-q.invariant (rw e (pair_end _ _ _ _ (c.degree-d.ensures ∙ degree_is N Q)))
