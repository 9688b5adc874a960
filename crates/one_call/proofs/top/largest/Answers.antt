-- `largest` meets its contract. Assumes nothing.
use Rattle.std.proofs.Common.{◌*◌, ◌<◌, ◌≤◌, arith, mul-le-mul}
use Rattle.model.specs.Limits.{vertex_limit, width_limit}
use Rattle.model.specs.Tree.{count}
use Rattle.trees.specs.Accepted.{whole}
use Rattle.one_call.specs.Top.{row_at, place_low}
use Rattle.one_call.proofs.top.largest.Goals as goal

pub vertex_count-n-requires : goal.vertex_count-n-requires
vertex_count-n-requires c = whole c.requires.recorded.passed.ends

pub vertex_count-m-requires : goal.vertex_count-m-requires
vertex_count-m-requires c = whole c.requires.found.passed.ends

pub overflow_mul-base : goal.overflow_mul-base
overflow_mul-base c =
    let h : c.loop-u.u < count c.args.recorded.now = omega (arith, c.loop-u-test.true, c.vertex_count-n.ensures) in
    let low : c.place.result ≤ vertex_limit = rw c.place.ensures (place_low c.requires c.loop-u.u h) in
    let few : c.place.result * c.width_of-width.result ≤ vertex_limit * width_limit = mul-le-mul low c.width_of-width.ensures.2 in
    omega arith

pub top_of_row-top-requires-clause-row_values : goal.top_of_row-top-requires-clause-row_values
top_of_row-top-requires-clause-row_values c =
    let h : c.loop-u.u < count c.args.recorded.now = omega (arith, c.loop-u-test.true, c.vertex_count-n.ensures) in
    row_at c.requires c.loop-u.u _ _ h c.vertex_count-m.ensures (rw (c.place.ensures, c.width_of-width.ensures.0))
