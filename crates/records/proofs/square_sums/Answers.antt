-- `square_sums` meets its contract. Assumes nothing.
use Rattle.std.proofs.Common.{arith}
use Rattle.trees.specs.Accepted.{whole}
use Rattle.certificate.specs.Places.{squares_first}
use Rattle.records.specs.Places.{inputs_found, inputs_few, squares_none, squares_next, squares_more}
use Rattle.records.proofs.square_sums.Goals as goal

pub vertex_count-m-requires : goal.vertex_count-m-requires
vertex_count-m-requires c = whole (inputs_found c.requires.inputs).passed.ends

pub loop-v-init : goal.loop-v-init
loop-v-init c = (squares_first _, squares_none _ c.args.p.now c.requires.p_len)

pub degree-d-requires : goal.degree-d-requires
degree-d-requires c = omega (arith, c.vertex_count-m.ensures, (inputs_few c.requires.inputs).1)

pub overflow_mul-sum : goal.overflow_mul-sum
overflow_mul-sum c =
    let h = squares_next c.requires.inputs _ _ _ (omega (arith, c.vertex_count-m.ensures)) c.degree-d.ensures c.loop-v.invariant.0 in
    omega (arith, h.0, h.1)

pub overflow_add-sum : goal.overflow_add-sum
overflow_add-sum c =
    let h = squares_next c.requires.inputs _ _ _ (omega (arith, c.vertex_count-m.ensures)) c.degree-d.ensures c.loop-v.invariant.0 in
    omega (arith, h.0, h.1)

pub overflow_cast-p : goal.overflow_cast-p
overflow_cast-p c =
    let h = squares_next c.requires.inputs _ _ _ (omega (arith, c.vertex_count-m.ensures)) c.degree-d.ensures c.loop-v.invariant.0 in
    omega (arith, h.0, h.1)

pub bounds-p-v : goal.bounds-p-v
bounds-p-v c = omega (arith, c.vertex_count-m.ensures, (inputs_few c.requires.inputs).1)

pub loop-v-preserved : goal.loop-v-preserved
loop-v-preserved c =
    let h = squares_next c.requires.inputs _ _ _ (omega (arith, c.vertex_count-m.ensures)) c.degree-d.ensures c.loop-v.invariant.0 in
    (h.0, squares_more c.requires.inputs _ _ (omega (arith, c.vertex_count-m.ensures)) c.loop-v.invariant.1 h.0)
