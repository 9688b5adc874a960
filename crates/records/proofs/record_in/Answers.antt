-- `record_in` meets its contract. Assumes nothing.
use mathlib.Core.Path.{refl}
use Rattle.records.specs.Places.{found_known, stands_at}
use native.Mathlib.Omega.{arith}
use Rattle.records.proofs.record_in.Goals as goal

pub degree-requires : goal.degree-requires
degree-requires c = (found_known c.requires.laid.inputs _ c.requires.v_bound.0).low

pub others_before-o-requires : goal.others_before-o-requires
others_before-o-requires c =
    let k = found_known c.requires.laid.inputs _ c.requires.v_bound.0 in
    (omega (arith, k.degree, k.few), omega (arith, k.degree))

pub offset-requires : goal.offset-requires
offset-requires c = (found_known c.requires.laid.inputs _ c.requires.v_bound.0).low

pub overflow_add-result : goal.overflow_add-result
overflow_add-result c =
    let k = found_known c.requires.laid.inputs _ c.requires.v_bound.0 in
    omega (arith, k.offset_low, k.few)

pub overflow_mul-result : goal.overflow_mul-result
overflow_mul-result c =
    let h = stands_at c.requires.laid _ _ _ _ _ _ c.requires.row_begins c.requires.v_bound.0 c.requires.v_bound.1 c.degree.ensures c.offset.ensures refl c.others_before-o.ensures.0 in
    omega (arith, h.0, h.1)

pub overflow_add-result-2 : goal.overflow_add-result-2
overflow_add-result-2 c =
    let h = stands_at c.requires.laid _ _ _ _ _ _ c.requires.row_begins c.requires.v_bound.0 c.requires.v_bound.1 c.degree.ensures c.offset.ensures refl c.others_before-o.ensures.0 in
    omega (arith, h.0, h.1)

pub squares-requires : goal.squares-requires
squares-requires c =
    let k = found_known c.requires.laid.inputs _ c.requires.v_bound.0 in
    omega (arith, k.low)

pub overflow_add-result-3 : goal.overflow_add-result-3
overflow_add-result-3 c =
    let h = stands_at c.requires.laid _ _ _ _ _ _ c.requires.row_begins c.requires.v_bound.0 c.requires.v_bound.1 c.degree.ensures c.offset.ensures c.squares.ensures c.others_before-o.ensures.0 in
    omega (arith, h.0, h.1)

pub overflow_mul-result-2 : goal.overflow_mul-result-2
overflow_mul-result-2 c =
    let h = stands_at c.requires.laid _ _ _ _ _ _ c.requires.row_begins c.requires.v_bound.0 c.requires.v_bound.1 c.degree.ensures c.offset.ensures c.squares.ensures c.others_before-o.ensures.0 in
    omega (arith, h.0, h.1)

pub overflow_add-result-4 : goal.overflow_add-result-4
overflow_add-result-4 c =
    let h = stands_at c.requires.laid _ _ _ _ _ _ c.requires.row_begins c.requires.v_bound.0 c.requires.v_bound.1 c.degree.ensures c.offset.ensures c.squares.ensures c.others_before-o.ensures.0 in
    omega (arith, h.0, h.1)

pub returns : goal.returns
returns c =
    let h = stands_at c.requires.laid _ _ _ _ _ _ c.requires.row_begins c.requires.v_bound.0 c.requires.v_bound.1 c.degree.ensures c.offset.ensures c.squares.ensures c.others_before-o.ensures.0 in
    (h.0, omega (arith, h.0, h.1))
