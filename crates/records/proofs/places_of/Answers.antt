-- `places_of` meets its contract. Assumes nothing.
use Rattle.std.proofs.Common.{arith, refl, ◌∙◌, ◌≡◌, ◌+◌, ◌*◌}
use Rattle.trees.specs.Accepted.{whole}
use Rattle.records.specs.Places.{inputs_recorded, inputs_found, inputs_few, size_known, squares_last, places_first, places_none, places_next, places_more}
use Rattle.records.proofs.places_of.Goals as goal

pub vertex_count-n-requires : goal.vertex_count-n-requires
vertex_count-n-requires c = whole (inputs_recorded c.requires.inputs).passed.ends

pub vertex_count-requires : goal.vertex_count-requires
vertex_count-requires c = whole (inputs_found c.requires.inputs).passed.ends

pub squares-all-requires : goal.squares-all-requires
squares-all-requires c = omega (arith, c.vertex_count.ensures, (inputs_few c.requires.inputs).1)

pub records_begin-at-requires : goal.records_begin-at-requires
records_begin-at-requires c = omega (arith, c.vertex_count-n.ensures, (inputs_few c.requires.inputs).0)

pub overflow_cast-p : goal.overflow_cast-p
overflow_cast-p c = omega (arith, c.records_begin-at.ensures, (inputs_few c.requires.inputs).0)

pub width_of-w-requires : goal.width_of-w-requires
width_of-w-requires c = inputs_found c.requires.inputs

pub loop-i-init : goal.loop-i-init
loop-i-init c =
    let begins = c.records_begin-at.ensures ∙ places_first c.requires.inputs _ c.vertex_count-n.ensures in
    (c.width_of-w.ensures.0, c.squares-all.ensures ∙ squares_last c.requires.inputs _ c.vertex_count.ensures c.square_sums.ensures, begins, places_none c.requires.inputs _ begins c.square_sums.ensures)

pub size-requires : goal.size-requires
size-requires c = size_known c.requires.inputs _ (omega (arith, c.vertex_count-n.ensures))

pub overflow_mul-at : goal.overflow_mul-at
overflow_mul-at c =
    let h = places_next c.requires.inputs _ _ _ _ _ (omega (arith, c.vertex_count-n.ensures)) c.loop-i.invariant.0 c.size.ensures c.loop-i.invariant.1 c.loop-i.invariant.2 in
    omega (arith, h.0, h.1)

pub overflow_add-at : goal.overflow_add-at
overflow_add-at c =
    let h = places_next c.requires.inputs _ _ _ _ _ (omega (arith, c.vertex_count-n.ensures)) c.loop-i.invariant.0 c.size.ensures c.loop-i.invariant.1 c.loop-i.invariant.2 in
    omega (arith, h.0, h.1)

pub overflow_mul-at-in-loop-i : goal.overflow_mul-at-in-loop-i
overflow_mul-at-in-loop-i c =
    let h = places_next c.requires.inputs _ _ _ _ _ (omega (arith, c.vertex_count-n.ensures)) c.loop-i.invariant.0 c.size.ensures c.loop-i.invariant.1 c.loop-i.invariant.2 in
    omega (arith, h.0, h.1)

pub overflow_add-at-in-loop-i : goal.overflow_add-at-in-loop-i
overflow_add-at-in-loop-i c =
    let h = places_next c.requires.inputs _ _ _ _ _ (omega (arith, c.vertex_count-n.ensures)) c.loop-i.invariant.0 c.size.ensures c.loop-i.invariant.1 c.loop-i.invariant.2 in
    omega (arith, h.0, h.1)

pub bounds-p-i : goal.bounds-p-i
bounds-p-i c = omega (arith, c.vertex_count-n.ensures, (inputs_few c.requires.inputs).0)

pub bounds-p-i-in-loop-i : goal.bounds-p-i-in-loop-i
bounds-p-i-in-loop-i c = omega (arith, c.vertex_count-n.ensures, (inputs_few c.requires.inputs).0)

pub overflow_cast-p-in-loop-i : goal.overflow_cast-p-in-loop-i
overflow_cast-p-in-loop-i c =
    let h = places_next c.requires.inputs _ _ _ _ _ (omega (arith, c.vertex_count-n.ensures)) c.loop-i.invariant.0 c.size.ensures c.loop-i.invariant.1 c.loop-i.invariant.2 in
    omega (arith, h.0, h.1)

pub loop-i-preserved : goal.loop-i-preserved
loop-i-preserved c =
    let h = places_next c.requires.inputs _ _ _ _ _ (omega (arith, c.vertex_count-n.ensures)) c.loop-i.invariant.0 c.size.ensures c.loop-i.invariant.1 c.loop-i.invariant.2 in
    let sum : c.loop-i.at + (c.width_of-w.result * c.size.result + 4 * c.squares-all.result) ≡ c.loop-i.at + c.width_of-w.result * c.size.result + 4 * c.squares-all.result = omega arith in
    let e = sum ∙ h.0 in
    (c.loop-i.invariant.0, c.loop-i.invariant.1, e, places_more c.requires.inputs _ _ _ (omega (arith, c.vertex_count-n.ensures)) c.loop-i.invariant.3 e refl)
