-- `counts_of` meets its contract. Assumes nothing.
use mathlib.Core.Path.{ap, ◌∙◌}
use Rattle.records.specs.Cursor.{counted}
use Rattle.records.specs.Others.{others_of}
use Rattle.records.specs.Places.{size_known, found_known}
use Rattle.records.proofs.cursor.counts_of.Goals as goal

pub in_order-requires : goal.in_order-requires
in_order-requires c =
    let p = c.requires in (size_known p.inputs _ p.i_low).0

pub child_count-children-requires : goal.child_count-children-requires
child_count-children-requires c =
    let p = c.requires in rw c.in_order.ensures (size_known p.inputs _ p.i_low).1

pub degree-requires : goal.degree-requires
degree-requires c =
    let p = c.requires in (found_known p.inputs _ p.v_low).low

pub returns : goal.returns
returns c =
    let p = c.requires in
    let e = rw c.in_order.ensures at c.child_count-children.ensures in
    counted p _ _ e (c.others_of-others.ensures ∙ ap (λ d. others_of d c.args.c.q) c.degree.ensures)
