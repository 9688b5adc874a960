-- `vertex_row` meets its contract. Assumes nothing.
use native.Mathlib.Omega.{arith}
use Rattle.plan.specs.Numbers.{ready_accepted}
use Rattle.plan.specs.Pairs.{label_recorded, low_recorded}
use Rattle.plan.proofs.weights.vertex_row.Goals as goal

pub label-i-requires : goal.label-i-requires
label-i-requires c =
    let l = low_recorded c.requires in omega arith

pub vertex_row_at-requires : goal.vertex_row_at-requires
vertex_row_at-requires c =
    let R = c.requires in record { table_sized = (ready_accepted R.ready).weights.sized; i_bound = rw c.label-i.ensures (label_recorded R) }

pub serial-requires : goal.serial-requires
serial-requires c =
    let l = low_recorded c.requires in omega arith

pub returns : goal.returns
returns c = record { begins = rw c.label-i.ensures at c.vertex_row_at.ensures; own = c.serial.ensures }
