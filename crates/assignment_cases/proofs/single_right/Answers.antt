-- `assignment_cases::single_right` meets its contract. Assumes nothing.
use native.Mathlib.Omega.{arith}
use Rattle.assignment.specs.Counts.{none_countable}
use Rattle.assignment_cases.proofs.single_right.Goals as goal

pub row_weights-s-requires : goal.row_weights-s-requires
row_weights-s-requires c = (c.requires, none_countable 1 (omega arith))
