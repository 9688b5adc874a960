-- `assignment_cases::compare` meets its contract. Assumes nothing.
use native.Mathlib.Omega.{arith}
use Rattle.assignment.specs.Counts.{none_countable}
use Rattle.assignment_cases.proofs.compare.Goals as goal

pub weights-t-requires : goal.weights-t-requires
weights-t-requires c = none_countable _ (let p = c.requires in omega arith)
