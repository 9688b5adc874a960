-- `duals_of` meets its contract. Assumes nothing.
use native.Mathlib.Omega.{arith}
use Rattle.assignment.specs.Counts.{none_countable}
use Rattle.duals.proofs.duals_of.Goals as goal

pub solve_without-requires : goal.solve_without-requires
solve_without-requires c = none_countable _ (omega (arith, c.requires.rows))
