-- `assignment::solve` meets its contract. Assumes nothing.
use native.Mathlib.Omega.{arith}
use Rattle.assignment.specs.Counts.{none_countable}
use Rattle.assignment.proofs.Roots.{answer_all}
use Rattle.assignment.proofs.solve.Goals as goal

pub solve_without-requires : goal.solve_without-requires
solve_without-requires c = none_countable _ (omega (arith, c.args.matrix.now.sized.rows))

pub returns : goal.returns
returns c = answer_all c.args.matrix.now.sized c.solve_without.ensures.answer
