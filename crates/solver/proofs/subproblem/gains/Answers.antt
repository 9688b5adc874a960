-- `gains` meets its contract. Assumes nothing.
use Rattle.plan.specs.Pairs.{filled_more, degree_few}
use native.Mathlib.Omega.{arith}
use Rattle.solver.proofs.subproblem.gains.Goals as goal

pub loop-i-preserved : goal.loop-i-preserved
loop-i-preserved c = (omega arith, c.loop-i.invariant.1, filled_more c.loop-i.i _ _ _ _ (degree_few c.args.on.now.ready c.requires.pair) c.loop-i.invariant.2 c.gain_row.ensures)
