-- `assignment::sum_of` meets its contract. Assumes nothing.
use mathlib.Core.Path.{refl}
use native.Mathlib.Omega.{arith}
use Rattle.foundations.specs.Sums.{sum, sum_more}
use Rattle.assignment.specs.Matching.{at}
use Rattle.assignment.proofs.sum_of.Goals as goal

pub loop-i-init : goal.loop-i-init
unfolding sum
loop-i-init c = (refl, omega arith)

pub loop-i-preserved : goal.loop-i-preserved
loop-i-preserved c =
    let x = c.loop-i in
    let h = c.requires.1 x.i c.loop-i-test.true in
    (omega (arith, sum_more x.i (at c.args.a.now), x.invariant.0), omega (arith, h, x.invariant.1))
