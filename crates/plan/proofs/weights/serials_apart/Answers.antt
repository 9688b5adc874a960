-- `serials_apart` meets its contract. Assumes nothing.
use mathlib.Core.Path.{◌≡◌}
use mathlib.Core.Bool.{false}
use lib.Dec.{eqb}
use borrow.Author.Tests.{ne_eqb}
use Rattle.model.specs.Pairs.{apart}
use Rattle.plan.proofs.weights.serials_apart.Goals as goal

pub returns-then-a-eq0 : goal.returns-then-a-eq0
unfolding apart
returns-then-a-eq0 c =
    let e = c.if-a-eq0.true in rw e

pub returns : goal.returns
unfolding apart
returns c =
    let e : eqb c.args.a 0 ≡ false = ne_eqb _ 0 c.if-a-eq0.false in
    rw (← c.serial-b.ensures, e)
