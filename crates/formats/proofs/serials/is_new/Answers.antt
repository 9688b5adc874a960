-- `is_new` meets its contract: the test is gathered over the vertices before v. Assumes nothing.
use Rattle.std.proofs.Common.{◌≡◌, refl, false, ne_eqb, arith, eqb, not, get_or}
use Rattle.foundations.specs.Lists.{every, every_step, every_end}
use Rattle.formats.specs.Serials.{new_in}
use Rattle.formats.proofs.serials.is_new.Goals as goal

pub returns-then-unknown : goal.returns-then-unknown
unfolding new_in
returns-then-unknown c = let e = c.if-unknown.true in rw e

pub loop-x-init : goal.loop-x-init
unfolding every
loop-x-init c = refl

pub loop-x-preserved : goal.loop-x-preserved
loop-x-preserved c =
    let t = c.args.serials.now in
    every_step (λ y. not (eqb (get_or t y 0) (get_or t c.args.v 0))) c.loop-x.x c.loop-x.ok _ c.loop-x.invariant refl

pub returns : goal.returns
unfolding new_in
returns c =
    let t = c.args.serials.now in
    let e : eqb (get_or t c.args.v 0) 0 ≡ false = ne_eqb _ 0 c.if-unknown.false in
    rw e (every_end (λ y. not (eqb (get_or t y 0) (get_or t c.args.v 0))) c.loop-x.x c.args.v c.loop-x.ok c.loop-x.invariant (omega arith))
