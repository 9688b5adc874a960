-- `Tree::serials` meets its contract. Assumes nothing.
use mathlib.Core.Path.{◌≡◌, refl}
use Rattle.formats.specs.Serials.{serials_none, serials_more}
use native.Mathlib.Omega.{arith}
use Rattle.formats.proofs.tree.Tree.serials.Goals as goal

pub loop-v-init : goal.loop-v-init
loop-v-init c =
    let few = c.args.self.now.ends.few in
    (omega (arith, few), serials_none _ _ refl)

pub loop-v-preserved : goal.loop-v-preserved
loop-v-preserved c = (c.loop-v.invariant.0, serials_more (omega arith) c.loop-v.invariant.1 c.serial.ensures)

pub returns : goal.returns
returns c =
    let e : c.loop-v.v ≡ c.args.self.now.n = omega arith in
    rw e at c.loop-v.invariant.1
