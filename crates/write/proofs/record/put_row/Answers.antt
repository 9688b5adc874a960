-- `put_row` stores the records of one found vertex after the other. Assumes nothing.
use Rattle.std.proofs.Common.{◌≡◌, ap, ◌∙◌, ℕ, ◌+◌, ◌*◌, arith}
use Rattle.model.specs.Order.{offset, width}
use Rattle.model.specs.Tree.{count}
use Rattle.write.specs.Records.{walked_none, walked_then, walked_end, pair_up, row_begin, row_end_lem}
use Rattle.write.proofs.record.put_row.Goals as goal

pub loop-v-init : goal.loop-v-init
loop-v-init c = walked_none _ _ _ (row_begin _ _) c.requires.at_value

pub loop-v-preserved : goal.loop-v-preserved
loop-v-preserved c = walked_then (omega arith) (pair_up _ _ _) c.loop-v.invariant c.put_pair-next.ensures

pub returns : goal.returns
returns c =
    let f = c.args.on.now.found.now in
    let e : c.loop-v.v ≡ count f = omega (arith, c.m-m.ensures.value, c.loop-v-test.false, c.loop-v.auto.v-end) in
    walked_end c.loop-v.invariant (ap (λ (x : ℕ). c.args.i * width f + offset f x) e ∙ row_end_lem c.args.on.now.ready _)
