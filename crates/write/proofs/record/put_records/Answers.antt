-- `put_records` stores the records of one recorded vertex after the other. Assumes nothing.
use Rattle.std.proofs.Common.{◌≡◌, ◌∙◌, arith}
use Rattle.model.specs.Tree.{count}
use Rattle.write.specs.Records.{walked_none, walked_then, walked_end, rows_begin, row_up, rows_end}
use Rattle.write.proofs.record.put_records.Goals as goal

pub loop-i-init : goal.loop-i-init
loop-i-init c = walked_none _ _ _ (omega arith) (c.records_begin-at.ensures ∙ rows_begin _ _ _ c.n-n.ensures.value)

pub loop-i-preserved : goal.loop-i-preserved
loop-i-preserved c = walked_then (omega arith) (row_up _ _) c.loop-i.invariant c.put_row-at.ensures

pub returns : goal.returns
returns c =
    let e : c.loop-i.i ≡ count c.args.on.now.recorded.now = omega (arith, c.n-n.ensures.value, c.loop-i-test.false, c.loop-i.auto.i-end) in
    (walked_end c.loop-i.invariant (rows_end _ _ _ e)).records
