-- `Record::duals_ok` meets its contract. Assumes nothing.
use Rattle.std.proofs.Common.{rules}
use Rattle.foundations.specs.Machine.{Same, back}
use Rattle.record_rules.specs.Cover.{duals_in, total_is, covers_are}
use Rattle.record_rules.proofs.Record.duals_ok.Goals as goal

pub returns : goal.returns
unfolding duals_in
returns c =
    let B = rw c.first-2.ensures at c.numbers_in-below.ensures in
    let C = rw c.next-2.ensures at c.numbers_in-across.ensures in
    let d : Same c.value.result = back c.value.type_inv in
    let e : Same c.args.w = search rules in
    let k = rw (d, e, c.value.ensures, total_is _ _ _ _ _ 0 _ _ B C c.total_of.ensures.0 c.total_of-2.ensures.0) at c.is_sum-t.ensures in
    rw (c.none_negative-a.ensures, c.none_negative-b.ensures, c.first.ensures, c.next.ensures, k, c.all_covered-c.ensures, covers_are _ _ _ _ _ _ _ _ B C c.args.g.now)
