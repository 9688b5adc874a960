-- `records_item` tests item 23, then 24. Assumes nothing.
use Rattle.std.proofs.Common.{refl, ap, not}
use Rattle.foundations.specs.Tests.{cond_no, cond_yes}
use Rattle.check_reader.specs.Items.{records_item}
use Rattle.check_reader.proofs.records_item.Goals as goal

pub returns-then-not-rules : goal.returns-then-not-rules
unfolding records_item
returns-then-not-rules c = cond_no _ c.rules.result _ 23 c.rules.ensures (ap not c.if-not-rules.true)

pub returns-then-not-is_greatest : goal.returns-then-not-is_greatest
unfolding records_item
returns-then-not-is_greatest c = cond_yes _ c.rules.result 24 _ 23 c.rules.ensures (ap not c.if-not-rules.false) (cond_no _ c.is_greatest.result _ 24 c.is_greatest.ensures (ap not c.if-not-is_greatest.true))

pub returns : goal.returns
unfolding records_item
returns c = cond_yes _ c.rules.result 0 _ 23 c.rules.ensures (ap not c.if-not-rules.false) (cond_yes _ c.is_greatest.result 0 0 24 c.is_greatest.ensures (ap not c.if-not-is_greatest.false) refl)
