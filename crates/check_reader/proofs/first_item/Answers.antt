-- `first_item` tests the items of every call, and hands on to the items 20 to 24. Assumes nothing.
use Rattle.std.proofs.Common.{sym}
use Rattle.model.proofs.Refusals.{sent_on}
use Rattle.certificate.specs.Items.{check_input}
use Rattle.check_reader.proofs.first_item.Goals as goal

pub returns-in_err-input_item : goal.returns-in_err-input_item
returns-in_err-input_item c = sent_on _ _ c.from_residual.ensures.1 c.in_err-input_item.ensures (check_input _ _ _ _)

pub planned_item-requires : goal.planned_item-requires
planned_item-requires c = sym c.in_ok-input_item.ensures
