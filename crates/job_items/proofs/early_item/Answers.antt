-- `early_item` tests 1 to 13, 25 and 26, then the record, then its counts. Assumes nothing.
use mathlib.Core.Path.{sym, ◌∙◌, ap}
use mathlib.Core.Bool.{not}
use Rattle.foundations.specs.Tests.{passed}
use Rattle.model.proofs.Refusals.{sent_on}
use Rattle.job_items.specs.Items.{early_start, early_record, early_trees, early_none}
use Rattle.job_items.proofs.early_item.Goals as goal

pub returns-in_err-start_item : goal.returns-in_err-start_item
returns-in_err-start_item c = sent_on _ _ c.from_residual.ensures.1 c.in_err-start_item.ensures (early_start _ _ _ _ _)

pub returns-then-not-fine : goal.returns-then-not-fine
returns-then-not-fine c = sym (early_record _ _ _ _ _ (sym c.in_ok-start_item.ensures) (sym c.record_ok-fine.ensures ∙ c.if-not-fine.true))

pub returns-then-not-same : goal.returns-then-not-same
returns-then-not-same c =
    sym (early_trees _ _ _ _ _ (sym c.in_ok-start_item.ensures) (passed _ _ c.record_ok-fine.ensures (ap not c.if-not-fine.false)) (sym c.same_trees-same.ensures ∙ c.if-not-same.true))

pub returns : goal.returns
returns c =
    sym (early_none _ _ _ _ _ (sym c.in_ok-start_item.ensures) (passed _ _ c.record_ok-fine.ensures (ap not c.if-not-fine.false)) (passed _ _ c.same_trees-same.ensures (ap not c.if-not-same.false)))
