-- `finish_ready` tests 16 to 18, and then reads out and weighs. Assumes nothing.
use mathlib.Core.Path.{refl, sym, ap, ◌∙◌}
use lib.IntN.{ℤ}
use Rattle.std.specs.Prelude.{Ok}
use Rattle.foundations.specs.Machine.{back}
use Rattle.model.proofs.Refusals.{sent_on, number_some}
use Rattle.one_call.specs.Answers.{refusal_made}
use Rattle.job_items.specs.Items.{early_passed, finish_passed}
use Rattle.jobs.specs.Fits.{finish_fits}
use Rattle.jobs.specs.Delivery.{delivered_finished}
use Rattle.jobs.proofs.finish_ready.Goals as goal

pub returns-in_err-late_item : goal.returns-in_err-late_item
returns-in_err-late_item c =
    let is = c.in_err-late_item.ensures in
    record { refused = refusal_made _ _ _ (sent_on _ _ c.from_residual.ensures.1 is (λ n. refl)); finished = λ z. absurd (number_some c.in_err-late_item.field-0.0 (is ∙ z)) }

pub deliver-requires-clause-lent : goal.deliver-requires-clause-lent
deliver-requires-clause-lent c = record { enough = (early_passed _ _ _ _ _ c.requires).1 }

pub deliver-requires-clause-work_fits : goal.deliver-requires-clause-work_fits
deliver-requires-clause-work_fits c = finish_fits _ _ _ _ _ _ (sym c.in_ok-late_item.ensures)

pub deliver-requires-clause-recorded_in_bounds : goal.deliver-requires-clause-recorded_in_bounds
deliver-requires-clause-recorded_in_bounds c = (finish_passed _ _ _ _ _ _ (sym c.in_ok-late_item.ensures)).2

pub returns : goal.returns
returns c =
    let w = c.deliver.result in
    record {
      refused = λ n. absurd (n (sym c.in_ok-late_item.ensures));
      finished = λ z. delivered_finished _ _ _ c.args.on.now.ready.passes _ _ _ w _ c.deliver.ensures (ap (λ (y : ℤ). Ok y) (back {z = w} c.deliver.type_inv));
    }
