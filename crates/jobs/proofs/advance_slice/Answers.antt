-- `advance_slice` refuses by the first of the items 1 to 15, 25 and 26 that applies, or makes the plan and goes on. Assumes nothing.
use mathlib.Core.Path.{sym, ◌∙◌}
use Rattle.std.proofs.lemmas.Result.{IfOk-from_err}
use Rattle.formats.specs.Inputs.{input_sound}
use Rattle.model.proofs.Refusals.{sent_on, number_some}
use Rattle.job_items.specs.Items.{early_passed, advance_early}
use Rattle.jobs.specs.Outcomes.{advance_refused_as, advance_is}
use Rattle.jobs.proofs.advance_slice.Goals as goal

pub returns-in_err-early_item : goal.returns-in_err-early_item
returns-in_err-early_item c =
    let some = λ (z : _). number_some c.in_err-early_item.field-0.0 (c.in_err-early_item.ensures ∙ z) in
    let first = advance_early _ _ _ _ _ some in
    record {
      answers = advance_is _ _ _ _ _ _ _ _ _ (advance_refused_as _ _ _ _ _ c.args.budget _ (sent_on _ _ c.from_residual.ensures.1 c.in_err-early_item.ensures (advance_early _ _ _ _ _)) (λ z. some (sym first ∙ z)));
      within = IfOk-from_err _ _ c.from_residual.ensures.0;
    }

pub make-requires-clause-sound : goal.make-requires-clause-sound
make-requires-clause-sound c = (input_sound _ _ _ (early_passed _ _ _ _ _ (sym c.in_ok-early_item.ensures)).0).0

pub make-requires-clause-sound_2 : goal.make-requires-clause-sound_2
make-requires-clause-sound_2 c = (input_sound _ _ _ (early_passed _ _ _ _ _ (sym c.in_ok-early_item.ensures)).0).1

pub invariant_of-on : goal.invariant_of-on
invariant_of-on c = record { ready = record { passes = (early_passed _ _ _ _ _ (sym c.in_ok-early_item.ensures)).0; planned = c.make.ensures } }
