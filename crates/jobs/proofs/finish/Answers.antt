-- `finish` refuses by the first of the items 1 to 15, 25 and 26 that applies, or makes the plan and goes on. Assumes nothing.
use mathlib.Core.Path.{sym, ◌∙◌}
use Rattle.formats.specs.Inputs.{input_sound}
use Rattle.model.proofs.Refusals.{sent_on, number_some}
use Rattle.one_call.specs.Answers.{refusal_made}
use Rattle.job_items.specs.Items.{early_passed, finish_early}
use Rattle.jobs.proofs.finish.Goals as goal

pub returns-in_err-early_item : goal.returns-in_err-early_item
returns-in_err-early_item c =
    let is = sent_on _ _ c.from_residual.ensures.1 c.in_err-early_item.ensures (finish_early _ _ _ _ _ c.args.mapping.now) in
    let first = finish_early _ _ _ _ _ c.args.mapping.now (λ z. number_some c.in_err-early_item.field-0.0 (c.in_err-early_item.ensures ∙ z)) in
    record { refused = refusal_made _ _ _ is; finished = λ z. absurd (number_some c.in_err-early_item.field-0.0 (c.in_err-early_item.ensures ∙ sym first ∙ z)) }

pub make-requires-clause-sound : goal.make-requires-clause-sound
make-requires-clause-sound c = (input_sound _ _ _ (early_passed _ _ _ _ _ (sym c.in_ok-early_item.ensures)).0).0

pub make-requires-clause-sound_2 : goal.make-requires-clause-sound_2
make-requires-clause-sound_2 c = (input_sound _ _ _ (early_passed _ _ _ _ _ (sym c.in_ok-early_item.ensures)).0).1

pub invariant_of-on : goal.invariant_of-on
invariant_of-on c = record { ready = record { passes = (early_passed _ _ _ _ _ (sym c.in_ok-early_item.ensures)).0; planned = c.make.ensures } }
