-- `sizes` refuses by the first item that applies, or gives the three numbers. Assumes nothing.
use mathlib.Core.Path.{refl, sym, ◌∙◌}
use Rattle.model.proofs.Refusals.{sent_on, number_some}
use Rattle.formats.specs.Inputs.{input_sound}
use Rattle.sizes.specs.Answers.{sizes_given, sizes_refused}
use Rattle.sizes.proofs.sizes.Goals as goal

pub returns-in_err-input_item : goal.returns-in_err-input_item
returns-in_err-input_item c =
    let is = c.in_err-input_item.ensures in
    sizes_refused _ _ _ _ (sent_on _ _ c.from_residual.ensures.1 is (λ n. refl)) (λ z. number_some c.in_err-input_item.field-0.0 (is ∙ z))

pub subproblem_count-count-requires : goal.subproblem_count-count-requires
subproblem_count-count-requires c = let q = input_sound _ _ _ (sym c.in_ok-input_item.ensures) in record { sound = q.0; sound_2 = q.1 }

pub certificate_length-length-requires : goal.certificate_length-length-requires
certificate_length-length-requires c = let q = input_sound _ _ _ (sym c.in_ok-input_item.ensures) in record { sound = q.0; sound_2 = q.1 }

pub returns : goal.returns
returns c =
    let e = c.subproblem_count-count.ensures.0 in
    sizes_given _ _ _ (sym c.in_ok-input_item.ensures) e e c.certificate_length-length.ensures.0
