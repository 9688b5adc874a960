-- `match_trees` refuses by the first item that applies and changes nothing, or makes the plan, solves and reads out. Assumes nothing.
use mathlib.Core.Path.{◌≡◌, refl, sym, ap, ◌∙◌}
use lib.IntN.{ℤ}
use mir.Syntax.{w32}
use mir.Val.{to_z, of_z}
use Rattle.std.specs.Prelude.{Ok}
use Rattle.foundations.specs.Machine.{back}
use Rattle.model.specs.Refusals.{Answer}
use Rattle.model.proofs.Refusals.{sent_on, number_some}
use Rattle.formats.specs.Inputs.{input_sound}
use Rattle.one_call.specs.Answers.{refusal_made, found_number_lem, found_weight}
use Rattle.one_call.specs.Items.{match_passed}
use Rattle.one_call.proofs.match_trees.Goals as goal

pub returns-in_err-match_item : goal.returns-in_err-match_item
returns-in_err-match_item c =
    let is = c.in_err-match_item.ensures in
    record { refused = refusal_made _ _ _ (sent_on _ _ c.from_residual.ensures.1 is (λ n. refl)); matched = λ z. absurd (number_some c.in_err-match_item.field-0.0 (is ∙ z)) }

pub make-requires-clause-sound : goal.make-requires-clause-sound
make-requires-clause-sound c = (input_sound _ _ _ (match_passed _ _ _ _ _ (sym c.in_ok-match_item.ensures)).0).0

pub make-requires-clause-sound_2 : goal.make-requires-clause-sound_2
make-requires-clause-sound_2 c = (input_sound _ _ _ (match_passed _ _ _ _ _ (sym c.in_ok-match_item.ensures)).0).1

pub invariant_of-on : goal.invariant_of-on
invariant_of-on c = record { ready = record { passes = (match_passed _ _ _ _ _ (sym c.in_ok-match_item.ensures)).0; planned = c.make.ensures } }

pub solve_and_read-requires-clause-lent : goal.solve_and_read-requires-clause-lent
solve_and_read-requires-clause-lent c = let p = match_passed _ _ _ _ _ (sym c.in_ok-match_item.ensures) in record { enough = p.1 }

pub solve_and_read-requires-clause-recorded_in_bounds : goal.solve_and_read-requires-clause-recorded_in_bounds
solve_and_read-requires-clause-recorded_in_bounds c = let p = match_passed _ _ _ _ _ (sym c.in_ok-match_item.ensures) in p.2

pub returns : goal.returns
returns c =
    let s = c.solve_and_read.ensures in
    let w = c.solve_and_read.result in
    let q : to_z w32 (of_z w32 w) ≡ w = back {z = w} c.solve_and_read.type_inv in
    let g : ◌≡◌ {A = Answer ℤ} (Ok (to_z w32 (of_z w32 w))) _ = ap (λ (y : ℤ). Ok y) q ∙ ap Ok s.answered in
    record {
      refused = λ n. absurd (n (sym c.in_ok-match_item.ensures));
      matched = λ z. record { values_left = s.filled; rest = s.rest; heaviest = s.heaviest; exact = s.exact; given = g; number = found_number_lem g; weighs = found_weight g };
    }
