-- `start_item` tests 1 to 12, 25 and 26, then the room for work numbers. Assumes nothing.
use mathlib.Core.Path.{sym}
use native.Mathlib.Omega.{arith}
use Rattle.model.proofs.Refusals.{sent_on}
use Rattle.formats.specs.Inputs.{input_sound}
use Rattle.job_items.specs.Items.{start_input, start_work, start_none}
use Rattle.job_items.proofs.start_item.Goals as goal

pub returns-in_err-input_item : goal.returns-in_err-input_item
returns-in_err-input_item c = sent_on _ _ c.from_residual.ensures.1 c.in_err-input_item.ensures (start_input _ _ _ _)

pub subproblem_count-requires-clause-sound : goal.subproblem_count-requires-clause-sound
subproblem_count-requires-clause-sound c = (input_sound _ _ _ (sym c.in_ok-input_item.ensures)).0

pub subproblem_count-requires-clause-sound_2 : goal.subproblem_count-requires-clause-sound_2
subproblem_count-requires-clause-sound_2 c = (input_sound _ _ _ (sym c.in_ok-input_item.ensures)).1

pub returns-then-work-subproblem_count : goal.returns-then-work-subproblem_count
returns-then-work-subproblem_count c = let p = c.subproblem_count.ensures.0 in sym (start_work _ _ _ _ (sym c.in_ok-input_item.ensures) (omega arith))

pub returns : goal.returns
returns c = let p = c.subproblem_count.ensures.0 in sym (start_none _ _ _ _ (sym c.in_ok-input_item.ensures) (omega arith))
