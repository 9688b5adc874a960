-- `start_core` refuses by the first item that applies, or begins. Assumes nothing.
use mathlib.Core.Path.{sym, ◌∙◌}
use Rattle.model.proofs.Refusals.{number_some}
use Rattle.jobs.specs.Outcomes.{start_refused_as, start_accepted_as}
use Rattle.jobs.proofs.Theorems.{start_call}
use Rattle.jobs.proofs.start_core.Goals as goal

pub returns-in-Ok : goal.returns-in-Ok
returns-in-Ok c = rw c.in-Ok.is (start_call (start_accepted_as _ _ _ _ _ _ c.begun-job.ensures (sym c.in-Ok.ensures)))

pub returns-in-Err : goal.returns-in-Err
returns-in-Err c = start_call (start_refused_as _ _ _ _ _ _ c.start_item-answer.ensures (λ z. number_some c.in-Err.field-0 (c.in-Err.ensures ∙ z)))
