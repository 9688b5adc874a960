-- `memory_after` gives the old memory where the call was refused. Assumes nothing.
use mathlib.Core.Path.{sym, ◌∙◌}
use Rattle.answer_numbers.specs.ByItem.{after_refused, after_accepted}
use Rattle.answer_numbers.proofs.job_numbers.memory_after.Goals as goal

pub returns-then-refusal-ne0 : goal.returns-then-refusal-ne0
returns-then-refusal-ne0 c = sym (after_refused _ _ _ c.if-refusal-ne0.true)

pub returns-else-refusal-ne0 : goal.returns-else-refusal-ne0
returns-else-refusal-ne0 c = c.into.ensures ∙ sym (after_accepted _ _ _ c.if-refusal-ne0.false)
