-- `count_searches` refuses by the first item that applies, or makes the plan and fills with counts set to 0. Assumes nothing.
use Rattle.std.proofs.Common.{refl, sym, ◌∙◌, arith}
use Rattle.model.proofs.Refusals.{sent_on, number_some}
use Rattle.assignment.specs.Counts.{none_countable}
use Rattle.solver.specs.Bound.{most_few}
use Rattle.searches.specs.Steps.{sound_trees, lent_work, ready_plan}
use Rattle.searches.proofs.count_searches.Goals as goal

pub returns-in_err-start_item : goal.returns-in_err-start_item
returns-in_err-start_item c =
    let is = sent_on _ _ c.from_residual.ensures.1 c.in_err-start_item.ensures (λ n. refl) in
    let some = λ (z : _). number_some c.in_err-start_item.field-0.0 (c.in_err-start_item.ensures ∙ sym is ∙ z) in
    record { number = is; work_kept = λ n. refl; counts_kept = λ n. refl; filled = λ z. absurd (some z); counted = λ z. absurd (some z) }

pub make-requires-clause-sound : goal.make-requires-clause-sound
make-requires-clause-sound c = (sound_trees _ _ _ _ c.in_ok-start_item.ensures refl).0

pub make-requires-clause-sound_2 : goal.make-requires-clause-sound_2
make-requires-clause-sound_2 c = (sound_trees _ _ _ _ c.in_ok-start_item.ensures refl).1

pub subproblem_count-all-requires-clause-sound : goal.subproblem_count-all-requires-clause-sound
subproblem_count-all-requires-clause-sound c = (sound_trees _ _ _ _ c.in_ok-start_item.ensures refl).0

pub subproblem_count-all-requires-clause-sound_2 : goal.subproblem_count-all-requires-clause-sound_2
subproblem_count-all-requires-clause-sound_2 c = (sound_trees _ _ _ _ c.in_ok-start_item.ensures refl).1

pub invariant_of-on : goal.invariant_of-on
invariant_of-on c = record { ready = ready_plan _ _ _ _ c.in_ok-start_item.ensures refl c.make.ensures }

pub fill_counted-requires-clause-lent : goal.fill_counted-requires-clause-lent
fill_counted-requires-clause-lent c = lent_work _ _ _ _ c.in_ok-start_item.ensures refl

pub fill_counted-requires-clause-countable : goal.fill_counted-requires-clause-countable
fill_counted-requires-clause-countable c =
    rw c.new-scratch.ensures (none_countable _ (most_few (ready_plan _ _ _ _ c.in_ok-start_item.ensures refl c.make.ensures) _ _ (omega (arith, c.subproblem_count-all.ensures.0))))
