-- `solve_and_read` fills all work numbers, finds the largest value, and reads out from its pair, or clears where there is none. Assumes nothing.
use Rattle.std.proofs.Common.{ap, ◌∙◌, refl, ◌++◌, ℕ, replicate, drop, arith}
use Rattle.model.specs.Limits.{no_vertex}
use Rattle.model.specs.Values.{fill}
use Rattle.plan.specs.Numbers.{ready_sound, ready_recorded}
use Rattle.one_call.specs.Top.{top_pair}
use Rattle.one_call.specs.Assemble.{all_at}
use Rattle.one_call.specs.Call.{solved_empty, solved_read}
use Rattle.one_call.proofs.solve_and_read.Goals as goal

pub subproblem_count-count-requires-clause-sound : goal.subproblem_count-count-requires-clause-sound
subproblem_count-count-requires-clause-sound c = ready_recorded c.args.on.now.ready

pub subproblem_count-count-requires-clause-sound_2 : goal.subproblem_count-count-requires-clause-sound_2
subproblem_count-count-requires-clause-sound_2 c = ready_sound c.args.on.now.ready

pub largest-requires : goal.largest-requires
largest-requires c = all_at c.args.on.now.ready (record { enough = omega arith })

pub returns-in_default : goal.returns-in_default
returns-in_default c =
    let on = c.args.on.now in
    solved_empty _ _ _ on.ready.passes _ c.requires.lent.enough _ (c.fill.ensures ∙ ap (λ (k : ℕ). fill on.table.now on.recorded.now on.found.now c.args.work.now 0 k) c.subproblem_count-count.ensures.0) _ _ _ _ _ c.in_default.ensures refl
    (c.clear.ensures ∙ ap (λ (k : ℕ). replicate k no_vertex ++ drop k c.args.mapping.now) c.n.ensures.value)

pub returns : goal.returns
returns c =
    let on = c.args.on.now in
    let t = c.in-Some.ensures in
    let l = top_pair _ _ _ _ _ _ _ t.1 t.0 in
    solved_read _ _ _ on.ready.passes _ c.requires.lent.enough _ (c.fill.ensures ∙ ap (λ (k : ℕ). fill on.table.now on.recorded.now on.found.now c.args.work.now 0 k) c.subproblem_count-count.ensures.0) _ _ _ _ _ t.1 t.0 l.0 l.1 c.read_out.ensures
