-- `slice_of` meets its contract. Assumes nothing.
use Rattle.plan.specs.Numbers.{ready_sound, ready_recorded}
use Rattle.jobs.proofs.slices.slice_of.Goals as goal

pub subproblem_count-all-requires-clause-sound : goal.subproblem_count-all-requires-clause-sound
subproblem_count-all-requires-clause-sound c = ready_recorded c.args.on.now.ready

pub subproblem_count-all-requires-clause-sound_2 : goal.subproblem_count-all-requires-clause-sound_2
subproblem_count-all-requires-clause-sound_2 c = ready_sound c.args.on.now.ready
