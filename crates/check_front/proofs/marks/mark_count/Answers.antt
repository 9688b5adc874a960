-- `mark_count` meets its contract. Assumes nothing.
use Rattle.plan.specs.Numbers.{ready_recorded, ready_sound}
use Rattle.check_front.proofs.marks.mark_count.Goals as goal

pub subproblem_count-requires : goal.subproblem_count-requires
subproblem_count-requires c = record { sound = ready_recorded c.args.on.now.ready; sound_2 = ready_sound c.args.on.now.ready }
