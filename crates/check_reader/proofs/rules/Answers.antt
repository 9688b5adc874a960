-- `rules` meets its contract: at each turn the walk goes on by a step of `rule_step`, and at its end every record is tested. Assumes nothing.
use Rattle.std.proofs.Common.{refl}
use Rattle.plan.specs.Numbers.{ready_recorded, ready_sound}
use Rattle.check_records.specs.Gains.{given}
use Rattle.check_records.specs.Walk.{walked_none}
use Rattle.check_reader.proofs.rules.Goals as goal

pub subproblem_count-count-requires : goal.subproblem_count-count-requires
subproblem_count-count-requires c = record { sound = ready_recorded c.args.sheet.now.on.now.ready; sound_2 = ready_sound c.args.sheet.now.on.now.ready }

pub loop-number-init : goal.loop-number-init
loop-number-init c =
    let sheet = c.args.sheet.now in
    record { same = refl; walked = rw (c.first-walk.ensures, c.begin.ensures) (walked_none _ _ (given sheet.on.now.ready sheet.stand sheet.long) refl) }

pub loop-number-preserved : goal.loop-number-preserved
loop-number-preserved c =
    let e = c.loop-number.invariant.same in
    record { same = e; walked = (rw e at c.rule_step-step.ensures) _ c.loop-number.invariant.walked.stands }
