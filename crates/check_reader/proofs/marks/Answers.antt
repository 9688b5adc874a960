-- `marks` meets its contract: at each turn the walk goes on by a step of `mark_step`, and at its end every record is passed. Assumes nothing.
use Rattle.std.proofs.Common.{arith, refl, ◌≡◌, ◌∙◌}
use Rattle.records.specs.Places.{ready_inputs}
use Rattle.check_front.specs.Marks.{reading, marked_none, marked_end}
use Rattle.check_reader.proofs.marks.Goals as goal

pub loop-number-init : goal.loop-number-init
loop-number-init c = record { same = refl; marked = rw c.first-walk.ensures (marked_none _ (ready_inputs c.args.sheet.now.on.now.ready) c.requires) }

pub mark_step-step-requires : goal.mark_step-step-requires
mark_step-step-requires c =
    let sheet = c.args.sheet.now in
    rw c.loop-number.invariant.same (reading (ready_inputs sheet.on.now.ready) sheet.long c.loop-number.invariant.marked (omega (arith, c.mark_count-count.ensures)))

pub returns : goal.returns
returns c =
    let all : c.loop-number.number ≡ c.mark_count-count.result = omega arith in
    marked_end (ready_inputs c.args.sheet.now.on.now.ready) c.args.sheet.now.long (all ∙ c.mark_count-count.ensures) c.loop-number.invariant.marked
