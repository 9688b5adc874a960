-- `late_item` tests the work numbers, what is left, and the room for the mapping. Assumes nothing.
use mathlib.Core.Path.{sym, ◌∙◌}
use Rattle.foundations.specs.Tests.{passed}
use Rattle.plan.specs.Numbers.{ready_sound, ready_recorded}
use Rattle.job_items.specs.Items.{early_passed, finish_work, finish_left, finish_mapping, finish_none}
use native.Mathlib.Omega.{arith}
use mathlib.Core.Path.{ap}
use mathlib.Core.Bool.{not}
use Rattle.jobs.proofs.late_item.Goals as goal

pub work_ok-fine-requires-clause-lent : goal.work_ok-fine-requires-clause-lent
work_ok-fine-requires-clause-lent c =
    let a = c.args in
    record { enough = (early_passed a.on.now.table.now a.on.now.recorded.now a.on.now.found.now a.work.now a.job c.requires).1 }

pub work_ok-fine-requires-clause-position_bound : goal.work_ok-fine-requires-clause-position_bound
work_ok-fine-requires-clause-position_bound c =
    let a = c.args in
    (early_passed a.on.now.table.now a.on.now.recorded.now a.on.now.found.now a.work.now a.job c.requires).4

pub is_left-left-requires-clause-sound : goal.is_left-left-requires-clause-sound
is_left-left-requires-clause-sound c = ready_recorded c.args.on.now.ready

pub is_left-left-requires-clause-sound_2 : goal.is_left-left-requires-clause-sound_2
is_left-left-requires-clause-sound_2 c = ready_sound c.args.on.now.ready

pub returns-then-not-fine : goal.returns-then-not-fine
returns-then-not-fine c =
    let a = c.args in
    sym (finish_work a.on.now.table.now a.on.now.recorded.now a.on.now.found.now a.work.now a.job a.mapping.now c.requires (sym c.work_ok-fine.ensures ∙ c.if-not-fine.true))

pub returns-then-left : goal.returns-then-left
returns-then-left c =
    let a = c.args in
    sym (finish_left a.on.now.table.now a.on.now.recorded.now a.on.now.found.now a.work.now a.job a.mapping.now c.requires (passed _ _ c.work_ok-fine.ensures (ap not c.if-not-fine.false)) (sym c.is_left-left.ensures ∙ c.if-left.true))

pub returns-then-mapping-n : goal.returns-then-mapping-n
returns-then-mapping-n c =
    let a = c.args in
    let k = c.n.ensures.value in
    sym (finish_mapping a.on.now.table.now a.on.now.recorded.now a.on.now.found.now a.work.now a.job a.mapping.now c.requires (passed _ _ c.work_ok-fine.ensures (ap not c.if-not-fine.false)) (sym c.is_left-left.ensures ∙ c.if-left.false) (omega arith))

pub returns : goal.returns
returns c =
    let a = c.args in
    let k = c.n.ensures.value in
    sym (finish_none a.on.now.table.now a.on.now.recorded.now a.on.now.found.now a.work.now a.job a.mapping.now c.requires (passed _ _ c.work_ok-fine.ensures (ap not c.if-not-fine.false)) (sym c.is_left-left.ensures ∙ c.if-left.false) (omega arith))
