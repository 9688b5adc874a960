-- `advance_ready` tests the work numbers before the position, and then fills from there. Assumes nothing.
use mathlib.Core.Path.{◌≡◌, refl, sym, ◌∙◌}
use Prim.Native.Nat.{ℕ}
use Rattle.foundations.specs.Tests.{passed}
use Rattle.job_items.specs.Items.{early_passed, advance_work_lem, advance_none}
use Rattle.jobs.specs.Outcomes.{advance_refused_as, advance_accepted_as, advance_is}
use native.Mathlib.Omega.{arith}
use mathlib.Core.Path.{ap}
use mathlib.Core.Bool.{not}
use Rattle.jobs.proofs.advance_ready.Goals as goal

pub work_ok-fine-requires-clause-lent : goal.work_ok-fine-requires-clause-lent
work_ok-fine-requires-clause-lent c =
    let a = c.args in
    record { enough = (early_passed a.on.now.table.now a.on.now.recorded.now a.on.now.found.now a.work.now a.job c.requires).1 }

pub work_ok-fine-requires-clause-position_bound : goal.work_ok-fine-requires-clause-position_bound
work_ok-fine-requires-clause-position_bound c =
    let a = c.args in
    (early_passed a.on.now.table.now a.on.now.recorded.now a.on.now.found.now a.work.now a.job c.requires).4

pub returns-then-not-fine : goal.returns-then-not-fine
returns-then-not-fine c =
    let item = advance_work_lem _ _ _ _ _ c.requires (sym c.work_ok-fine.ensures ∙ c.if-not-fine.true) in
    record { answers = advance_is _ _ _ _ _ _ _ _ _ (advance_refused_as _ _ _ _ _ c.args.budget _ (sym item) (λ z. some (sym item ∙ z))); within = tt }
  where
    some : ◌≡◌ {A = ℕ} 16 0 → ⊥
    some e = omega arith

pub slice_of-count-requires : goal.slice_of-count-requires
slice_of-count-requires c =
    let a = c.args in
    (early_passed a.on.now.table.now a.on.now.recorded.now a.on.now.found.now a.work.now a.job c.requires).4

pub fill-requires-clause-lent : goal.fill-requires-clause-lent
fill-requires-clause-lent c =
    let a = c.args in
    record { enough = (early_passed a.on.now.table.now a.on.now.recorded.now a.on.now.found.now a.work.now a.job c.requires).1 }

pub fill-requires-clause-count_bound : goal.fill-requires-clause-count_bound
fill-requires-clause-count_bound c =
    let a = c.args in
    let l = (early_passed a.on.now.table.now a.on.now.recorded.now a.on.now.found.now a.work.now a.job c.requires).4 in
    let k = c.slice_of-count.ensures.0 in
    omega arith

pub returns : goal.returns
returns c = record {
  answers =
      advance_is _ _ _ _ _ _ _ _ _
      (advance_accepted_as _ _ _ _ _ c.args.budget _ _ _ refl c.slice_of-count.ensures.0
      (advance_none _ _ _ _ _ c.requires (passed _ _ c.work_ok-fine.ensures (ap not c.if-not-fine.false))) c.fill.ensures);
  within = c.slice_of-count.ensures.1;
}
