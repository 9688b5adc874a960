-- `pair_ok` meets its contract. Assumes nothing.
use Rattle.std.proofs.Common.{refl, sym, ◌∙◌, rules}
use Rattle.foundations.specs.Machine.{Same}
use Rattle.foundations.specs.Ranges.{every_from_all}
use Rattle.job_items.specs.Work.{pair_none, pair_some}
use Rattle.job_items.proofs.work.pair_ok.Goals as goal

pub returns-then-is_forbidden : goal.returns-then-is_forbidden
returns-then-is_forbidden c =
    let d : Same c.args.weight = search rules in
    every_from_all _ _ _ _ c.all.ensures.ran refl (λ x b q k. search rules) ∙ pair_none c.args.work.now c.args.from c.args.count c.args.weight (sym (rw d at c.is_forbidden.ensures) ∙ c.if-is_forbidden.true)

pub returns : goal.returns
returns c =
    let d : Same c.args.weight = search rules in
    every_from_all _ _ _ _ c.all-2.ensures.ran refl (λ x b q k. search rules) ∙ pair_some c.args.work.now c.args.from c.args.count c.args.weight (sym (rw d at c.is_forbidden.ensures) ∙ c.if-is_forbidden.false)
