-- `deliver` reads out from the pair with the largest number and weighs what it wrote, or clears. Assumes nothing.
use Rattle.std.proofs.Common.{refl, ap, ◌∙◌, ◌++◌, ℕ, replicate, drop}
use Rattle.foundations.specs.Machine.{back}
use Rattle.model.specs.Limits.{no_vertex}
use Rattle.one_call.specs.Top.{top_pair}
use Rattle.one_call.specs.Assemble.{all_at}
use Rattle.jobs.specs.Delivery.{delivered_empty, read_legal, delivered_read}
use Rattle.jobs.proofs.delivery.deliver.Goals as goal

pub largest-requires : goal.largest-requires
largest-requires c = all_at c.args.on.now.ready c.requires.lent

pub returns-in_default : goal.returns-in_default
returns-in_default c = delivered_empty _ _ _ c.args.on.now.ready.passes _ _ _ _ _ _ c.in_default.ensures refl (c.clear.ensures ∙ ap (λ (k : ℕ). replicate k no_vertex ++ drop k c.args.mapping.now) c.n.ensures.value)

pub weigh-requires-clause-mapping : goal.weigh-requires-clause-mapping
weigh-requires-clause-mapping c =
    let t = c.in-Some.ensures in
    let l = top_pair _ _ _ _ _ _ _ t.1 t.0 in
    read_legal _ _ _ c.args.on.now.ready.passes _ c.requires.work_fits _ _ _ _ _ t.1 t.0 l.0 l.1 c.read_out.ensures

pub returns : goal.returns
returns c =
    let t = c.in-Some.ensures in
    let l = top_pair _ _ _ _ _ _ _ t.1 t.0 in
    delivered_read _ _ _ c.args.on.now.ready.passes _ c.requires.work_fits _ _ _ _ _ t.1 t.0 l.0 l.1 c.read_out.ensures _ (back {z = c.weigh.result} c.weigh.type_inv ∙ c.weigh.ensures)
