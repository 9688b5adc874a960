-- `weigh` meets its contract. Assumes nothing.
use Rattle.std.proofs.Common.{arith, ◌∙◌}
use Rattle.foundations.specs.Machine.{back}
use Rattle.plan.specs.Numbers.{ready_accepted}
use Rattle.mappings.specs.WeighLaws.{small_sum, weighs_all}
use Rattle.mappings.proofs.weigh.weigh.Goals as goal

pub sum_vertices-requires : goal.sum_vertices-requires
sum_vertices-requires c = record { ground = record { accepted = ready_accepted c.args.on.now.ready; long = c.requires.recorded_in_bounds; mapping = c.requires.mapping } }

pub sum_edges-requires : goal.sum_edges-requires
sum_edges-requires c = record { ground = record { accepted = ready_accepted c.args.on.now.ready; long = c.requires.recorded_in_bounds; mapping = c.requires.mapping } }

pub add-requires : goal.add-requires
add-requires c =
    let few = (ready_accepted c.args.on.now.ready).recorded.ends.few in
    rw (back c.sum_vertices.type_inv, back c.sum_edges.type_inv) (small_sum (omega (arith, few)) c.sum_vertices.ensures c.sum_edges.ensures)

pub returns : goal.returns
returns c = rw (back c.add.type_inv) (weighs_all _ _ _ _ c.sum_vertices.result c.sum_edges.result _ c.sum_vertices.ensures.is c.sum_edges.ensures.is (c.add.ensures ∙ rw (back c.sum_vertices.type_inv, back c.sum_edges.type_inv)))
