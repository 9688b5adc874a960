-- `vertex_pair` meets its contract. Assumes nothing.
use Rattle.foundations.specs.Machine.{Same, back}
use Rattle.plan.specs.Pairs.{weighable_recorded, row_weighable}
use Rattle.plan.proofs.weights.vertex_pair.Goals as goal

pub vertex_row-requires : goal.vertex_row-requires
vertex_row-requires c = weighable_recorded c.requires

pub vertex_pair_in-requires : goal.vertex_pair_in-requires
vertex_pair_in-requires c = row_weighable c.requires c.vertex_row.ensures

pub returns : goal.returns
returns c =
    let b : Same c.vertex_pair_in.result = back c.vertex_pair_in.type_inv in
    rw b (c.vertex_pair_in.ensures.is _ c.vertex_row.ensures)
