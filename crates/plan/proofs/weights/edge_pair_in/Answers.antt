-- `edge_pair_in` meets its contract. Assumes nothing.
use Rattle.foundations.specs.Machine.{Same, back}
use Rattle.formats.specs.Table.{edge_row_inside}
use Rattle.plan.proofs.weights.edge_pair_in.Goals as goal

pub weight_in_row-w-requires : goal.weight_in_row-w-requires
weight_in_row-w-requires c = rw c.requires.start_value (edge_row_inside c.requires.table_passed.sized _ _ c.requires.bounds.0 c.requires.bounds.1)

pub returns : goal.returns
returns c =
    let b : Same c.weight_in_row-w.result = back c.weight_in_row-w.type_inv in
    let d : Same c.agreed.result = back c.agreed.type_inv in
    rw d ((rw b at c.agreed.ensures).is _ c.requires.table_passed c.requires.bounds.0 c.requires.bounds.1 (rw c.requires.start_value at c.weight_in_row-w.ensures))
