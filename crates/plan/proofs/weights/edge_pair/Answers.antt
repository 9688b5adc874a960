-- `edge_pair` meets its contract. Assumes nothing.
use Rattle.foundations.specs.Machine.{Same, back}
use Rattle.plan.proofs.weights.edge_pair.Goals as goal

pub returns : goal.returns
returns c =
    let b : Same c.edge_weight_at-w.result = back c.edge_weight_at-w.type_inv in
    let d : Same c.agreed.result = back c.agreed.type_inv in
    rw d ((rw b at c.agreed.ensures).is _ c.requires.table_passed c.requires.i_bound.0 c.requires.i_bound.1 c.edge_weight_at-w.ensures)
