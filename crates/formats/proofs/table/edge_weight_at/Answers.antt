-- `edge_weight_at` meets its contract. Assumes nothing.
use borrow.Author.Rules.{rules}
use Rattle.foundations.specs.Machine.{Same}
use Rattle.formats.proofs.table.edge_weight_at.Goals as goal

pub weight-requires : goal.weight-requires
weight-requires c =
    let e = c.edge_rows-rows.ensures in record { i_lt_rows = rw e.block c.requires.i_bound; j_lt_rows = rw e.block c.requires.j_bound }

pub returns : goal.returns
returns c =
    let b : Same c.weight.result = search rules in rw (b, c.weight.ensures, c.edge_rows-rows.ensures.table, c.edge_rows-rows.ensures.block)
