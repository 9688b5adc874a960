-- `edge_row_at` meets its contract. Assumes nothing.
use Rattle.formats.proofs.table.edge_row_at.Goals as goal

pub at-requires : goal.at-requires
at-requires c = record { i_lt_rows = rw c.edge_rows.ensures.block c.requires.i_bound }

pub returns : goal.returns
returns c = rw (c.at.ensures.is, c.edge_rows.ensures.block)
