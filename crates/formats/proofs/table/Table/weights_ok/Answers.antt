-- `Table::weights_ok` meets its contract. Assumes nothing.
use Rattle.model.specs.Table.{weights_ok}
use Rattle.formats.proofs.table.Table.weights_ok.Goals as goal

pub returns : goal.returns
unfolding weights_ok
returns c = rw (c.are_ok-vertices.ensures, c.vertex_rows-vertex_rows.ensures.table, c.vertex_rows-vertex_rows.ensures.block, c.are_ok-edges.ensures, c.edge_rows-edge_rows.ensures.table, c.edge_rows-edge_rows.ensures.block)
