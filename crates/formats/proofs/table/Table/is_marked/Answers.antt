-- `Table::is_marked` meets its contract. Assumes nothing.
use Rattle.model.specs.Table.{table_marked}
use Rattle.formats.proofs.table.Table.is_marked.Goals as goal

pub returns : goal.returns
unfolding table_marked
returns c = rw (c.is_mark-head.ensures, c.are_marked-vertices.ensures, c.vertex_rows-vertex_rows.ensures.table, c.vertex_rows-vertex_rows.ensures.block, c.are_marked-edges.ensures, c.edge_rows-edge_rows.ensures.table, c.edge_rows-edge_rows.ensures.block)
