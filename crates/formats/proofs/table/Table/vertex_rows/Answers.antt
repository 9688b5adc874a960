-- `Table::vertex_rows` meets its contract. Assumes nothing.
use mathlib.Core.Path.{refl}
use native.Mathlib.Omega.{arith}
use Rattle.formats.proofs.table.Table.vertex_rows.Goals as goal

pub invariant_of-result : goal.invariant_of-result
invariant_of-result c = let s = c.args.self.now.sized in rw (c.vertex_row_length.ensures, c.table_head_length.ensures, c.vertex_labels-k.ensures) (record { inside = record { inside = omega arith; wide = omega arith } })

pub returns : goal.returns
returns c = record { table = refl; block = rw (c.vertex_row_length.ensures, c.table_head_length.ensures, c.vertex_labels-k.ensures) }
