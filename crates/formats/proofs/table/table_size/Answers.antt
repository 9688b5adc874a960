-- `table_size` meets its contract. Assumes nothing.
use Prim.Native.Nat.{◌*◌, ◌<◌, ◌^◌}
use native.Mathlib.Omega.{arith}
use Rattle.model.specs.Lengths.{edge_row_length}
use Rattle.formats.specs.Table.{rows_small}
use Rattle.formats.proofs.table.table_size.Goals as goal

pub overflow_mul-result : goal.overflow_mul-result
overflow_mul-result c =
    let small : c.args.l * edge_row_length c.args.l < 2 ^ 24 = rows_small c.args.l _ (omega arith) (omega arith) in
    rw c.edge_row_length.ensures (omega (arith, small))

pub overflow_add-result : goal.overflow_add-result
overflow_add-result c =
    let small : c.args.l * edge_row_length c.args.l < 2 ^ 24 = rows_small c.args.l _ (omega arith) (omega arith) in
    rw c.edge_row_length.ensures (omega (arith, small))

pub returns : goal.returns
returns c = rw (c.edge_row_length.ensures, c.edge_rows_start.ensures.is)
