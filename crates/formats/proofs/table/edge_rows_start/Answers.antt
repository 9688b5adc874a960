-- `edge_rows_start` meets its contract. Assumes nothing.
use mathlib.Core.Path.{refl}
use Prim.Native.Nat.{◌*◌, ◌<◌, ◌^◌}
use native.Mathlib.Omega.{arith}
use Rattle.model.specs.Lengths.{vertex_row_length}
use Rattle.formats.specs.Table.{rows_small}
use Rattle.formats.proofs.table.edge_rows_start.Goals as goal

pub overflow_mul-result : goal.overflow_mul-result
overflow_mul-result c =
    let small : c.args.k * vertex_row_length c.args.k < 2 ^ 24 = rows_small c.args.k _ (omega arith) (omega arith) in
    rw c.vertex_row_length.ensures (omega (arith, small))

pub overflow_add-result : goal.overflow_add-result
overflow_add-result c =
    let small : c.args.k * vertex_row_length c.args.k < 2 ^ 24 = rows_small c.args.k _ (omega arith) (omega arith) in
    rw (c.vertex_row_length.ensures, c.table_head_length.ensures) (omega (arith, small))

pub returns : goal.returns
returns c =
    let small : c.args.k * vertex_row_length c.args.k < 2 ^ 24 = rows_small c.args.k _ (omega arith) (omega arith) in
    rw (c.vertex_row_length.ensures, c.table_head_length.ensures) (record { is = refl; small = omega (arith, small) })
