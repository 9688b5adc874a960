-- `Rows::at` meets its contract. Assumes nothing.
use mathlib.Core.Path.{refl}
use Prim.Native.Nat.{◌+◌, ◌≤◌}
use native.Mathlib.Omega.{arith}
use Rattle.formats.specs.Table.{row_start, row_end_lem}
use Rattle.formats.proofs.table.Rows.at.Goals as goal

pub overflow_mul-result : goal.overflow_mul-result
overflow_mul-result c =
    let room : row_start c.args.self.now.block c.args.i + c.args.self.now.block.row ≤ row_start c.args.self.now.block c.args.self.now.block.rows = row_end_lem c.args.self.now.block c.args.i c.requires.i_lt_rows in
    omega (arith, room)

pub overflow_add-result : goal.overflow_add-result
overflow_add-result c =
    let room : row_start c.args.self.now.block c.args.i + c.args.self.now.block.row ≤ row_start c.args.self.now.block c.args.self.now.block.rows = row_end_lem c.args.self.now.block c.args.i c.requires.i_lt_rows in
    omega (arith, room)

pub returns : goal.returns
returns c =
    let room : row_start c.args.self.now.block c.args.i + c.args.self.now.block.row ≤ row_start c.args.self.now.block c.args.self.now.block.rows = row_end_lem c.args.self.now.block c.args.i c.requires.i_lt_rows in
    record { is = refl; room = room }
