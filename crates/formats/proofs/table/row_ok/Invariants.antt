-- `row_ok` meets its contract: the test is gathered over the row. Assumes nothing.
use Rattle.std.proofs.Common.{◌≡◌}
use Rattle.model.specs.Table.{row_ok}
use Rattle.formats.proofs.table.row_ok.Given as goal

abbrev pub invariant-loop-j : goal.invariant-loop-j
invariant-loop-j l = l.ok ≡ row_ok l.table l.row l.j
