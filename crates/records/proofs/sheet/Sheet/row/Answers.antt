-- `Sheet::row` meets its contract. Assumes nothing.
use Rattle.std.proofs.Common.{arith}
use Rattle.records.specs.Places.{laid, ready_inputs, inputs_few, size_known, row_at}
use Rattle.records.proofs.sheet.Sheet.row.Goals as goal

pub begin-requires : goal.begin-requires
begin-requires c = omega (arith, c.requires, (inputs_few (ready_inputs c.args.self.now.on.now.ready)).0)

pub size-requires : goal.size-requires
size-requires c = size_known (ready_inputs c.args.self.now.on.now.ready) _ c.requires

pub returns-clause-begins : goal.returns-clause-begins
returns-clause-begins c = row_at (laid c.args.self.now.on.now.ready c.args.self.now.stand) _ _ _ c.requires c.begin.ensures c.size.ensures
