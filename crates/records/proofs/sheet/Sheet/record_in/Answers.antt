-- `Sheet::record_in` meets its contract. Assumes nothing.
use Rattle.records.specs.Places.{laid}
use Rattle.records.proofs.sheet.Sheet.record_in.Goals as goal

pub record_in-requires-clause-laid : goal.record_in-requires-clause-laid
record_in-requires-clause-laid c = laid c.args.self.now.on.now.ready c.args.self.now.stand
