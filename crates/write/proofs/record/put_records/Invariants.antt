-- `put_records` stores the records of one recorded vertex after the other. Assumes nothing.
use Prim.Native.Nat.{◌*◌}
use Rattle.model.specs.Order.{width}
use Rattle.write.specs.Records.{Walked}
use Rattle.write.proofs.record.put_records.Given as goal

abbrev pub invariant-loop-i : goal.invariant-loop-i
invariant-loop-i l = Walked l.on.table.now l.on.recorded.now l.on.found.now l.work 0 (l.i * width l.on.found.now) l.initial.certificate l.certificate l.at
