-- `put_row` stores the records of one found vertex after the other. Assumes nothing.
use Prim.Native.Nat.{◌+◌, ◌*◌}
use Rattle.model.specs.Order.{offset, width}
use Rattle.write.specs.Records.{Walked}
use Rattle.write.proofs.record.put_row.Given as goal

abbrev pub invariant-loop-v : goal.invariant-loop-v
invariant-loop-v l = Walked l.on.table.now l.on.recorded.now l.on.found.now l.work (l.i * width l.on.found.now) (l.i * width l.on.found.now + offset l.on.found.now l.v) l.initial.certificate l.certificate l.next
