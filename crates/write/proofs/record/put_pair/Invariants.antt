-- `put_pair` stores the record of each choice of s where the one before it ends. Assumes nothing.
use Prim.Native.Nat.{◌+◌, ◌*◌}
use Rattle.model.specs.Order.{offset, width}
use Rattle.write.specs.Records.{Walked}
use Rattle.write.proofs.record.put_pair.Given as goal

abbrev pub invariant-loop-q : goal.invariant-loop-q
invariant-loop-q l = Walked l.on.table.now l.on.recorded.now l.on.found.now l.work (l.i * width l.on.found.now + offset l.on.found.now l.v) (l.i * width l.on.found.now + (offset l.on.found.now l.v + l.q)) l.initial.certificate l.certificate l.next
