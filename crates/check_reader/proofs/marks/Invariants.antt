-- The walk's invariant: so many records are passed. Assumes nothing.
use Rattle.std.proofs.Common.{◌≡◌}
use Rattle.check_front.specs.Marks.{Marked}
use Rattle.check_reader.proofs.marks.Given as goal

abbrev pub invariant-loop-number : goal.invariant-loop-number
invariant-loop-number l = record {
  same : l.reader.certificate.now ≡ l.fn.sheet.certificate.now;
  marked : Marked l.fn.sheet.on.now.recorded.now l.fn.sheet.on.now.found.now l.p l.fn.sheet.certificate.now l.number l.reader.at l.walk;
}
