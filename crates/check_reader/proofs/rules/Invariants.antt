-- The walk's invariant: so many records are passed. Assumes nothing.
use Rattle.std.proofs.Common.{◌≡◌}
use Rattle.check_records.specs.Walk.{Walked}
use Rattle.check_reader.proofs.rules.Given as goal

abbrev pub invariant-loop-number : goal.invariant-loop-number
invariant-loop-number l = record {
  same : l.reader.certificate.now ≡ l.fn.sheet.certificate.now;
  walked : Walked l.pair.gains l.pair.weight l.fn.sheet.on.now.table.now l.fn.sheet.on.now.recorded.now l.fn.sheet.on.now.found.now l.fn.sheet.on.now.plan.now l.fn.sheet.certificate.now l._number l.reader.at l.walk;
}
