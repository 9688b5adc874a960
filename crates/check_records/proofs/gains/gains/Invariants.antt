-- `gains` meets its contract. Assumes nothing.
use Rattle.std.proofs.Common.{length}
use Rattle.model.specs.Certificate.{value_of}
use Rattle.model.specs.Graph.{neighbours}
use Rattle.plan.specs.Pairs.{gain_at, Filled}
use Rattle.check_records.proofs.gains.gains.Given as goal

abbrev pub invariant-loop-i : goal.invariant-loop-i
invariant-loop-i l =
    let on = l.sheet.on.now in
    Filled l.i (length (neighbours on.found.now l.v)) (gain_at on.table.now on.recorded.now on.found.now (value_of on.recorded.now on.found.now l.sheet.certificate.now) l.u l.v) l.g
