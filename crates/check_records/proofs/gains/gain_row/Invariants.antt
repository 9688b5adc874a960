-- `gain_row` meets its contract. Assumes nothing.
use Rattle.model.specs.Certificate.{value_of}
use Rattle.plan.specs.Pairs.{gain_at, RowFilled}
use Rattle.check_records.proofs.gains.gain_row.Given as goal

abbrev pub invariant-loop-j : goal.invariant-loop-j
invariant-loop-j l =
    let on = l.sheet.on.now in
    RowFilled l.j l.i (gain_at on.table.now on.recorded.now on.found.now (value_of on.recorded.now on.found.now l.sheet.certificate.now) l.u l.v l.i) l.initial.g l.g
