-- `greatest` meets its contract. Assumes nothing.
use Rattle.std.proofs.Common.{◌≡◌, ◌<◌, ◌^◌}
use Rattle.check_records.specs.Greatest.{most, own_most}
use Rattle.check_records.proofs.top.greatest.Given as goal

abbrev pub invariant-loop-u : goal.invariant-loop-u
invariant-loop-u l = (l.all ≡ most (own_most l.recorded l.found l.certificate) l.u) × (l.all < 2 ^ 31)
