-- `Line::bytes` keeps to the buffer: as many bytes are there as places were passed. Assumes nothing.
use Rattle.std.proofs.Common.{◌≡◌}
use Rattle.case_lines.proofs.Line.bytes.Given as goal

abbrev pub invariant-loop-place : goal.invariant-loop-place
invariant-loop-place l = (goal.iterator-loop-place).can_next l.digits × (goal.iterator-loop-place).is_finite l.digits × (l.len ≡ l.place-index)
