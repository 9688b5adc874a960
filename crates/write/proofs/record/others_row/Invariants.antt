-- `others_row` meets its contract. Assumes nothing.
use Prim.Native.Nat.{◌≤◌}
use Rattle.model.specs.Limits.{degree_limit}
use Rattle.write.specs.Frames.{OthersRow}
use Rattle.write.proofs.record.others_row.Given as goal

abbrev pub invariant-loop-j : goal.invariant-loop-j
invariant-loop-j l = (l.l ≤ degree_limit) × OthersRow l.j l.q l.x l.r
