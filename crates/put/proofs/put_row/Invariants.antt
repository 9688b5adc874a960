-- `put_row` stores one dual after the other. Assumes nothing.
use Rattle.put.specs.Puts.{RowPut}
use Rattle.put.proofs.put_row.Given as goal

abbrev pub invariant-loop-i : goal.invariant-loop-i
invariant-loop-i l = RowPut l.at l.i l.duals l.initial.d l.d
