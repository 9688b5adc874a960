-- `column` meets its contract. Assumes nothing.
use Rattle.records.specs.Others.{column_first, column_before, column_after}
use native.Mathlib.Omega.{arith}
use Rattle.records.proofs.column.Goals as goal

pub returns-then-q-eq0 : goal.returns-then-q-eq0
returns-then-q-eq0 c = column_first _ _ c.if-q-eq0.true

pub returns-then-j-q : goal.returns-then-j-q
returns-then-j-q c = column_before _ _ c.if-q-eq0.false (omega arith)

pub returns : goal.returns
returns c = column_after _ _ c.if-q-eq0.false (omega arith)
