-- `others_of` meets its contract. Assumes nothing.
use Rattle.records.specs.Others.{others_all, others_less}
use Rattle.records.proofs.others_of.Goals as goal

pub returns-then-q-eq0 : goal.returns-then-q-eq0
returns-then-q-eq0 c = others_all _ _ c.if-q-eq0.true

pub returns-else-q-eq0 : goal.returns-else-q-eq0
returns-else-q-eq0 c = others_less _ _ c.if-q-eq0.false
