-- `others_before` meets its contract. Assumes nothing.
use mathlib.Core.Path.{sym}
use Rattle.certificate.specs.Places.{before_none, before_some}
use Rattle.records.specs.Places.{before_small}
use native.Mathlib.Omega.{arith}
use Rattle.records.proofs.others_before.Goals as goal

pub returns-then-q-eq0 : goal.returns-then-q-eq0
returns-then-q-eq0 c = (sym (before_none _ _ c.if-q-eq0.true), omega arith)

pub returns : goal.returns
returns c =
    let p = c.requires in let h = before_small _ _ p.0 p.1 in (sym (before_some _ _ c.if-q-eq0.false), omega arith)
