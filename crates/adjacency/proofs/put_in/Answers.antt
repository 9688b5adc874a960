-- `put_in` meets its contract. Assumes nothing.
use Rattle.adjacency.specs.Insertion.{putting_none, putting_more, putting_nothing, putting_all}
use borrow.Author.Rules.{rules}
use native.Mathlib.Omega.{arith}
use Rattle.adjacency.proofs.put_in.Goals as goal

pub loop-i-init : goal.loop-i-init
loop-i-init c = putting_none _ _ (search rules)

pub returns-then-c : goal.returns-then-c
returns-then-c c = putting_nothing c.loop-i.i c.loop-i.c c.loop-i.r _ c.if-c.true c.loop-i.invariant

pub loop-i-preserved : goal.loop-i-preserved
loop-i-preserved c = putting_more c.loop-i.i c.loop-i.c c.min.result c.carry-c.result c.loop-i.r _ (omega arith) c.if-c.false c.min.ensures c.carry-c.ensures c.loop-i.invariant

pub returns : goal.returns
returns c = putting_all c.loop-i.i c.loop-i.c c.loop-i.r _ (omega arith) c.loop-i.invariant
