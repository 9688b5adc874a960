-- `column_search` meets its contract. The invariant: the greatest gain of the rows passed, and the column passed so far. Assumes nothing.
use Prim.Native.Nat.{◌<◌}
use Rattle.model.specs.Limits.{degree_limit}
use native.Mathlib.Omega.{arith}
use Rattle.assignment.proofs.Counting.{counted_countable, passed_none, passed_more, passed_low, search_column}
use Rattle.assignment.proofs.Choices.{greatest_none, greatest_more, greatest_end}
use Rattle.assignment.proofs.weights.column_search.Goals as goal

pub loop-i-init : goal.loop-i-init
loop-i-init c = ((0, greatest_none _ _), passed_none _)

pub look_at-x-requires : goal.look_at-x-requires
look_at-x-requires c =
    let p = c.requires in let i = c.loop-i.invariant in let q : c.loop-i.i < degree_limit = omega (arith, p.0, c.loop-i-test.true) in let t = passed_low p.1 i.1 q in (t.0, q, omega arith, t.1)

pub loop-i-preserved : goal.loop-i-preserved
loop-i-preserved c =
    let p = c.requires in let i = c.loop-i.invariant in (rw c.max-d.ensures (greatest_more _ i.0 c.look_at-x.ensures.0), passed_more i.1 (counted_countable p.1 0 (omega arith)).size (omega (arith, p.0, c.loop-i-test.true)) c.look_at-x.ensures.1)

pub returns : goal.returns
returns c =
    let i = c.loop-i.invariant in ((i.0.0, greatest_end i.0.1 c.loop-i-test.false c.loop-i.auto.i-end), search_column c.requires.1 i.1)
