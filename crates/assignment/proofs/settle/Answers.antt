-- `assignment::settle` meets its contract. The invariants are `Changed` of the rows, and of the columns, passed. Assumes nothing.
use native.Mathlib.Omega.{arith}
use borrow.Author.Rules.{rules}
use Rattle.foundations.specs.Changed.{changed_more}
use Rattle.assignment.specs.Marks.{marks_at, marks_yes}
use Rattle.assignment.proofs.settle.Goals as goal

pub shifted-requires : goal.shifted-requires
shifted-requires c t =
    let x = c.loop-i in
    let h = c.requires.rows x.i c.loop-i-test.true (marks_yes _ _ t) in
    (omega (arith, h.0, x.invariant.0.rest x.i (omega arith)), omega (arith, h.1, x.invariant.0.rest x.i (omega arith)))

pub loop-i-preserved : goal.loop-i-preserved
loop-i-preserved c = (changed_more c.loop-i.invariant.0 (search rules) (rw marks_at c.shifted.ensures), c.loop-i.invariant.1, c.loop-i.invariant.2)

pub shifted-requires-in-loop-j : goal.shifted-requires-in-loop-j
shifted-requires-in-loop-j c t =
    let x = c.loop-j in
    let h = c.requires.columns x.j c.loop-j-test.true (marks_yes _ _ t) in
    rw (x.invariant.0.rest x.j (omega arith), c.loop-i.invariant.1) h

pub loop-j-preserved : goal.loop-j-preserved
loop-j-preserved c = (changed_more c.loop-j.invariant.0 (search rules) (rw marks_at c.shifted-in-loop-j.ensures), c.loop-j.invariant.1, c.loop-j.invariant.2)
