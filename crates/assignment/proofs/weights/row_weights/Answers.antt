-- `row_weights` meets its contract. The invariant: the two greatest gains of the columns passed, and the row tried so far. Assumes nothing.
use native.Mathlib.Omega.{arith}
use Rattle.assignment.proofs.Counting.{counted_countable, search_row, tried_more}
use Rattle.assignment.proofs.Choices.{two_first, two_rest, two_end, single_of}
use Rattle.assignment.proofs.weights.row_weights.Goals.{then-d-x, else-d-x}
use Rattle.assignment.proofs.weights.row_weights.Goals as goal

pub loop-j-preserved : goal.loop-j-preserved
loop-j-preserved c =
    let p = c.requires in
    let i = c.loop-j.invariant in
    let t = tried_more i.1 (counted_countable p.1 0 (omega arith)).size (omega arith) (omega (arith, p.0, c.loop-j-test.true)) c.look_at-x.ensures.1 in
    elim c.if-d-x.branch [
      | then-d-x w ↦ rw (w.b-is, w.d-is, w.e-is) (two_first _ i.0 c.look_at-x.ensures.0 w.if-d-x.true, t, omega (arith, p.0, c.loop-j-test.true))
      | else-d-x w ↦ rw (w.b-is, w.d-is, w.e-is, w.max-e.ensures) (two_rest _ i.0 c.look_at-x.ensures.0 w.if-d-x.false, t, i.2)
    ]

pub returns : goal.returns
returns c =
    let i = c.loop-j.invariant in (single_of (two_end i.0 c.loop-j-test.false c.loop-j.auto.j-end), search_row c.requires.1 i.1)
