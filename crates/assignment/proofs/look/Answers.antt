-- `assignment::look` meets its contract. The invariant is `Looked` of the columns passed, and the row tried so far. Assumes nothing.
use mathlib.Core.Path.{◌≡◌, ap}
use Prim.Native.Nat.{ℕ, ◌+◌, ◌-◌}
use native.Mathlib.Omega.{arith}
use borrow.Author.Rules.{rules}
use Rattle.assignment.specs.Matching.{at, cell, out_of}
use Rattle.assignment.specs.Loops.{open_of}
use Rattle.assignment.specs.Marks.{marks, marks_at}
use Rattle.assignment.proofs.Leaves.{looked_more}
use Rattle.assignment.proofs.Counting.{tried_more}
use Rattle.assignment.proofs.look.Goals.{then-columns-j, else-columns-j}
use Rattle.assignment.proofs.look.Goals as goal

pub loop-j-preserved : goal.loop-j-preserved
loop-j-preserved c =
    let p = c.requires in
    let x = c.loop-j in
    let i = x.invariant in
    let e = c.from-o.ensures in
    let s : ℕ = c.args.base + at c.args.z.now x.j - c.look_at.result in
    let reach : c.if-columns-j.open ≡ open_of (at (marks x.columns.joined) x.j) c.min-new.result = elim c.if-columns-j.branch [
      | then-columns-j w ↦ rw (marks_at x.columns.joined x.j, w.if-columns-j.true) w.open-is
      | else-columns-j w ↦ rw (marks_at x.columns.joined x.j, w.if-columns-j.false) w.open-is
    ] in
    (looked_more {F = λ x. c.args.base + at c.args.z.now x - out_of c.args.problem.now.choice (cell c.args.problem.now.matrix.gains.now) c.args.t x} s _ _ _ (ap (λ (v : ℕ). c.args.base + at c.args.z.now x.j - v) (rw e at c.look_at.ensures.0)) i.0 (search rules) (search rules) c.min-new.ensures c.source.ensures reach c.or-near.ensures.0 c.or-near.ensures.1, tried_more i.1 p.row_countable.size p.dist_len.2 (omega (arith, c.loop-j-test.true, c.args.problem.now.matrix.sized.columns)) (rw e at c.look_at.ensures.1), i.2)
