-- `assignment::look_first` meets its contract. The invariant is `First` of the columns passed, and the row tried so far. Assumes nothing.
use mathlib.Core.Path.{ap}
use Prim.Native.Nat.{ℕ, ◌+◌, ◌-◌}
use borrow.Author.Rules.{rules}
use Rattle.assignment.specs.Matching.{at, cell, out_of, gain_limit}
use Rattle.assignment.proofs.Leaves.{first_more}
use Rattle.assignment.proofs.Counting.{tried_more}
use native.Mathlib.Omega.{arith}
use Rattle.assignment.proofs.Roots.{sized_out}
use Rattle.assignment.proofs.look_first.Goals as goal

pub overflow_sub-s : goal.overflow_sub-s
overflow_sub-s c = omega (arith, c.look_at-x.ensures.0, (sized_out c.args.problem.now.choice c.args.problem.now.matrix.sized).gains c.args.r c.loop-j.j c.requires.dist_len.1 c.loop-j-test.true)

pub loop-j-preserved : goal.loop-j-preserved
loop-j-preserved c =
    let p = c.requires in
    let z = c.args.z.now in
    let x = c.loop-j in
    (first_more {F = λ x. gain_limit + at z x - out_of c.args.problem.now.choice (cell c.args.problem.now.matrix.gains.now) c.args.r x} _ x.invariant.0 (search rules) (ap (λ (v : ℕ). gain_limit + at z x.j - v) c.look_at-x.ensures.0) c.or-near.ensures.0 c.or-near.ensures.1, tried_more x.invariant.1 p.row_countable.size (omega (arith, p.dist_len.1, c.args.problem.now.matrix.sized.rows)) (omega (arith, c.loop-j-test.true, c.args.problem.now.matrix.sized.columns)) c.look_at-x.ensures.1)
