-- `is_sized` meets its contract. Assumes nothing.
use mathlib.Core.Path.{sym}
use borrow.Author.Tests.{le-leb}
use native.Mathlib.Omega.{arith}
use Rattle.foundations.specs.Tests.{is_false}
use Rattle.model.specs.Tree.{count, sized}
use Rattle.trees.specs.Accepted.{sized_says, long_some}
use Rattle.formats.proofs.tree.is_sized.Goals as goal

pub returns-then-s-tree_head_length : goal.returns-then-s-tree_head_length
returns-then-s-tree_head_length c = sym (is_false _ (λ t. let l = long_some (sized_says _ t) in omega arith))

pub returns-then-n-eq0 : goal.returns-then-n-eq0
unfolding sized
returns-then-n-eq0 c = rw c.if-n-eq0.true

pub returns : goal.returns
unfolding sized
returns c = rw (le-leb 1 (count c.args.s.now) (omega (arith, c.if-n-eq0.false)), c.tree_size.ensures)
