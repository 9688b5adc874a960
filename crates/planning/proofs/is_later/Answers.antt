-- `is_later` meets its contract. Assumes nothing.
use borrow.Author.Tests.{lt-ltb, le-ltb}
use Rattle.model.specs.Limits.{vertex_limit}
use Rattle.planning.specs.Parents.{is_later}
use Rattle.planning.proofs.is_later.Goals as goal

pub returns-then-w-lt-VERTICES : goal.returns-then-w-lt-VERTICES
unfolding is_later
returns-then-w-lt-VERTICES c = rw (lt-ltb _ vertex_limit c.if-w-lt-VERTICES.true)

pub returns-else-w-lt-VERTICES : goal.returns-else-w-lt-VERTICES
unfolding is_later
returns-else-w-lt-VERTICES c = rw (le-ltb _ vertex_limit c.if-w-lt-VERTICES.false)
