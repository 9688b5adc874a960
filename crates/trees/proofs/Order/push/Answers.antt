-- `push` adds one vertex. Assumes nothing.
use Rattle.std.proofs.Common.{arith}
use Rattle.foundations.specs.Lists.{holds_more, holds_full}
use Rattle.model.specs.Limits.{vertex_limit, no_vertex}
use Rattle.trees.proofs.Order.push.Goals as goal

pub returns-then-self-lt-ROWS : goal.returns-then-self-lt-ROWS
returns-then-self-lt-ROWS c l h = holds_more vertex_limit no_vertex l _ _ _ h (omega arith)

pub returns-else-self-lt-ROWS : goal.returns-else-self-lt-ROWS
returns-else-self-lt-ROWS c l h = holds_full vertex_limit no_vertex l _ _ _ h (omega arith)
