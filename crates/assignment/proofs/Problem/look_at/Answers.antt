-- `Problem::look_at` meets its contract. Assumes nothing.
use Rattle.assignment.proofs.Leaves.{kept_is}
use Rattle.assignment.proofs.Problem.look_at.Goals as goal

pub returns : goal.returns
returns c = (kept_is _ _ _ _ c.kept.ensures c.look_at.ensures.0, c.look_at.ensures.1)
