-- `is_left` meets its contract. Assumes nothing.
use Rattle.model.specs.Jobs.{is_left}
use Rattle.job_items.proofs.is_left.Goals as goal

pub returns : goal.returns
unfolding is_left
returns c = rw c.subproblem_count.ensures.0
