-- `same_trees` meets its contract. Assumes nothing.
use Rattle.model.specs.Jobs.{same_trees}
use Rattle.job_items.proofs.same_trees.Goals as goal

pub returns : goal.returns
unfolding same_trees
returns c = rw (c.same_count-n_same.ensures, c.same_count-m_same.ensures)
