-- `fill` meets its contract. Assumes nothing.
use Rattle.solver.specs.Bound.{most_few}
use Rattle.assignment.specs.Counts.{none_countable}
use Rattle.solver.proofs.fill.fill.Goals as goal

pub fill_counted-requires-clause-countable : goal.fill_counted-requires-clause-countable
fill_counted-requires-clause-countable c = rw c.new.ensures (none_countable _ (most_few c.args.on.now.ready _ _ c.requires.count_bound))
