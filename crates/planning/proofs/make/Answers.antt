-- `make` meets its contract. Assumes nothing.
use Rattle.planning.specs.Rows.{planned}
use Rattle.planning.proofs.make.Goals as goal

pub returns : goal.returns
returns c = planned c.requires.sound.passed.ends.few c.plan_recorded.ensures c.plan_found.ensures
