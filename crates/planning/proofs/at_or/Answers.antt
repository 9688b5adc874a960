-- `at_or` meets its contract. Assumes nothing.
use Rattle.std.proofs.Common.{arith}
use Rattle.std.proofs.lemmas.Grind.{common_steps}
use Rattle.std.proofs.lemmas.Option.{gets}
use Rattle.planning.specs.Parents.{at_or}
use Rattle.planning.proofs.at_or.Goals as goal

pub returns : goal.returns
unfolding at_or
returns c = grind (arith, common_steps, gets)
