-- `place_or` meets its contract. Assumes nothing.
use Rattle.std.proofs.Common.{arith}
use Rattle.std.proofs.lemmas.Grind.{common_steps}
use Rattle.std.proofs.lemmas.Option.{gets}
use Rattle.planning.specs.Making.{place_or}
use Rattle.planning.proofs.place_or.Goals as goal

pub returns : goal.returns
unfolding place_or
returns c = grind (arith, common_steps, gets)
