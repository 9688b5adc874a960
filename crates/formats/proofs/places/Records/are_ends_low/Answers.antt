-- `Records::are_ends_low` meets its contract. Assumes nothing.
use Rattle.std.proofs.Common.{refl, rules}
use Rattle.foundations.specs.Ranges.{every_from_all}
use Rattle.model.specs.Tree.{ends_low}
use Rattle.formats.proofs.places.Records.are_ends_low.Goals as goal

pub returns : goal.returns
unfolding ends_low
returns c = every_from_all _ _ _ _ c.all.ensures.ran refl (λ x b q k. search rules)
