-- `is_new` meets its contract. Assumes nothing.
use Rattle.std.proofs.Common.{refl, rules}
use Rattle.foundations.specs.Ranges.{every_from_all}
use Rattle.mappings.specs.Tested.{is_new}
use Rattle.mappings.proofs.vertices.is_new.Goals as goal

pub returns : goal.returns
unfolding is_new
returns c = every_from_all _ _ _ _ c.all.ensures.ran refl (λ x b q k. search rules)
