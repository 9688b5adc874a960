-- `vertices_ok` meets its contract. Assumes nothing.
use Rattle.std.proofs.Common.{refl, rules}
use Rattle.foundations.specs.Ranges.{every_from_all}
use Rattle.mappings.proofs.vertices.vertices_ok.Goals as goal

pub returns : goal.returns
returns c = rw (← c.n-n.ensures.value) (every_from_all _ _ _ _ c.all.ensures.ran refl (λ x b q k. search rules))
