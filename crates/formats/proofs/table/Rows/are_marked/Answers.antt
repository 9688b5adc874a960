-- `Rows::are_marked` meets its contract. Assumes nothing.
use Rattle.std.proofs.Common.{refl, rules}
use Rattle.foundations.specs.Ranges.{every_from_all}
use Rattle.formats.proofs.table.Rows.are_marked.Goals as goal

pub returns : goal.returns
returns c = every_from_all _ _ _ _ c.all.ensures.ran refl (λ x b q k. search rules)
