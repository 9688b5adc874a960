-- `is_mapped` meets its contract. Assumes nothing.
use mathlib.Core.Path.{refl}
use Rattle.model.specs.Mapping.{mapped}
use Rattle.mappings.proofs.vertices.is_mapped.Goals as goal

pub returns : goal.returns
unfolding mapped
returns c = refl
