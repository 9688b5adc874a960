-- `with_serials` meets its contract. Assumes nothing.
use mathlib.Core.Path.{◌∙◌}
use Rattle.model.specs.Tree.{with_serials}
use Rattle.formats.proofs.places.with_serials.Goals as goal

pub returns : goal.returns
unfolding with_serials
returns c = c.is_mark.ensures ∙ rw c.tree_head_length.ensures
