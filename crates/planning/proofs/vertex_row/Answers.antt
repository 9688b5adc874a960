-- `vertex_row` meets its contract. Assumes nothing.
use mathlib.Core.Path.{refl}
use lib.ListN.{replicate}
use Rattle.model.specs.Limits.{degree_limit}
use Rattle.planning.specs.Rows.{vertex_row_lem}
use Rattle.planning.proofs.vertex_row.Goals as goal

pub returns : goal.returns
returns c = rw c.put_word.ensures (vertex_row_lem (replicate degree_limit 0) _ _ refl)
