-- `Records::is_marked` meets its contract. Assumes nothing.
use Rattle.model.specs.Tree.{marked}
use Rattle.formats.proofs.places.Records.is_marked.Goals as goal

pub returns : goal.returns
unfolding marked
returns c = rw (c.is_mark-a.ensures, c.vertices_marked-b.ensures, c.edges_marked-c.ensures)
