-- `Records::are_labels_known` meets its contract. Assumes nothing.
use Rattle.model.specs.Tree.{labels_known}
use Rattle.formats.proofs.places.Records.are_labels_known.Goals as goal

pub returns : goal.returns
unfolding labels_known
returns c = rw (c.vertex_labels_known-a.ensures, c.edge_labels_known-b.ensures)
