-- `Tree::vertex_label` meets its contract. Assumes nothing.
use Rattle.formats.proofs.tree.Tree.vertex_label.Goals as goal

pub returns : goal.returns
returns c = rw (c.vertex_start.ensures.0, c.records.ensures.bytes)
