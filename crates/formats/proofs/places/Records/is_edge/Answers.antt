-- `Records::is_edge` meets its contract. Assumes nothing.
use Rattle.formats.proofs.places.Records.is_edge.Goals as goal

pub returns : goal.returns
returns c = rw (← c.edge_start.ensures.0) c.is_mark.ensures
