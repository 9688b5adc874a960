-- `Records::ends_low_at` meets its contract. Assumes nothing.
use Rattle.formats.proofs.places.Records.ends_low_at.Goals as goal

pub returns : goal.returns
returns c = rw c.edge_start-at.ensures.0
