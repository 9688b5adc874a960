-- `plan_found` meets its contract. Assumes nothing.
use Rattle.planning.specs.Rows.{found_made}
use Rattle.planning.proofs.plan_found.Goals as goal

pub returns : goal.returns
returns c = found_made c.store_found.ensures c.store_vertices.ensures
