-- `plan_recorded` meets its contract. Assumes nothing.
use Rattle.planning.specs.Rows.{order_different, recorded_read, recorded_made}
use Rattle.planning.proofs.plan_recorded.Goals as goal

pub places-at-requires : goal.places-at-requires
places-at-requires c = order_different c.requires.sound c.neighbour_table-neighbours.ensures c.postorder-o.ensures

pub store_recorded-requires : goal.store_recorded-requires
store_recorded-requires c = record { plan_len = c.requires.plan_len; recorded_read = recorded_read c.requires.sound c.neighbour_table-neighbours.ensures c.postorder-o.ensures _ _ c.edge_table.ensures c.places-at.ensures }

pub returns : goal.returns
returns c = recorded_made c.store_recorded.ensures c.store_vertices.ensures
