-- `postorder` is the visit of vertex 0, which is an accepted tree's postorder. Assumes nothing.
use mathlib.Core.List.{[]}
use Rattle.foundations.specs.Lists.{holds_none}
use Rattle.model.specs.Limits.{vertex_limit, no_vertex}
use Rattle.trees.specs.Visits.{order_of}
use Rattle.trees.proofs.postorder.Goals as goal

pub returns : goal.returns
returns c = order_of _ _ _ (c.visit.ensures [] (holds_none vertex_limit no_vertex))
