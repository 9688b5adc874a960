-- `Records::vertices_marked` meets its contract: the test is gathered over the vertices. Assumes nothing.
use Rattle.std.proofs.Common.{◌≡◌}
use Rattle.foundations.specs.Lists.{every}
use Rattle.model.specs.Bytes.{is_mark}
use Rattle.model.specs.Tree.{vertex_mark_of, vertex_start}
use Rattle.formats.proofs.places.Records.vertices_marked.Given as goal

abbrev pub invariant-loop-v : goal.invariant-loop-v
invariant-loop-v l = l.ok ≡ every (λ x. is_mark l.self.bytes.now (vertex_start l.self.bytes.now x) (vertex_mark_of l.self.bytes.now)) l.v
