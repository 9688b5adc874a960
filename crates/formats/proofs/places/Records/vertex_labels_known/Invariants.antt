-- `Records::vertex_labels_known` meets its contract: the test is gathered over the vertices. Assumes nothing.
use Rattle.std.proofs.Common.{◌≡◌, ltb}
use Rattle.foundations.specs.Lists.{every}
use Rattle.model.specs.Tree.{vertex_label}
use Rattle.formats.proofs.places.Records.vertex_labels_known.Given as goal

abbrev pub invariant-loop-v : goal.invariant-loop-v
invariant-loop-v l = l.ok ≡ every (λ x. ltb (vertex_label l.self.bytes.now x) l.labels) l.v
