-- `Tree::serials` meets its contract. Assumes nothing.
use Prim.Native.Nat.{◌≤◌}
use Rattle.model.specs.Limits.{vertex_limit}
use Rattle.formats.specs.Serials.{SerialsTo}
use Rattle.formats.proofs.tree.Tree.serials.Given as goal

abbrev pub invariant-loop-v : goal.invariant-loop-v
invariant-loop-v l = (l.self.n ≤ vertex_limit) × SerialsTo l.self.bytes.now l.v l.t
