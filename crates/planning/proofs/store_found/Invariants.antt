-- `store_found` meets its contract. Assumes nothing.
use Rattle.model.specs.Limits.{vertex_limit}
use Rattle.planning.specs.Rows.{FoundHalf}
use Rattle.model.specs.Tree.{count}
use Prim.Native.Nat.{◌≤◌}
use mathlib.Core.Path.{◌≡◌}
use Rattle.planning.proofs.store_found.Given as goal

abbrev pub invariant-loop-v : goal.invariant-loop-v
invariant-loop-v l = (l.m ≡ count l.found) × (l.m ≤ vertex_limit) × FoundHalf l.found l.initial.plan l.plan l.v
