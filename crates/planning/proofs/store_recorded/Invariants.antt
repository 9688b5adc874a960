-- `store_recorded` meets its contract. Assumes nothing.
use Rattle.model.specs.Limits.{vertex_limit}
use Rattle.planning.specs.Rows.{RecordedHalf}
use Rattle.model.specs.Tree.{count}
use Prim.Native.Nat.{◌≤◌}
use mathlib.Core.Path.{◌≡◌}
use Rattle.planning.proofs.store_recorded.Given as goal

abbrev pub invariant-loop-u : goal.invariant-loop-u
invariant-loop-u l = (l.n ≡ count l.recorded) × (l.n ≤ vertex_limit) × RecordedHalf l.recorded l.initial.plan l.plan l.u
