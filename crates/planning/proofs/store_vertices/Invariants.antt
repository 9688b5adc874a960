-- `store_vertices` meets its contract. Assumes nothing.
use Prim.Native.Nat.{◌+◌, ◌≤◌}
use mathlib.Core.Path.{◌≡◌}
use Rattle.model.specs.Limits.{vertex_limit}
use Rattle.model.specs.Tree.{count}
use Rattle.plan.specs.Plan.{plan_rows}
use Rattle.planning.specs.Rows.{VerticesHere}
use Rattle.planning.proofs.store_vertices.Given as goal

abbrev pub invariant-loop-v : goal.invariant-loop-v
invariant-loop-v l = (l.n ≡ count l.s) × (l.n ≤ vertex_limit) × (l.first + vertex_limit ≤ plan_rows) × VerticesHere l.s l.first l.initial.plan l.plan l.v
