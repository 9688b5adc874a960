-- `starts` meets its contract. Assumes nothing.
use Rattle.model.specs.Tree.{count}
use Rattle.planning.specs.Making.{Starts}
use mathlib.Core.Path.{◌≡◌}
use Rattle.planning.proofs.starts.Given as goal

abbrev pub invariant-loop-v : goal.invariant-loop-v
invariant-loop-v l = (l.n ≡ count l.found) × Starts l.found l.v l.s
