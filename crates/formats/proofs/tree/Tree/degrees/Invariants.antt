-- `Tree::degrees` meets its contract. Assumes nothing.
use mathlib.Core.Path.{◌≡◌}
use Rattle.foundations.specs.Lists.{tab}
use Rattle.model.specs.Limits.{vertex_limit}
use Rattle.model.specs.Tree.{degree}
use Rattle.formats.proofs.tree.Tree.degrees.Given as goal

abbrev pub invariant-loop-j : goal.invariant-loop-j
invariant-loop-j l = l.d ≡ tab (λ v. degree l.self.bytes.now l.self.n v l.j) vertex_limit
