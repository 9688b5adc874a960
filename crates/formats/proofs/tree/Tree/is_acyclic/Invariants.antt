-- `Tree::is_acyclic` meets its contract. Assumes nothing.
use Rattle.model.specs.Limits.{vertex_limit}
use Rattle.model.specs.Edges.{component}
use Rattle.model.specs.Tree.{closes}
use mathlib.Core.Bool.{not, true}
use Rattle.foundations.specs.Lists.{every, tab}
use Rattle.model.specs.Tree.{end_a, end_b}
use mathlib.Core.Path.{◌≡◌}
use Rattle.formats.proofs.tree.Tree.is_acyclic.Given as goal

abbrev pub invariant-loop-j : goal.invariant-loop-j
invariant-loop-j l = (every (λ i. not (closes l.self.bytes.now l.self.n i)) l.j ≡ true) × (l.l ≡ tab (component (end_a l.self.bytes.now l.self.n) (end_b l.self.bytes.now l.self.n) l.j) vertex_limit)
