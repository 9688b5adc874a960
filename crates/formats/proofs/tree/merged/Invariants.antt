-- `merged` meets its contract: the components that the loop has passed are renamed, the others are as they were. Assumes nothing.
use Rattle.std.proofs.Common.{cond, eqb}
use Rattle.foundations.specs.Changed.{Changed}
use Rattle.formats.proofs.tree.merged.Given as goal

abbrev pub invariant-loop-y : goal.invariant-loop-y
invariant-loop-y l = Changed l.y-index (λ x v. cond (eqb v l.from) l.to v) l.fn.l l.y-items
