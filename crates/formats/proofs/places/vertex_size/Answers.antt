-- `vertex_size` meets its contract. Assumes nothing.
use mathlib.Core.Path.{sym, ◌∙◌}
use borrow.Author.Rules.{rules}
use Rattle.trees.specs.Accepted.{size_with, size_without}
use Rattle.formats.proofs.places.vertex_size.Goals as goal

pub returns-then-with_serials : goal.returns-then-with_serials
returns-then-with_serials c = rw (size_with _ (sym c.with_serials.ensures ∙ c.if-with_serials.true)) (search rules)

pub returns-else-with_serials : goal.returns-else-with_serials
returns-else-with_serials c = rw (size_without _ (sym c.with_serials.ensures ∙ c.if-with_serials.false)) (search rules)
