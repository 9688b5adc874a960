-- `own_components` meets its contract. Assumes nothing.
use borrow.Author.Rules.{rules}
use Rattle.foundations.specs.Ranges.{tab_from_fn}
use Rattle.formats.proofs.tree.own_components.Goals as goal

pub returns : goal.returns
returns c = tab_from_fn (λ x. x) c.from_fn.ensures.items (λ x y q l k. search rules)
