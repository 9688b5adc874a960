-- `Tree::do_serials_differ` meets its contract. Assumes nothing.
use mathlib.Core.Path.{sym, ◌∙◌}
use Rattle.trees.specs.Accepted.{whole, long_some}
use Rattle.formats.specs.Serials.{none_differ}
use native.Mathlib.Omega.{arith}
use Rattle.formats.proofs.tree.Tree.do_serials_differ.Goals as goal

pub with_serials-requires : goal.with_serials-requires
with_serials-requires c = omega (arith, long_some (whole c.args.self.now.ends))

pub returns-then-not-with_serials : goal.returns-then-not-with_serials
returns-then-not-with_serials c =
    let e = c.if-not-with_serials.true in rw e (sym (none_differ _ _ (sym c.with_serials.ensures ∙ e)))
