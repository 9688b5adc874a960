-- `Tree::all_new` meets its contract. Assumes nothing.
use Rattle.std.proofs.Common.{refl, rules, ◌∙◌}
use Rattle.foundations.specs.Lists.{every_ext}
use Rattle.foundations.specs.Ranges.{every_from_all}
use Rattle.formats.specs.Serials.{new_in, new_is}
use Rattle.model.specs.Tree.{serials_differ}
use Rattle.formats.proofs.tree.Tree.all_new.Goals as goal

pub returns : goal.returns
unfolding serials_differ
returns c = every_from_all (new_in c.serials-known.result) _ _ _ c.all.ensures.ran refl (λ x b q k. search rules) ∙ every_ext _ _ c.args.self.now.n (new_is c.serials-known.ensures)
