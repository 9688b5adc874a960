-- `Tree::are_edges_few` meets its contract. Assumes nothing.
use Rattle.std.proofs.Common.{rules, leb, ap, ◌∙◌, ℕ, ◌-◌, get_or, arith}
use Rattle.foundations.specs.Lists.{every_ext, get_d_tab}
use Rattle.foundations.specs.Ranges.{every_from_front}
use Rattle.model.specs.Limits.{degree_limit, vertex_limit}
use Rattle.model.specs.Tree.{degree, few_edges}
use Rattle.formats.proofs.tree.Tree.are_edges_few.Goals as goal

pub returns : goal.returns
unfolding few_edges
returns c =
    let d = c.degrees-d in
    let deg : ℕ → ℕ = λ v. degree c.args.self.now.bytes.now c.args.self.now.n v (c.args.self.now.n - 1) in
    let few = c.args.self.now.ends.few in
    every_from_front (λ x. leb x degree_limit) _ _ _ c.all.ensures.ran c.args.self.now.n d.result c.iter.ensures.rest (omega arith) (λ x b q k. search rules)
    ∙ every_ext _ _ c.args.self.now.n (λ v l. ap (λ x. leb x degree_limit) (ap (λ y. get_or y v 0) d.ensures ∙ get_d_tab deg vertex_limit v 0 (omega arith)))
