-- `vertex_term` meets its contract. Assumes nothing.
use Rattle.std.proofs.Common.{refl}
use Rattle.foundations.specs.Machine.{Same}
use Rattle.mappings.specs.WeighLaws.{inside, vertex_none, vertex_some}
use Rattle.plan.specs.Pairs.{weighable, pair_weighs}
use borrow.Author.Rules.{rules}
use Rattle.mappings.proofs.weigh.vertex_term.Goals as goal

pub returns-then-v : goal.returns-then-v
returns-then-v c = vertex_none _ _ _ _ c.requires.ground c.args.u _ c.requires.u_bound refl c.if-v.true

pub vertex_pair-requires : goal.vertex_pair-requires
vertex_pair-requires c = weighable c.args.on.now.ready c.requires.u_bound (inside _ _ _ _ c.requires.ground c.args.u _ c.requires.u_bound refl c.if-v.false)

pub returns : goal.returns
returns c =
    let b : Same c.vertex_pair.result = search rules in
    rw b (vertex_some _ _ _ _ c.requires.ground c.args.u _ c.vertex_pair.result c.requires.u_bound refl c.if-v.false (pair_weighs c.args.on.now.ready c.requires.u_bound (inside _ _ _ _ c.requires.ground c.args.u _ c.requires.u_bound refl c.if-v.false) c.vertex_pair.ensures))
