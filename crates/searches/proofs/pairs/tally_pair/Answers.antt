-- `tally_pair` fills the pair's subproblems into fresh counts. Assumes nothing.
use Rattle.std.proofs.Common.{◌≡◌, ◌∙◌, length, arith}
use Rattle.model.specs.Graph.{neighbours}
use Rattle.model.specs.Order.{children}
use Rattle.plan.specs.Pairs.{pair_low, children_is, degree_is}
use Rattle.assignment.specs.Counts.{none_countable}
use Rattle.solver.specs.Bound.{most_few}
use Rattle.searches.specs.Steps.{pair_counts, tally_room, tally_next}
use Rattle.searches.proofs.pairs.tally_pair.Goals as goal

pub child_count-k-requires : goal.child_count-k-requires
child_count-k-requires c = (pair_low c.args.on.now.ready c.requires.pair_run.pair).0

pub degree-l-requires : goal.degree-l-requires
degree-l-requires c = (pair_low c.args.on.now.ready c.requires.pair_run.pair).1

pub fill_counted-requires-clause-countable : goal.fill_counted-requires-clause-countable
fill_counted-requires-clause-countable c =
    let l : c.degree-l.result ≡ length (neighbours c.args.on.now.found.now c.args.v) = c.degree-l.ensures ∙ degree_is c.args.on.now.ready c.requires.pair_run.pair in
    let h = c.requires.pair_run.enough in
    rw c.new-scratch.ensures (none_countable _ (most_few c.args.on.now.ready _ _ (omega arith)))

pub looks-requires : goal.looks-requires
looks-requires c =
    let l : c.degree-l.result ≡ length (neighbours c.args.on.now.found.now c.args.v) = c.degree-l.ensures ∙ degree_is c.args.on.now.ready c.requires.pair_run.pair in
    (pair_counts c.args.on.now.ready c.requires.pair_run _ (rw (l, c.new-scratch.ensures) at c.fill_counted.ensures.1)).1

pub joined-requires : goal.joined-requires
joined-requires c =
    let N = c.args.on.now.ready in
    let P = c.requires.pair_run in
    let k : c.child_count-k.result ≡ length (children c.args.on.now.recorded.now c.args.u) = c.child_count-k.ensures ∙ children_is N P.pair in
    let l : c.degree-l.result ≡ length (neighbours c.args.on.now.found.now c.args.v) = c.degree-l.ensures ∙ degree_is N P.pair in
    let e = (pair_counts N P _ (rw (l, c.new-scratch.ensures) at c.fill_counted.ensures.1)).0 in
    tally_room N P c.requires.tallied e (rw (k, l)) c.looks.ensures.1

pub returns : goal.returns
returns c =
    let N = c.args.on.now.ready in
    let P = c.requires.pair_run in
    let k : c.child_count-k.result ≡ length (children c.args.on.now.recorded.now c.args.u) = c.child_count-k.ensures ∙ children_is N P.pair in
    let l : c.degree-l.result ≡ length (neighbours c.args.on.now.found.now c.args.v) = c.degree-l.ensures ∙ degree_is N P.pair in
    let e = (pair_counts N P _ (rw (l, c.new-scratch.ensures) at c.fill_counted.ensures.1)).0 in
    let j = c.joined.ensures in
    (rw l at c.fill_counted.ensures.0, tally_next N P c.requires.tallied e (rw (k, l)) c.looks.ensures.1 j.0 j.1 j.2 j.3 j.4 j.5)
