-- `looks` adds the counts up. Assumes nothing.
use Rattle.std.proofs.Common.{◌≡◌, ◌*◌, ◌∙◌, take, arith}
use Rattle.std.proofs.lemmas.Iterator.{YieldsList-from_slice}
use Rattle.std.proofs.lemmas.Iterator.Consumers.{sum_from_yields_List, fits_from_yields_list}
use Rattle.foundations.specs.Sums.{sum, sum_most}
use Rattle.model.specs.Limits.{degree_limit, pair_limit}
use Rattle.assignment.specs.Matching.{at}
use Rattle.assignment.specs.Counts.{searches}
use Rattle.searches.specs.Steps.{sum_taken}
use Rattle.searches.proofs.pairs.looks.Goals as goal

pub sum-requires-clause-fits : goal.sum-requires-clause-fits
sum-requires-clause-fits c =
    let P = c.requires in
    let all = sum_most pair_limit (2 * degree_limit) (at c.args.counts.now) (λ i k. omega (arith, P.each i k, P.low)) in
    fits_from_yields_list _ _ (YieldsList-from_slice (take pair_limit c.args.counts.now) cc) (rw (sum_taken pair_limit c.args.counts.now (omega arith)) (omega (arith, all)))

pub returns : goal.returns
returns c =
    let s : c.sum.result ≡ sum pair_limit (at c.args.counts.now) = sum_from_yields_List _ _ c.sum.ensures.ran (YieldsList-from_slice (take pair_limit c.args.counts.now) cc) ∙ sum_taken pair_limit c.args.counts.now (omega arith) in
    (s, let m = sum_most pair_limit (searches c.args.counts.now) (at c.args.counts.now) (λ i k. c.requires.each i k) in omega arith)
