-- `total_of` meets its contract. Assumes nothing.
use Rattle.std.proofs.Common.{arith, take, ◌∙◌}
use Rattle.std.proofs.lemmas.Iterator.{YieldsList-from_slice}
use Rattle.std.proofs.lemmas.Iterator.Consumers.{sum_from_yields_List, fits_from_yields_list}
use Rattle.record_rules.specs.Numbers.{total_taken}
use Rattle.record_rules.proofs.numbers.total_of.Goals as goal

pub sum-requires-clause-fits : goal.sum-requires-clause-fits
sum-requires-clause-fits c =
    let t = total_taken c.requires c.told-numbers in
    let few = c.requires.few in
    fits_from_yields_list c.iter.result _ (YieldsList-from_slice (take c.args.n c.args.numbers.now) c.iter.ensures.rest) (omega (arith, t.small))

pub returns : goal.returns
returns c =
    let t = total_taken c.requires c.told-numbers in
    let e = sum_from_yields_List c.iter.result _ c.sum.ensures.ran (YieldsList-from_slice (take c.args.n c.args.numbers.now) c.iter.ensures.rest) in
    (e ∙ t.is, omega (arith, e, t.small))
