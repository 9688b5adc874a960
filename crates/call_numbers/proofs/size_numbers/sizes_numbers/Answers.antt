-- `sizes_numbers` gives the numbers of the answer of `sizes`. Assumes nothing.
use Rattle.call_numbers.proofs.Exports.{sizes_numbers}
use Rattle.call_numbers.proofs.size_numbers.sizes_numbers.Goals as goal

pub returns : goal.returns
returns c =
    let n = c.into.ensures in
    sizes_numbers c.sizes-a.ensures n.0 n.1 n.2 n.3
