-- `match_numbers` gives the numbers of the answer of `match_trees`. Assumes nothing.
use Rattle.call_numbers.proofs.Exports.{exported}
use Rattle.call_numbers.proofs.match_numbers.Goals as goal

pub returns : goal.returns
returns c =
    let n = c.into.ensures in
    exported c.match_trees-a.ensures n.0 n.1
