-- `finish_result` gives the numbers of the answer of the record that the memory stands for. Assumes nothing.
use Rattle.call_numbers.proofs.Exports.{finishes}
use Rattle.call_numbers.proofs.job_numbers.finish_result.Goals as goal

pub returns : goal.returns
returns c =
    let n = c.into.ensures in
    finishes _ _ c.from-held.ensures c.finish-a.ensures n.0 n.1
