-- `advance_numbers` gives the memory that the core's answer leaves and the numbers of that answer. Assumes nothing.
use Rattle.call_numbers.proofs.Exports.{advances}
use Rattle.call_numbers.proofs.job_numbers.advance_numbers.Goals as goal

pub returns : goal.returns
returns c =
    let a = c.args in
    let e = c.advance_core-out.ensures in
    let n = c.from-result.ensures in
    advances a.job a.table.now a.recorded.now a.found.now a.work.now a.budget
    c.from-held.result c.advance_core-out.result c.from-result.result.refusal c.from-result.result.count c.memory_after-left.result _
    c.from-held.ensures e n.0 n.1 c.memory_after-left.ensures
