-- `start_numbers` gives the memory that the core's answer leaves and the number of that answer. Assumes nothing.
use Rattle.call_numbers.proofs.Exports.{starts}
use Rattle.call_numbers.proofs.job_numbers.start_numbers.Goals as goal

pub returns : goal.returns
returns c =
    let a = c.args in
    starts a.job a.table.now a.recorded.now a.found.now a.work.now
    c.from-held.result c.start_core-out.result c.start_number-refusal.result c.memory_after-left.result
    c.from-held.ensures c.start_core-out.ensures c.start_number-refusal.ensures c.memory_after-left.ensures
