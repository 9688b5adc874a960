-- The caller's record of a job, whose `idle` is a number so that any bytes may stand there: the record that it stands for, and what a start and an
-- advance leave in it.
use Rattle.std.specs.Prelude.{not, cond, List, ℕ, eqb, ℤ}
use Rattle.model.specs.declared.JobRecord.{JobRecord}
use Rattle.model.specs.Jobs.{start_item, advance_item, start_of, advance_of}
use Rattle.answer_numbers.specs.declared.job_numbers.JobMemory.{JobMemory}

-- 0 says that the record is not idle, any other number that it is
unfoldable pub record_of : JobMemory → JobRecord
record_of x = record { idle = not (eqb x.idle 0); n = x.n; m = x.m; position = x.position; total = x.total }

unfoldable pub memory_of : JobRecord → JobMemory
memory_of j = record { idle = cond j.idle 1 0; n = j.n; m = j.m; position = j.position; total = j.total }

-- what a call with this item leaves: the old memory as it was where an item applies, also its `idle` number, else the new record
unfoldable pub memory_after : ℕ → JobMemory → JobRecord → JobMemory
memory_after item x j = cond (eqb item 0) (memory_of j) x

unfoldable pub start_memory : JobMemory → List ℕ → List ℕ → List ℕ → List ℤ → JobMemory
start_memory x table recorded found work = memory_after (start_item table recorded found work) x (start_of (record_of x) table recorded found work).job

unfoldable pub advance_memory : JobMemory → List ℕ → List ℕ → List ℕ → ℕ → List ℤ → JobMemory
advance_memory x table recorded found budget work =
    memory_after (advance_item (record_of x) table recorded found work) x (advance_of (record_of x) table recorded found budget work).job
