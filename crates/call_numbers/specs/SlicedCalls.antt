-- A job in slices through the exported calls, over undisturbed memory.
use Rattle.std.specs.Prelude.{◌≡◌, List, ℕ, ◌+◌, take, ℤ}
use Rattle.model.specs.declared.JobRecord.{JobRecord}
use Rattle.model.specs.Order.{subproblems}
use Rattle.model.specs.Jobs.{start_item}
use Rattle.jobs.specs.Slices.{Sliced}
use Rattle.answer_numbers.specs.declared.job_numbers.JobMemory.{JobMemory}
use Rattle.answer_numbers.specs.Memory.{record_of}
use Rattle.call_numbers.specs.Exported.{Starts, Advances}

-- A start that is not refused, then advances of these budgets together. Each is lent the record as the call before left it, and a list that begins
-- with the n(3m - 2) numbers that the call before left; what lies behind may be another in each call, longer or shorter. `left` is the list as the last
-- call left it.
pub data CallsMade (table r f : List ℕ) : ℕ → JobMemory → List ℤ → Type 0 where
  started : {x x' : JobMemory} {work : List ℤ} → Starts x table r f work x' 0 → CallsMade table r f 0 x' work
  advanced : {sum b refusal solved : ℕ} {x x' : JobMemory} {left lent work' : List ℤ} → CallsMade table r f sum x left → take (subproblems r f) lent ≡ take (subproblems r f) left → Advances x table r f b lent x' work' refusal solved
      → CallsMade table r f (sum + b) x' work'

-- the records that the memory stands for go through a job in slices
pub record AsJob (table r f : List ℕ) (sum : ℕ) (x : JobMemory) (left : List ℤ) : Type 0 where
  pub first : JobRecord
  pub work : List ℤ
  pub passes : start_item table r f work ≡ 0
  pub chain : Sliced table r f first work sum (record_of x) left
