-- What the exported calls that solve promise, as equations on the numbers that a C program is given and on what is left in the memory that it lent. In
-- each the first number is the first item that applies, 0 for none; where one applies the other number, if there is one, is 0 and nothing has changed.
-- The promises of `pensummer_fresh` and `pensummer_check` are one equation each, which stands there (crates/pensummer); that of `pensummer_sizes` is
-- `SizesNumbers` of its four numbers (crates/model, `Sizes`).
use Rattle.std.specs.Prelude.{◌≡◌, ◌≢◌, cond, List, ◌++◌, ℕ, ◌<◌, eqb, take, drop, ℤ, pos}
use Rattle.model.specs.declared.JobRecord.{JobRecord}
use Rattle.model.specs.Tree.{count}
use Rattle.model.specs.Order.{subproblems}
use Rattle.model.specs.Calls.{match_item}
use Rattle.model.specs.Mapping.{IsMapping, Heaviest, weight}
use Rattle.model.specs.Values.{values, value_at, answer}
use Rattle.model.specs.Match.{MatchLeaves}
use Rattle.model.specs.Jobs.{start_item, advance_item, finish_item, advance_work, advance_solves}
use Rattle.model.specs.Certificate.{certificate_length, weight_in, mapping_in, value_in, check_of}
use Rattle.model.specs.Writing.{write_item}
use Rattle.answer_numbers.specs.declared.job_numbers.JobMemory.{JobMemory}
use Rattle.answer_numbers.specs.Memory.{record_of, start_memory, advance_memory}

-- ---- the match in one call: the answer's weight

unfoldable pub match_weight : List ℕ → List ℕ → List ℕ → List ℤ → List ℕ → ℤ
match_weight table recorded found work mapping = cond (eqb (match_item table recorded found work mapping) 0) (answer table recorded found) (pos 0)

pub record Matches (table recorded found : List ℕ) (work : List ℤ) (mapping : List ℕ) (work' : List ℤ) (mapping' : List ℕ) (refusal : ℕ) (w : ℤ) : Type 0 where
  pub number : refusal ≡ match_item table recorded found work mapping
  pub weighs : w ≡ match_weight table recorded found work mapping
  pub leaves : MatchLeaves refusal table recorded found work mapping work' mapping'

-- ---- start

pub record Starts (job : JobMemory) (table recorded found : List ℕ) (work : List ℤ) (job' : JobMemory) (refusal : ℕ) : Type 0 where
  pub number : refusal ≡ start_item table recorded found work
  pub leaves : job' ≡ start_memory job table recorded found work

-- ---- advance: the smaller of the budget and what is left

pub record Advances (job : JobMemory) (table recorded found : List ℕ) (budget : ℕ) (work : List ℤ) (job' : JobMemory) (work' : List ℤ) (refusal solved : ℕ) : Type 0 where
  pub number : refusal ≡ advance_item (record_of job) table recorded found work
  pub counts : solved ≡ advance_solves (record_of job) table recorded found budget work
  pub leaves : job' ≡ advance_memory job table recorded found budget work
  pub fills : work' ≡ advance_work (record_of job) table recorded found budget work

-- ---- finish: the weight of the mapping left, a heaviest one where the work numbers are the values. The record and the work numbers are only read.

unfoldable pub finish_weight : JobRecord → List ℕ → List ℕ → List ℕ → List ℤ → List ℕ → List ℕ → ℤ
finish_weight j table recorded found work mapping mapping' = cond (eqb (finish_item j table recorded found work mapping) 0) (weight table recorded found (take (count recorded) mapping')) (pos 0)

pub record Finishes (j : JobRecord) (table recorded found : List ℕ) (work : List ℤ) (mapping mapping' : List ℕ) (refusal : ℕ) (w : ℤ) : Type 0 where
  pub number : refusal ≡ finish_item j table recorded found work mapping
  pub weighs : w ≡ finish_weight j table recorded found work mapping mapping'
  pub mapping_kept : refusal ≢ 0 → mapping' ≡ mapping
  pub rest : refusal ≡ 0 → mapping' ≡ take (count recorded) mapping' ++ drop (count recorded) mapping
  pub legal : refusal ≡ 0 → IsMapping table recorded found (take (count recorded) mapping')
  pub heaviest : refusal ≡ 0 → take (subproblems recorded found) work ≡ values table recorded found → Heaviest table recorded found (take (count recorded) mapping')
  pub answered : refusal ≡ 0 → take (subproblems recorded found) work ≡ values table recorded found → w ≡ answer table recorded found

-- ---- writing: the certificate's length in bytes; so many in the front of the buffer are a certificate that the check accepts, with a heaviest
-- mapping, the answer as its weight and the value of each subproblem

unfoldable pub write_length : List ℕ → List ℕ → List ℕ → List ℤ → List ℕ → ℕ
write_length table recorded found work certificate = cond (eqb (write_item table recorded found work certificate) 0) (certificate_length recorded found) 0

pub record Writes (table recorded found : List ℕ) (work : List ℤ) (certificate : List ℕ) (work' : List ℤ) (certificate' : List ℕ) (refusal : ℕ) (long : ℕ) : Type 0 where
  pub number : refusal ≡ write_item table recorded found work certificate
  pub measures : long ≡ write_length table recorded found work certificate
  pub work_kept : refusal ≢ 0 → work' ≡ work
  pub certificate_kept : refusal ≢ 0 → certificate' ≡ certificate
  pub values_left : refusal ≡ 0 → work' ≡ values table recorded found ++ drop (subproblems recorded found) work
  pub rest : refusal ≡ 0 → certificate' ≡ take long certificate' ++ drop long certificate
  pub accepted : refusal ≡ 0 → check_of table recorded found (take long certificate') ≡ 0
  pub values_in : refusal ≡ 0 → (k : ℕ) → k < subproblems recorded found → value_in recorded found (take long certificate') k ≡ value_at table recorded found k
  pub weight_in_lem : refusal ≡ 0 → weight_in (take long certificate') ≡ answer table recorded found
  pub heaviest_in : refusal ≡ 0 → Heaviest table recorded found (mapping_in recorded (take long certificate'))
