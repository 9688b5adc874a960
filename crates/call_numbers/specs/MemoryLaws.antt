-- Laws of the caller's record: it stands for the record that the definitions leave, and a call that is refused leaves it bit for bit. Assumes
-- nothing.
use Rattle.std.specs.Prelude.{◌≡◌, ◌≢◌, List, ℕ, ℤ}
use Rattle.std.proofs.Common.{sym, ap, ◌∙◌, ⊎_elim}
use Rattle.foundations.specs.Tests.{same?}
use Rattle.model.specs.declared.JobRecord.{JobRecord}
use Rattle.model.specs.Jobs.{start_item, advance_item, start_of, advance_of}
use Rattle.jobs.proofs.Theorems.{start_keeps, advance_keeps}
use Rattle.answer_numbers.specs.declared.job_numbers.JobMemory.{JobMemory}
use Rattle.answer_numbers.specs.Memory.{record_of, memory_after, start_memory, advance_memory}
use Rattle.answer_numbers.specs.ByItem.{record_back, after_refused, after_accepted}

-- where a refused call keeps the record, the memory stands for the record after the call either way
after_record : (k : ℕ) (x : JobMemory) (j : JobRecord) → (k ≢ 0 → j ≡ record_of x) → record_of (memory_after k x j) ≡ j
after_record k x j keeps = ⊎_elim (λ e. ap record_of (after_accepted k x j e) ∙ record_back j) (λ n. ap record_of (after_refused k x j n) ∙ sym (keeps n)) (same? k 0)

module _ (x : JobMemory) (table r f : List ℕ) (work : List ℤ) where
  pub start_memory_kept : start_item table r f work ≢ 0 → start_memory x table r f work ≡ x
  unfolding start_memory
  start_memory_kept n = after_refused (start_item table r f work) x (start_of (record_of x) table r f work).job n

  pub start_memory_record : record_of (start_memory x table r f work) ≡ (start_of (record_of x) table r f work).job
  unfolding start_memory
  start_memory_record = after_record (start_item table r f work) x (start_of (record_of x) table r f work).job (start_keeps (record_of x) table r f work)

  module _ (b : ℕ) where
    pub advance_memory_kept : advance_item (record_of x) table r f work ≢ 0 → advance_memory x table r f b work ≡ x
    unfolding advance_memory
    advance_memory_kept n = after_refused (advance_item (record_of x) table r f work) x (advance_of (record_of x) table r f b work).job n

    pub advance_memory_record : record_of (advance_memory x table r f b work) ≡ (advance_of (record_of x) table r f b work).job
    unfolding advance_memory
    advance_memory_record = after_record (advance_item (record_of x) table r f work) x (advance_of (record_of x) table r f b work).job (λ n. (advance_keeps (record_of x) table r f work b n).0)
