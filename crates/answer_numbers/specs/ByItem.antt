-- What goes by an item, and with it the caller's record after a call: the old one where an item applies, else the new one. Assumes nothing.
use Rattle.std.specs.Prelude.{◌≡◌, refl, ◌≢◌, Bool, true, false, not, cond, ℕ, eqb}
use Rattle.std.proofs.Common.{ap, eq-eqb, ne_eqb}
use Rattle.model.specs.declared.JobRecord.{JobRecord}
use Rattle.answer_numbers.specs.declared.job_numbers.JobMemory.{JobMemory}
use Rattle.answer_numbers.specs.Memory.{record_of, memory_of, memory_after}

-- what goes by an item: where none applies, and where one does
pub where_none : {A : Type 0} (k : ℕ) (x y : A) → k ≡ 0 → cond (eqb k 0) x y ≡ x
where_none k x y e = rw (eq-eqb k 0 e)

pub where_item : {A : Type 0} (k : ℕ) (x y : A) → k ≢ 0 → cond (eqb k 0) x y ≡ y
where_item k x y n = rw (ne_eqb k 0 n)

idle_back : (b : Bool) → not (eqb (cond b 1 0) 0) ≡ b
idle_back true = refl
idle_back false = refl

-- a record comes back from its memory
pub record_back : (j : JobRecord) → record_of (memory_of j) ≡ j
unfolding record_of memory_of
record_back j = ap (λ (b : Bool). record { idle = b; n = j.n; m = j.m; position = j.position; total = j.total }) (idle_back j.idle)

pub after_refused : (k : ℕ) (x : JobMemory) (j : JobRecord) → k ≢ 0 → memory_after k x j ≡ x
unfolding memory_after
after_refused k x j = where_item k (memory_of j) x

pub after_accepted : (k : ℕ) (x : JobMemory) (j : JobRecord) → k ≡ 0 → memory_after k x j ≡ memory_of j
unfolding memory_after
after_accepted k x j = where_none k (memory_of j) x
