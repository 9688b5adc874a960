-- `lend_count`: over a job in any slices the counts that its advances give back add up to the count of subproblems; before that something is left, and then
-- nothing. `lend_calls` says the same of the exported calls. Assumes nothing.
use Rattle.std.specs.Prelude.{◌≡◌, cond, List, ℕ, ◌+◌, ◌-◌, ◌≤◌, min, length, take, ltb, ℤ, Ok}
use Rattle.std.proofs.Common.{◌∙◌}
use Rattle.std.proofs.Math.Path.{ap}
use native.Mathlib.Omega.{arith}
use Rattle.model.specs.declared.JobRecord.{JobRecord}
use Rattle.model.specs.Tree.{count}
use Rattle.model.specs.Order.{subproblems}
use Rattle.model.specs.Jobs.{start_item, finish_item, advance_of, advance_count}
use Rattle.model.specs.Sizes.{SizesNumbers}
use Rattle.job_items.specs.Items.{start_none, start_passed}
use Rattle.jobs.specs.Slices.{Sliced, begins, goes, Running, running_lent, running_ends}
use Rattle.jobs.proofs.Theorems.{sliced_running, lent_slice}
use Rattle.answer_numbers.specs.declared.job_numbers.JobMemory.{JobMemory}
use Rattle.answer_numbers.specs.Memory.{record_of}
use Rattle.call_numbers.specs.Exported.{Advances, Finishes}
use Rattle.call_numbers.specs.SlicedCalls.{CallsMade, started, advanced}
use Rattle.call_numbers.proofs.JobInCalls.{as_job, each_call}
use Rattle.sizes.specs.Answers.{sizes_told}

-- a list that begins with the n(3m - 2) numbers that the last call left
abbrev pub Again : List ℕ → List ℕ → List ℤ → List ℤ → Type 0
Again r f lent left = take (subproblems r f) lent ≡ take (subproblems r f) left

-- the counts that the advances of a job give back, added up
unfoldable pub counted : {table r f : List ℕ} {j₀ : JobRecord} {work₀ : List ℤ} {sum : ℕ} {j : JobRecord} {left : List ℤ} → Sliced table r f j₀ work₀ sum j left → ℕ
counted begins = 0
counted {table} {r} {f} (goes {j = j} m b lent e) = counted m + advance_count (advance_of j table r f b lent).answer

-- and those of the exported calls
unfoldable pub solved_in : {table r f : List ℕ} {sum : ℕ} {x : JobMemory} {left : List ℤ} → CallsMade table r f sum x left → ℕ
solved_in (started s) = 0
solved_in (advanced {solved = k} m same a) = solved_in m + k

-- the number of a finish of a job that has counted so much of s subproblems: 17 as long as something is left, and then nothing but 18
abbrev pub finish_number : ℕ → ℕ → List ℕ → List ℕ → ℕ
finish_number s done r mapping = cond (ltb done s) 17 (cond (ltb (length mapping) (count r)) 18 0)

module _ {table r f : List ℕ} {work : List ℤ} (passes : start_item table r f work ≡ 0) {j₀ : JobRecord} where
  counted_is : {sum : ℕ} {j : JobRecord} {left : List ℤ} (m : Sliced table r f j₀ work sum j left) → counted m ≡ min sum (subproblems r f)
  unfolding counted
  counted_is begins = omega arith
  counted_is (goes {sum} {j} {left} m b lent e) =
      let c = ap advance_count (lent_slice table r f work passes j₀ m lent e b).1 in
      let i = counted_is m in
      omega arith

  ends : {sum : ℕ} {j : JobRecord} {left : List ℤ} → Sliced table r f j₀ work sum j left → (lent : List ℤ) → Again r f lent left → (mapping : List ℕ) → finish_item j table r f lent mapping ≡ finish_number (subproblems r f) (min sum (subproblems r f)) r mapping
  ends {sum} {j} {left} m lent same mapping =
      let given = (start_passed table r f work passes).0 in
      let R : Running table r f j₀.total (min sum (subproblems r f)) j lent = running_lent table r f given j₀.total (sliced_running table r f work passes j₀ m) lent same in
      running_ends table r f given j₀.total R mapping

solved_is : {table r f : List ℕ} {sum : ℕ} {x : JobMemory} {left : List ℤ} (m : CallsMade table r f sum x left) → solved_in m ≡ min sum (subproblems r f)
unfolding solved_in
solved_is (started a) = omega arith
solved_is (advanced {lent = lent} m same a) =
    let i = solved_is m in
    let e = (each_call m lent same a).1 in
    omega arith

-- Of a job m that was started and advanced with budgets that come to `sum`: its counts add up to `sum`, but to no more than s. Lent what it left, a further
-- advance is carried out and counts the smaller of its budget and what they leave of s, and a finish is refused by 17 exactly as long as they leave
-- something.
pub record CountLent {table r f : List ℕ} {j₀ : JobRecord} {work : List ℤ} {sum : ℕ} {j : JobRecord} {left : List ℤ} (s : ℕ) (m : Sliced table r f j₀ work sum j left) : Type 0 where
  pub sums : counted m ≡ min sum s
  pub advances : (lent : List ℤ) → Again r f lent left → (b : ℕ) → (advance_of j table r f b lent).answer ≡ Ok (min b (s - counted m))
  pub finishes : (lent : List ℤ) → Again r f lent left → (mapping : List ℕ) → finish_item j table r f lent mapping ≡ finish_number s (counted m) r mapping

-- the same of calls through the C interface
pub record CallsLent {table r f : List ℕ} {sum : ℕ} {x : JobMemory} {left : List ℤ} (s : ℕ) (m : CallsMade table r f sum x left) : Type 0 where
  pub sums : solved_in m ≡ min sum s
  pub advances : {lent : List ℤ} {b : ℕ} {x' : JobMemory} {work' : List ℤ} {k n : ℕ} → Again r f lent left → Advances x table r f b lent x' work' k n → (k ≡ 0) × (n ≡ min b (s - solved_in m))
  pub finishes : {lent : List ℤ} {mapping mapping' : List ℕ} {k : ℕ} {v : ℤ} → Again r f lent left → Finishes (record_of x) table r f lent mapping mapping' k v → k ≡ finish_number s (solved_in m) r mapping

-- it is enough that the start was lent the work numbers wanted
pub lend_count : {table r f : List ℕ} {refusal s w c : ℕ} → SizesNumbers table r f refusal s w c → refusal ≡ 0 → {work : List ℤ} → w ≤ length work
    → {j₀ : JobRecord} {sum : ℕ} {j : JobRecord} {left : List ℤ} (m : Sliced table r f j₀ work sum j left) → CountLent s m
lend_count {table} {r} {f} {refusal} {s} {w} {c} told given {work} l {j₀} {sum} {j} {left} m =
    let t = sizes_told told given in
    let N : s ≡ subproblems r f = t.count in
    let W : w ≡ subproblems r f = t.work in
    let passes = start_none table r f work t.passes (omega arith) in
    let i = counted_is passes m in
    let is : counted m ≡ min sum s = omega arith in
    record {
      sums = is;
      advances = λ lent same b.
          let k : min b (subproblems r f - min sum (subproblems r f)) ≡ min b (s - counted m) = omega arith in
          (lent_slice table r f work passes j₀ m lent same b).1 ∙ ap Ok k;
      finishes = λ lent same mapping. ends passes m lent same mapping ∙ rw (N, i);
    }

pub lend_calls : {table r f : List ℕ} {refusal s w c : ℕ} → SizesNumbers table r f refusal s w c → refusal ≡ 0 → {sum : ℕ} {x : JobMemory} {left : List ℤ} (m : CallsMade table r f sum x left) → CallsLent s m
lend_calls {table} {r} {f} {refusal} {s} {w} {c} told given {sum} {x} {left} m =
    let N : s ≡ subproblems r f = (sizes_told told given).count in
    let i = solved_is m in
    let J = as_job m in
    record {
      sums = omega arith;
      advances = λ {lent} same a. let e = each_call m lent same a in (e.0, let n = e.1 in omega arith);
      finishes = λ {lent} {mapping} same a. a.number ∙ ends J.passes J.chain lent same mapping ∙ rw (N, i);
    }
