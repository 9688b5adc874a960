-- A job in slices through the exported calls, over undisturbed memory: what follows from what start, advance and finish promise. Assumes nothing.
use Rattle.std.specs.Prelude.{◌≡◌, List, ◌++◌, ℕ, ◌+◌, ◌-◌, ◌≤◌, min, length, take, drop, ℤ}
use Rattle.std.proofs.Common.{sym, ap, ◌∙◌, subst}
use Rattle.model.specs.declared.JobRecord.{JobRecord}
use Rattle.model.specs.Tree.{count}
use Rattle.model.specs.Order.{subproblems}
use Rattle.model.specs.Mapping.{Heaviest}
use Rattle.model.specs.Values.{values, answer}
use Rattle.model.specs.Jobs.{advance_of, advance_work}
use Rattle.jobs.specs.Slices.{Sliced, begins, goes}
use Rattle.jobs.proofs.Theorems.{sliced_running, lent_slice, lent_job}
use Rattle.answer_numbers.specs.declared.job_numbers.JobMemory.{JobMemory}
use Rattle.answer_numbers.specs.Memory.{record_of}
use Rattle.call_numbers.specs.MemoryLaws.{start_memory_record, advance_memory_record}
use Rattle.call_numbers.specs.Exported.{Advances, Finishes}
use Rattle.call_numbers.specs.Numbers.{advance_solves_lem}
use Rattle.call_numbers.specs.SlicedCalls.{CallsMade, started, advanced, AsJob}

pub as_job : {table r f : List ℕ} {sum : ℕ} {x : JobMemory} {left : List ℤ} → CallsMade table r f sum x left → AsJob table r f sum x left
as_job {table} {r} {f} (started {x} {x'} {work} s) = record {
  first = record_of x;
  work = work;
  passes = sym s.number;
  chain = subst (λ (j : JobRecord). Sliced table r f (record_of x) work 0 j work) (sym (ap record_of s.leaves ∙ start_memory_record x table r f work)) begins;
}
as_job {table} {r} {f} (advanced {sum} {b} {refusal} {solved} {x} {x'} {left} {lent} {work'} c same a) =
    let J = as_job c in
    let j : (advance_of (record_of x) table r f b lent).job ≡ record_of x' = sym (ap record_of a.leaves ∙ advance_memory_record x table r f lent b) in
    record {
      first = J.first;
      work = J.work;
      passes = J.passes;
      chain =
          subst (λ (w : List ℤ). Sliced table r f J.first J.work (sum + b) (record_of x') w) (sym a.fills)
          (subst (λ (i : JobRecord). Sliced table r f J.first J.work (sum + b) i (advance_work (record_of x) table r f b lent)) j (goes J.chain b lent same));
    }

module _ {table r f : List ℕ} {sum : ℕ} {x : JobMemory} {left : List ℤ} (c : CallsMade table r f sum x left) (lent : List ℤ) (same : take (subproblems r f) lent ≡ take (subproblems r f) left) where
  J : AsJob table r f sum x left
  J = as_job c

  -- how far the budgets reach
  abbrev reached : ℕ
  reached = min sum (subproblems r f)

  here : x.position ≡ reached
  unfolding record_of
  here = (sliced_running table r f J.work J.passes J.first J.chain).here

  -- every advance is carried out, counts the smaller of its budget and what is left, and fills exactly those numbers of the list lent, with the values:
  -- those before are the values already, and those behind stay
  pub each_call : {b : ℕ} {x' : JobMemory} {work' : List ℤ} {refusal solved : ℕ} → Advances x table r f b lent x' work' refusal solved →
      (refusal ≡ 0)
      × (solved ≡ min b (subproblems r f - reached))
      × (take reached lent ≡ take reached (values table r f))
      × (work' ≡ take (reached + solved) (values table r f) ++ drop (reached + solved) lent)
  each_call {b} {x'} {work'} {refusal} {solved} a =
      let t = lent_slice table r f J.work J.passes J.first J.chain lent same b in
      let z : refusal ≡ 0 = a.number ∙ t.0 in
      let n : solved ≡ min b (subproblems r f - reached) = advance_solves_lem x table r f b lent x' work' refusal solved a z ∙ ap (λ (p : ℕ). min b (subproblems r f - p)) here in
      (z, n, t.2, a.fills ∙ t.3 ∙ ap (λ (k : ℕ). take (reached + k) (values table r f) ++ drop (reached + k) lent) (sym n))

  -- where the budgets reach the number of subproblems, a finish is carried out, leaves a heaviest mapping and gives the answer
  pub job_in_calls : subproblems r f ≤ sum → {mapping mapping' : List ℕ} {refusal : ℕ} {w : ℤ} → count r ≤ length mapping → Finishes (record_of x) table r f lent mapping mapping' refusal w →
      (refusal ≡ 0) × Heaviest table r f (take (count r) mapping') × (w ≡ answer table r f)
  job_in_calls l {mapping} {mapping'} {refusal} room e =
      let t = lent_job table r f J.work J.passes J.first J.chain lent same l mapping room in
      let z : refusal ≡ 0 = e.number ∙ t.0 in
      (z, e.heaviest z t.1, e.answered z t.1)
