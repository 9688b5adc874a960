-- The main theorems of jobs, over the definitions alone: the first item that applies (`start_refusal_lem`, `advance_refusal_lem`, `finish_refusal`), the job in slices
-- (`lent_slice` and `lent_job`, with `each_slice` and `sliced_job` for one list throughout), and finishing over any memory (`altered_finish`). Assumes
-- nothing.
use Rattle.std.specs.Prelude.{◌≡◌, refl, ◌≢◌, List, ◌++◌, ℕ, ◌+◌, ◌-◌, ◌≤◌, min, length, take, drop, ℤ, Ok}
use Rattle.std.proofs.Math.Path.{sym, ap}
use Rattle.std.proofs.Common.{◌∙◌, subst, arith, zero-add}
use Rattle.std.proofs.Math.Logic.{⊎_elim}
use borrow.Author.Tests.{ne_eqb}
use Rattle.foundations.specs.Tests.{same?}
use Rattle.model.specs.declared.JobRecord.{JobRecord}
use Rattle.model.specs.declared.StartOutcome.{StartOutcome}
use Rattle.model.specs.declared.AdvanceOutcome.{AdvanceOutcome}
use Rattle.model.specs.Refusals.{Answer, item_number, with_number}
use Rattle.model.proofs.Refusals.{first_back}
use Rattle.model.specs.Tree.{count}
use Rattle.model.specs.Order.{subproblems}
use Rattle.model.specs.Calls.{input_item}
use Rattle.model.specs.Mapping.{IsMapping, Heaviest, weight}
use Rattle.model.specs.Values.{values, answer}
use Rattle.model.specs.Match.{refusal_of, weight_of}
use Rattle.model.specs.Jobs.{start_items, start_item, advance_items, advance_item, finish_item, start_of, started, advance_of, advance_work, start_refusal, advance_refusal, advance_count, advance_solves, StartCall, AdvanceCall, FinishCall}
use Rattle.job_items.specs.Items.{start_passed}
use Rattle.jobs.specs.Outcomes.{start_accepted, advance_accepted, start_refused, advance_refused, advance_unfilled}
use Rattle.jobs.specs.Slices.{Sliced, begins, goes, job_after, work_after, together, sliced_same, Running, running_item, running_counts, running_fills, running_step, running_lent, running_finish, running_values, behind, rest_same}

-- ---- the first item that applies, and what a refusal leaves

module _ (j : JobRecord) (table r f : List ℕ) (work : List ℤ) where
  start_back : start_item table r f work ≢ 0 → item_number (with_number (start_item table r f work)) ≡ start_item table r f work
  unfolding start_item
  start_back = first_back (start_items table r f work) refl

  advance_back : advance_item j table r f work ≢ 0 → item_number (with_number (advance_item j table r f work)) ≡ advance_item j table r f work
  unfolding advance_item
  advance_back = first_back (advance_items j table r f work) refl

  -- the answer's number is the first item that applies, 0 for none
  pub start_refusal_lem : start_refusal (start_of j table r f work).answer ≡ start_item table r f work
  start_refusal_lem = ⊎_elim
      (λ e. ap (λ o. start_refusal o.answer) (start_accepted j table r f work e) ∙ sym e)
      (λ n. ap (λ o. start_refusal o.answer) (start_refused j table r f work n) ∙ start_back n)
      (same? (start_item table r f work) 0)

  -- a refused start leaves the record
  pub start_keeps : start_item table r f work ≢ 0 → (start_of j table r f work).job ≡ j
  start_keeps n = ap (λ o. o.job) (start_refused j table r f work n)

  module _ (b : ℕ) where
    pub advance_refusal_lem : advance_refusal (advance_of j table r f b work).answer ≡ advance_item j table r f work
    advance_refusal_lem = ⊎_elim
        (λ e. ap (λ o. advance_refusal o.answer) (advance_accepted j table r f b work e) ∙ sym e)
        (λ n. ap (λ o. advance_refusal o.answer) (advance_refused j table r f b work n) ∙ advance_back n)
        (same? (advance_item j table r f work) 0)

    -- a refused advance leaves the record and the work numbers
    pub advance_keeps : advance_item j table r f work ≢ 0 → ((advance_of j table r f b work).job ≡ j) × (advance_work j table r f b work ≡ work)
    advance_keeps n = (ap (λ o. o.job) (advance_refused j table r f b work n), advance_unfilled j table r f b work n)

    -- an accepted one counts the smaller of the budget and what is left, a refused one nothing
    pub advance_count_lem : advance_count (advance_of j table r f b work).answer ≡ advance_solves j table r f b work
    unfolding advance_solves
    advance_count_lem = ⊎_elim
        (λ e. rw (advance_accepted j table r f b work e, e))
        (λ n. rw (advance_refused j table r f b work n, ne_eqb (advance_item j table r f work) 0 n))
        (same? (advance_item j table r f work) 0)

-- what the calls promise, from the outcome
pub start_call : {j : JobRecord} {table r f : List ℕ} {work : List ℤ} {o : StartOutcome} → o ≡ start_of j table r f work → StartCall j table r f work o
start_call {j} {table} {r} {f} {work} e = record { outcome = e; number = ap (λ (x : StartOutcome). start_refusal x.answer) e ∙ start_refusal_lem j table r f work }

pub advance_call : {j : JobRecord} {table r f : List ℕ} {b : ℕ} {work work' : List ℤ} {o : AdvanceOutcome} → (o ≡ advance_of j table r f b work) × (work' ≡ advance_work j table r f b work) → AdvanceCall j table r f b work work' o
advance_call {j} {table} {r} {f} {b} {work} e = record {
  outcome = e.0;
  number = ap (λ (x : AdvanceOutcome). advance_refusal x.answer) e.0 ∙ advance_refusal_lem j table r f work b;
  counts = ap (λ (x : AdvanceOutcome). advance_count x.answer) e.0 ∙ advance_count_lem j table r f work b;
  fills = e.1;
}

-- finish: the answer is a refusal exactly if an item applies, with the first, and then the mapping is as it was
module _ (j : JobRecord) (table r f : List ℕ) (work : List ℤ) (mapping mapping' : List ℕ) (a : Answer ℤ) (call : FinishCall j table r f work mapping mapping' a) where
  pub finish_refusal : refusal_of a ≡ finish_item j table r f work mapping
  finish_refusal = ⊎_elim (λ e. (call.finished e).number ∙ sym e) (λ n. (call.refused n).number) (same? (finish_item j table r f work mapping) 0)

  pub finish_keeps : finish_item j table r f work mapping ≢ 0 → mapping' ≡ mapping
  finish_keeps n = (call.refused n).mapping_kept

  -- over any memory that no item refuses: a mapping, and its exact weight
  pub altered_finish : finish_item j table r f work mapping ≡ 0 → IsMapping table r f (take (count r) mapping') × (weight_of a ≡ weight table r f (take (count r) mapping'))
  altered_finish e = ((call.finished e).legal, (call.finished e).weighs)

-- ---- a job in slices, over undisturbed memory

module _ (table r f : List ℕ) (work : List ℤ) (passes : start_item table r f work ≡ 0) (j₀ : JobRecord) where
  given : input_item table r f ≡ 0
  given = (start_passed table r f work passes).0

  begun : Running table r f j₀.total 0 (start_of j₀ table r f work).job work
  unfolding started
  begun =
      let e = ap (λ o. o.job) (start_accepted j₀ table r f work passes) in
      record {
        active = ap (λ o. o.idle) e;
        recorded = ap (λ o. o.n) e;
        found = ap (λ o. o.m) e;
        here = ap (λ o. o.position) e;
        low = omega arith;
        total = λ t. ap (λ o. o.total) e ∙ omega arith;
        enough = (start_passed table r f work passes).1;
        front = refl;
      }

  -- how far budgets that come to this sum reach
  abbrev reached : ℕ → ℕ
  reached sum = min sum (subproblems r f)

  pub sliced_running : {sum : ℕ} {j : JobRecord} {left : List ℤ} → Sliced table r f j₀ work sum j left → Running table r f j₀.total (reached sum) j left
  sliced_running begins = subst (λ (k : ℕ). Running table r f j₀.total k (start_of j₀ table r f work).job work) (omega arith) begun
  sliced_running (goes {sum} {j} {left} s b lent e) =
      let step = running_step table r f given j₀.total (running_lent table r f given j₀.total (sliced_running s) lent e) b in
      let far : reached sum + min b (subproblems r f - reached sum) ≡ reached (sum + b) = omega arith in
      subst (λ (k : ℕ). Running table r f j₀.total k (advance_of j table r f b lent).job (advance_work j table r f b lent)) far step

  module _ {sum : ℕ} {j : JobRecord} {left : List ℤ} (s : Sliced table r f j₀ work sum j left) (lent : List ℤ) (same : take (subproblems r f) lent ≡ take (subproblems r f) left) where
    running : Running table r f j₀.total (reached sum) j lent
    running = running_lent table r f given j₀.total (sliced_running s) lent same

    -- every advance is accepted, counts the smaller of its budget and what is left, and fills exactly those numbers of the list lent, with the values:
    -- those before are the values already, and those behind stay
    pub lent_slice : (b : ℕ) →
        (advance_item j table r f lent ≡ 0)
        × ((advance_of j table r f b lent).answer ≡ Ok (min b (subproblems r f - reached sum)))
        × (take (reached sum) lent ≡ take (reached sum) (values table r f))
        × (advance_work j table r f b lent ≡ take (reached sum + min b (subproblems r f - reached sum)) (values table r f) ++ drop (reached sum + min b (subproblems r f - reached sum)) lent)
    lent_slice b = (running_item table r f given j₀.total running, running_counts table r f given j₀.total running b, running.front, running_fills table r f given j₀.total running b)

    -- where the budgets reach the number of subproblems, finishing is accepted and gives a heaviest mapping and the answer
    pub lent_job : subproblems r f ≤ sum → (mapping : List ℕ) → count r ≤ length mapping →
        (finish_item j table r f lent mapping ≡ 0)
        × (take (subproblems r f) lent ≡ values table r f)
        × ((mapping' : List ℕ) (a : Answer ℤ) → FinishCall j table r f lent mapping mapping' a → Heaviest table r f (take (count r) mapping') × (a ≡ Ok (answer table r f)))
    lent_job l mapping room =
        let all : reached sum ≡ subproblems r f = omega arith in
        let e = running_finish table r f given j₀.total running all mapping room in
        let v = running_values table r f given j₀.total running all in
        (e, v, λ mapping' a call. ((call.finished e).heaviest v, (call.finished e).answered v))

  -- ---- where each call is lent the very list that the last one left

  abbrev after : List ℕ → JobRecord
  after bs = job_after table r f (start_of j₀ table r f work).job work bs

  abbrev left : List ℕ → List ℤ
  left bs = work_after table r f (start_of j₀ table r f work).job work bs

  chain : (bs : List ℕ) → Sliced table r f j₀ work (together bs) (after bs) (left bs)
  chain bs = subst (λ (k : ℕ). Sliced table r f j₀ work k (after bs) (left bs)) (zero-add (together bs)) (sliced_same bs begins)

  -- what the list holds behind the values is what it held at the start
  pub each_slice : (bs : List ℕ) (b : ℕ) →
      (advance_item (after bs) table r f (left bs) ≡ 0)
      × ((advance_of (after bs) table r f b (left bs)).answer ≡ Ok (min b (subproblems r f - reached (together bs))))
      × (left bs ≡ take (reached (together bs)) (values table r f) ++ drop (reached (together bs)) work)
      × (advance_work (after bs) table r f b (left bs) ≡ take (reached (together bs) + min b (subproblems r f - reached (together bs))) (values table r f) ++ drop (reached (together bs) + min b (subproblems r f - reached (together bs))) work)
  each_slice bs b =
      let p = reached (together bs) in
      let c = min b (subproblems r f - p) in
      let t = lent_slice (chain bs) (left bs) refl b in
      let far : min (0 + together bs) (subproblems r f) ≡ p = omega arith in
      let is : left bs ≡ take p (values table r f) ++ drop p work = rest_same table r f given j₀.total bs begun ∙ ap (λ (k : ℕ). take k (values table r f) ++ drop k work) far in
      (t.0, t.1, is, t.3 ∙ ap (λ (w : List ℤ). take (p + c) (values table r f) ++ w) (behind table r f given j₀.total p c (left bs) work (omega arith) is))

  pub sliced_job : (bs : List ℕ) → subproblems r f ≤ together bs → (mapping : List ℕ) → count r ≤ length mapping →
      (finish_item (after bs) table r f (left bs) mapping ≡ 0)
      × ((mapping' : List ℕ) (a : Answer ℤ) → FinishCall (after bs) table r f (left bs) mapping mapping' a → Heaviest table r f (take (count r) mapping') × (a ≡ Ok (answer table r f)))
  sliced_job bs l mapping room = let t = lent_job (chain bs) (left bs) refl l mapping room in (t.0, t.2)
