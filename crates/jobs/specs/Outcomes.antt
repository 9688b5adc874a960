-- What the code's branches of a start and an advance give is what the definitions say. Assumes nothing.
use Rattle.std.specs.Prelude.{◌≡◌, ◌≢◌, List, ℕ, ◌-◌, min, ℤ, ⊤, Ok, Err, MatchResult}
use Rattle.std.proofs.Common.{sym, ap, ◌∙◌, ne_eqb, ⊎_elim}
use Rattle.foundations.specs.Tests.{same?}
use Rattle.model.specs.declared.JobRecord.{JobRecord}
use Rattle.model.specs.declared.StartOutcome.{StartOutcome}
use Rattle.model.specs.declared.AdvanceOutcome.{AdvanceOutcome}
use Rattle.model.specs.Refusals.{Answer, refusal_in, with_number}
use Rattle.model.proofs.Refusals.{refused_is}
use Rattle.model.specs.Order.{subproblems}
use Rattle.model.specs.Values.{fill}
use Rattle.model.specs.Jobs.{start_item, advance_item, started, start_of, slice_count, advanced, advance_of, advance_work}

-- ---- a call that is not refused

pub start_accepted : (j : JobRecord) (table r f : List ℕ) (work : List ℤ) → start_item table r f work ≡ 0 → start_of j table r f work ≡ record { job = started j r f; answer = Ok tt }
unfolding start_of
start_accepted j table r f work e = rw e

pub advance_accepted : (j : JobRecord) (table r f : List ℕ) (b : ℕ) (work : List ℤ) → advance_item j table r f work ≡ 0 → advance_of j table r f b work ≡ record { job = advanced j (slice_count j r f b); answer = Ok (slice_count j r f b) }
unfolding advance_of
advance_accepted j table r f b work e = rw e

pub advance_fills : (j : JobRecord) (table r f : List ℕ) (b : ℕ) (work : List ℤ) → advance_item j table r f work ≡ 0 → advance_work j table r f b work ≡ fill table r f work j.position (slice_count j r f b)
unfolding advance_work
advance_fills j table r f b work e = rw e

-- ---- a call that is

pub start_refused : (j : JobRecord) (table r f : List ℕ) (work : List ℤ) → start_item table r f work ≢ 0 → start_of j table r f work ≡ record { job = j; answer = Err (with_number (start_item table r f work)) }
unfolding start_of
start_refused j table r f work n = rw (ne_eqb (start_item table r f work) 0 n)

pub advance_refused : (j : JobRecord) (table r f : List ℕ) (b : ℕ) (work : List ℤ) → advance_item j table r f work ≢ 0 → advance_of j table r f b work ≡ record { job = j; answer = Err (with_number (advance_item j table r f work)) }
unfolding advance_of
advance_refused j table r f b work n = rw (ne_eqb (advance_item j table r f work) 0 n)

pub advance_unfilled : (j : JobRecord) (table r f : List ℕ) (b : ℕ) (work : List ℤ) → advance_item j table r f work ≢ 0 → advance_work j table r f b work ≡ work
unfolding advance_work
advance_unfilled j table r f b work n = rw (ne_eqb (advance_item j table r f work) 0 n)

-- ---- as the code has it: an answer, a record and work numbers that are equal to those

pub start_refused_as : (j : JobRecord) (table r f : List ℕ) (work : List ℤ) (a : Answer ⊤) → refusal_in a ≡ start_item table r f work → start_item table r f work ≢ 0 → ◌≡◌ {A = StartOutcome} (record { job = j; answer = a }) (start_of j table r f work)
start_refused_as j table r f work a e n = ap (λ (x : Answer ⊤). record { job = j; answer = x }) (refused_is a e n) ∙ sym (start_refused j table r f work n)

pub start_accepted_as : (j : JobRecord) (table r f : List ℕ) (work : List ℤ) (j' : JobRecord) → j' ≡ started j r f → start_item table r f work ≡ 0 → ◌≡◌ {A = StartOutcome} (record { job = j'; answer = Ok tt }) (start_of j table r f work)
start_accepted_as j table r f work j' e z = ap (λ (i : JobRecord). record { job = i; answer = Ok tt }) e ∙ sym (start_accepted j table r f work z)

pub advance_refused_as : (j : JobRecord) (table r f : List ℕ) (work : List ℤ) (b : ℕ) (a : Answer ℕ) → refusal_in a ≡ advance_item j table r f work → advance_item j table r f work ≢ 0 → ◌≡◌ {A = AdvanceOutcome} (record { job = j; answer = a }) (advance_of j table r f b work) × (work ≡ advance_work j table r f b work)
advance_refused_as j table r f work b a e n = (ap (λ (x : Answer ℕ). record { job = j; answer = x }) (refused_is a e n) ∙ sym (advance_refused j table r f b work n), sym (advance_unfilled j table r f b work n))

pub advance_accepted_as : (j : JobRecord) (table r f : List ℕ) (work : List ℤ) (b : ℕ) (j' : JobRecord) (c : ℕ) (work' : List ℤ) → j' ≡ advanced j c → c ≡ min b (subproblems r f - j.position) → advance_item j table r f work ≡ 0 → work' ≡ fill table r f work j.position c → ◌≡◌ {A = AdvanceOutcome} (record { job = j'; answer = Ok c }) (advance_of j table r f b work) × (work' ≡ advance_work j table r f b work)
unfolding slice_count
advance_accepted_as j table r f work b j' c work' e s z w = (
  ap (λ (i : JobRecord). record { job = i; answer = Ok c }) e ∙ ap (λ (n : ℕ). record { job = advanced j n; answer = Ok n }) s ∙ sym (advance_accepted j table r f b work z),
  w ∙ ap (λ (n : ℕ). fill table r f work j.position n) s ∙ sym (advance_fills j table r f b work z),
)

-- what an advance answers and fills, whatever record it leaves
abbrev pub AdvanceIs : JobRecord → List ℕ → List ℕ → List ℕ → ℕ → List ℤ → Answer ℕ → List ℤ → Type 0
AdvanceIs j table r f b work a work' = (a ≡ (advance_of j table r f b work).answer) × (work' ≡ advance_work j table r f b work)

pub advance_is : (j : JobRecord) (table r f : List ℕ) (work : List ℤ) (b : ℕ) (j' : JobRecord) (a : Answer ℕ) (work' : List ℤ) → ◌≡◌ {A = AdvanceOutcome} (record { job = j'; answer = a }) (advance_of j table r f b work) × (work' ≡ advance_work j table r f b work) → AdvanceIs j table r f b work a work'
advance_is j table r f work b j' a work' h = (ap (λ (o : AdvanceOutcome). o.answer) h.0, h.1)

-- so the record goes on by the count, or stays
pub advance_outcome : (j : JobRecord) (table r f : List ℕ) (work : List ℤ) (b : ℕ) (a : Answer ℕ) (j' : JobRecord) → a ≡ (advance_of j table r f b work).answer → MatchResult a (λ c. j' ≡ advanced j c) (λ e. j' ≡ j)
    → ◌≡◌ {A = AdvanceOutcome} (record { job = j'; answer = a }) (advance_of j table r f b work)
advance_outcome j table r f work b a j' e m = ⊎_elim
    (λ z.
    let o = advance_accepted j table r f b work z in
    let is : a ≡ Ok (slice_count j r f b) = e ∙ ap (λ o. o.answer) o in
    let to : j' ≡ advanced j (slice_count j r f b) = rw is at m in
    rw (to, is) (sym o))
    (λ n.
    let o = advance_refused j table r f b work n in
    let is : a ≡ Err (with_number (advance_item j table r f work)) = e ∙ ap (λ o. o.answer) o in
    let to : j' ≡ j = rw is at m in
    rw (to, is) (sym o))
    (same? (advance_item j table r f work) 0)
