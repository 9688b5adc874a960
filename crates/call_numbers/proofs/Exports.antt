-- The library's answer in numbers keeps what the exported call promises. Assumes nothing.
use Rattle.std.specs.Prelude.{◌≡◌, ◌≢◌, cond, List, ◌++◌, ℕ, eqb, take, drop, ℤ, pos}
use Rattle.std.proofs.Common.{sym, ◌∙◌, subst, ⊎_elim}
use Rattle.std.proofs.Math.Path.{ap}
use Rattle.foundations.specs.Tests.{same?}
use Rattle.model.specs.declared.JobRecord.{JobRecord}
use Rattle.model.specs.declared.StartOutcome.{StartOutcome}
use Rattle.model.specs.declared.AdvanceOutcome.{AdvanceOutcome}
use Rattle.model.specs.declared.Sizes.{Sizes}
use Rattle.model.specs.Refusals.{Answer}
use Rattle.model.specs.Tree.{count}
use Rattle.model.specs.Calls.{match_item}
use Rattle.model.specs.Mapping.{Heaviest, weight}
use Rattle.model.specs.Values.{value_at, answer}
use Rattle.model.specs.Match.{refusal_of, weight_of, MatchCall}
use Rattle.model.specs.Jobs.{start_item, advance_item, finish_item, start_of, start_refusal, advance_of, advance_work, advance_refusal, advance_count, advance_solves, StartCall, AdvanceCall, FinishCall}
use Rattle.model.specs.Certificate.{certificate_length, weight_in, mapping_in, value_in, check_of}
use Rattle.model.specs.Writing.{write_item, write_refusal, length_of, WriteCall}
use Rattle.model.specs.Sizes.{sizes_refusal, sizes_count, sizes_work, sizes_length, SizesNumbers, SizesCall}
use Rattle.jobs.proofs.Theorems.{finish_refusal}
use Rattle.answer_numbers.specs.declared.job_numbers.JobMemory.{JobMemory}
use Rattle.answer_numbers.specs.Memory.{record_of, memory_after, start_memory, advance_memory}
use Rattle.answer_numbers.specs.ByItem.{where_none, where_item}
use Rattle.call_numbers.specs.Exported.{match_weight, Matches, Starts, Advances, finish_weight, Finishes, write_length, Writes}

-- a number that is the item in both cases
numbered : (item k : ℕ) → (item ≡ 0 → k ≡ 0) → (item ≢ 0 → k ≡ item) → k ≡ item
numbered item k none some = ⊎_elim (λ z. none z ∙ sym z) some (same? item 0)

-- and one that goes by the item
by_item : {A : Type 0} (item : ℕ) (x y v : A) → (item ≡ 0 → v ≡ x) → (item ≢ 0 → v ≡ y) → v ≡ cond (eqb item 0) x y
by_item item x y v none some = ⊎_elim (λ z. none z ∙ sym (where_none item x y z)) (λ n. some n ∙ sym (where_item item x y n)) (same? item 0)

pub exported : {table r f : List ℕ} {work : List ℤ} {mapping : List ℕ} {work' : List ℤ} {mapping' : List ℕ} {a : Answer ℤ} {refusal : ℕ} {w : ℤ}
    → MatchCall table r f work mapping work' mapping' a → refusal ≡ refusal_of a → w ≡ weight_of a → Matches table r f work mapping work' mapping' refusal w
unfolding match_weight
exported {table} {r} {f} {work} {mapping} {work'} {mapping'} {a} {refusal} call number weighs =
    let item = match_item table r f work mapping in
    let is : refusal ≡ item = number ∙ numbered item (refusal_of a) (λ z. (call.matched z).number) (λ n. (call.refused n).number) in
    record {
      number = is;
      weighs = weighs ∙ by_item item (answer table r f) (pos 0) (weight_of a) (λ z. (call.matched z).weighs) (λ n. ap weight_of (call.refused n).given);
      leaves = record {
        work_kept = λ n. (call.refused (λ z. n (is ∙ z))).work_kept;
        mapping_kept = λ n. (call.refused (λ z. n (is ∙ z))).mapping_kept;
        values_left = λ z. (call.matched (sym is ∙ z)).values_left;
        rest = λ z. (call.matched (sym is ∙ z)).rest;
        heaviest = λ z. (call.matched (sym is ∙ z)).heaviest;
        exact = λ z. (call.matched (sym is ∙ z)).exact;
      };
    }

-- of a start, an advance and a finish: h is the record that the memory x stands for
module _ (x : JobMemory) (table r f : List ℕ) (work : List ℤ) where
  pub starts : (h : JobRecord) (o : StartOutcome) (k : ℕ) (y : JobMemory) → h ≡ record_of x → StartCall h table r f work o → k ≡ start_refusal o.answer → y ≡ memory_after k x o.job
      → Starts x table r f work y k
  unfolding start_memory
  starts h o k y eh call ek ey =
      let same : o ≡ start_of (record_of x) table r f work = call.outcome ∙ ap (λ (j : JobRecord). start_of j table r f work) eh in
      let is : k ≡ start_item table r f work = ek ∙ call.number in
      record {
        number = is;
        leaves = ey ∙ ap (λ (i : ℕ). memory_after i x o.job) is ∙ ap (λ (a : StartOutcome). memory_after (start_item table r f work) x a.job) same;
      }

  module _ (b : ℕ) where
    pub advances : (h : JobRecord) (o : AdvanceOutcome) (k c : ℕ) (y : JobMemory) (work' : List ℤ) → h ≡ record_of x → AdvanceCall h table r f b work work' o
        → k ≡ advance_refusal o.answer → c ≡ advance_count o.answer → y ≡ memory_after k x o.job
        → Advances x table r f b work y work' k c
    unfolding advance_memory
    advances h o k c y work' eh call ek ec ey =
        let same : o ≡ advance_of (record_of x) table r f b work = call.outcome ∙ ap (λ (j : JobRecord). advance_of j table r f b work) eh in
        let is : k ≡ advance_item (record_of x) table r f work = ek ∙ call.number ∙ ap (λ (j : JobRecord). advance_item j table r f work) eh in
        record {
          number = is;
          counts = ec ∙ call.counts ∙ ap (λ (j : JobRecord). advance_solves j table r f b work) eh;
          leaves = ey ∙ ap (λ (i : ℕ). memory_after i x o.job) is ∙ ap (λ (a : AdvanceOutcome). memory_after (advance_item (record_of x) table r f work) x a.job) same;
          fills = call.fills ∙ ap (λ (j : JobRecord). advance_work j table r f b work) eh;
        }

finishes_record : {j : JobRecord} {table r f : List ℕ} {work : List ℤ} {mapping mapping' : List ℕ} {a : Answer ℤ} {refusal : ℕ} {w : ℤ}
    → FinishCall j table r f work mapping mapping' a → refusal ≡ refusal_of a → w ≡ weight_of a → Finishes j table r f work mapping mapping' refusal w
unfolding finish_weight
finishes_record {j} {table} {r} {f} {work} {mapping} {mapping'} {a} {refusal} call number weighs =
    let item = finish_item j table r f work mapping in
    let is : refusal ≡ item = number ∙ finish_refusal j table r f work mapping mapping' a call in
    record {
      number = is;
      weighs = weighs ∙ by_item item (weight table r f (take (count r) mapping')) (pos 0) (weight_of a) (λ z. (call.finished z).weighs) (λ n. ap weight_of (call.refused n).given);
      mapping_kept = λ n. (call.refused (λ z. n (is ∙ z))).mapping_kept;
      rest = λ z. (call.finished (sym is ∙ z)).rest;
      legal = λ z. (call.finished (sym is ∙ z)).legal;
      heaviest = λ z. (call.finished (sym is ∙ z)).heaviest;
      answered = λ z e. weighs ∙ ap weight_of ((call.finished (sym is ∙ z)).answered e);
    }

pub finishes : (x : JobMemory) (h : JobRecord) {table r f : List ℕ} {work : List ℤ} {mapping mapping' : List ℕ} {a : Answer ℤ} {refusal : ℕ} {w : ℤ}
    → h ≡ record_of x → FinishCall h table r f work mapping mapping' a → refusal ≡ refusal_of a → w ≡ weight_of a
    → Finishes (record_of x) table r f work mapping mapping' refusal w
finishes x h {table} {r} {f} {work} {mapping} {mapping'} {a} eh call = finishes_record (subst (λ (j : JobRecord). FinishCall j table r f work mapping mapping' a) eh call)

pub writes : {table r f : List ℕ} {work : List ℤ} {certificate : List ℕ} {work' : List ℤ} {certificate' : List ℕ} {a : Answer ℕ} {refusal l : ℕ}
    → WriteCall table r f work certificate work' certificate' a → refusal ≡ write_refusal a → l ≡ length_of a → Writes table r f work certificate work' certificate' refusal l
unfolding write_length
writes {table} {r} {f} {work} {certificate} {work'} {certificate'} {a} {refusal} {l} call number measures =
    let item = write_item table r f work certificate in
    let is : refusal ≡ item = number ∙ numbered item (write_refusal a) (λ z. (call.written z).number) (λ n. (call.refused n).number) in
    let long : refusal ≡ 0 → certificate_length r f ≡ l = λ z. sym (measures ∙ (call.written (sym is ∙ z)).measures) in
    record {
      number = is;
      measures = measures ∙ by_item item (certificate_length r f) 0 (length_of a) (λ z. (call.written z).measures) (λ n. (call.refused n).measures);
      work_kept = λ n. (call.refused (λ z. n (is ∙ z))).work_kept;
      certificate_kept = λ n. (call.refused (λ z. n (is ∙ z))).certificate_kept;
      values_left = λ z. (call.written (sym is ∙ z)).values_left;
      rest = λ z. subst (λ (x : ℕ). certificate' ≡ take x certificate' ++ drop x certificate) (long z) (call.written (sym is ∙ z)).rest;
      accepted = λ z. subst (λ (x : ℕ). check_of table r f (take x certificate') ≡ 0) (long z) (call.written (sym is ∙ z)).accepted;
      values_in = λ z k h. subst (λ (x : ℕ). value_in r f (take x certificate') k ≡ value_at table r f k) (long z) ((call.written (sym is ∙ z)).values_in k h);
      weight_in_lem = λ z. subst (λ (x : ℕ). weight_in (take x certificate') ≡ answer table r f) (long z) (call.written (sym is ∙ z)).weight_in_lem;
      heaviest_in = λ z. subst (λ (x : ℕ). Heaviest table r f (mapping_in r (take x certificate'))) (long z) (call.written (sym is ∙ z)).heaviest_in;
    }

pub sizes_numbers : {table r f : List ℕ} {a : Answer Sizes} {refusal s w c : ℕ}
    → SizesCall table r f a → refusal ≡ sizes_refusal a → s ≡ sizes_count a → w ≡ sizes_work a → c ≡ sizes_length a → SizesNumbers table r f refusal s w c
sizes_numbers call k s w c =
    let n = call.numbers in
    record { number = k ∙ n.number; counts = s ∙ n.counts; wants = w ∙ n.wants; measures = c ∙ n.measures }
