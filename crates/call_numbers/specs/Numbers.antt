-- What a caller may conclude from the two numbers of a call. Assumes nothing.
use Rattle.std.specs.Prelude.{◌≡◌, ◌≢◌, List, ℕ, ◌-◌, min, take, ℤ, pos}
use Rattle.std.proofs.Math.Path.{sym}
use Rattle.std.proofs.Common.{◌∙◌}
use Rattle.model.specs.declared.JobRecord.{JobRecord}
use Rattle.model.specs.Tree.{count}
use Rattle.model.specs.Order.{subproblems}
use Rattle.model.specs.Calls.{match_item}
use Rattle.model.specs.Mapping.{Heaviest, weight}
use Rattle.model.specs.Values.{answer}
use Rattle.model.specs.Jobs.{advance_item, advance_solves, slice_count, finish_item}
use Rattle.model.specs.Certificate.{certificate_length}
use Rattle.model.specs.Writing.{write_item}
use Rattle.answer_numbers.specs.declared.job_numbers.JobMemory.{JobMemory}
use Rattle.answer_numbers.specs.Memory.{record_of}
use Rattle.answer_numbers.specs.ByItem.{where_none, where_item}
use Rattle.call_numbers.specs.Exported.{match_weight, Matches, Advances, finish_weight, Finishes, write_length, Writes}

module _ (table r f : List ℕ) (work : List ℤ) (mapping : List ℕ) (work' : List ℤ) (mapping' : List ℕ) (refusal : ℕ) (w : ℤ) (e : Matches table r f work mapping work' mapping' refusal w) where
  pub refused_weighs : refusal ≢ 0 → w ≡ pos 0
  unfolding match_weight
  refused_weighs n = e.weighs ∙ where_item (match_item table r f work mapping) (answer table r f) (pos 0) (λ z. n (e.number ∙ z))

  -- a heaviest mapping is left, and the weight is its own
  pub heaviest_left : refusal ≡ 0 → Heaviest table r f (take (count r) mapping') × (w ≡ weight table r f (take (count r) mapping'))
  unfolding match_weight
  heaviest_left z = (e.leaves.heaviest z, e.weighs ∙ where_none (match_item table r f work mapping) (answer table r f) (pos 0) (sym e.number ∙ z) ∙ sym (e.leaves.exact z))

module _ (x : JobMemory) (table r f : List ℕ) (b : ℕ) (work : List ℤ) (x' : JobMemory) (work' : List ℤ) (refusal c : ℕ) (e : Advances x table r f b work x' work' refusal c) where
  pub advance_solves_lem : refusal ≡ 0 → c ≡ min b (subproblems r f - x.position)
  unfolding advance_solves slice_count record_of
  advance_solves_lem z = e.counts ∙ where_none (advance_item (record_of x) table r f work) (min b (subproblems r f - x.position)) 0 (sym e.number ∙ z)

module _ (j : JobRecord) (table r f : List ℕ) (work : List ℤ) (mapping mapping' : List ℕ) (refusal : ℕ) (w : ℤ) (e : Finishes j table r f work mapping mapping' refusal w) where
  pub finish_refused_weighs : refusal ≢ 0 → w ≡ pos 0
  unfolding finish_weight
  finish_refused_weighs n = e.weighs ∙ where_item (finish_item j table r f work mapping) (weight table r f (take (count r) mapping')) (pos 0) (λ z. n (e.number ∙ z))

  pub finish_weighs : refusal ≡ 0 → w ≡ weight table r f (take (count r) mapping')
  unfolding finish_weight
  finish_weighs z = e.weighs ∙ where_none (finish_item j table r f work mapping) (weight table r f (take (count r) mapping')) (pos 0) (sym e.number ∙ z)

module _ (table r f : List ℕ) (work : List ℤ) (certificate : List ℕ) (work' : List ℤ) (certificate' : List ℕ) (refusal l : ℕ) (e : Writes table r f work certificate work' certificate' refusal l) where
  pub write_refused_long : refusal ≢ 0 → l ≡ 0
  unfolding write_length
  write_refused_long n = e.measures ∙ where_item (write_item table r f work certificate) (certificate_length r f) 0 (λ z. n (e.number ∙ z))

  pub written_long : refusal ≡ 0 → l ≡ certificate_length r f
  unfolding write_length
  written_long z = e.measures ∙ where_none (write_item table r f work certificate) (certificate_length r f) 0 (sym e.number ∙ z)
