-- What reading out and weighing leaves at the end of a job, over any work numbers that item 16 lets pass. Assumes nothing.
use Rattle.std.specs.Prelude.{◌≡◌, refl, ◌≢◌, List, ◌++◌, ℕ, ◌<◌, take, drop, replicate, ℤ, pos, Ok}
use Rattle.std.proofs.Common.{sym, ap, ◌∙◌, subst, ⊎_elim, take-append-drop, take_at}
use Rattle.std.proofs.lemmas.List.{length-replicate}
use Rattle.model.specs.Refusals.{Answer}
use Rattle.model.specs.Limits.{no_vertex}
use Rattle.model.specs.Weights.{some}
use Rattle.model.specs.Tree.{count}
use Rattle.model.specs.Order.{subproblems}
use Rattle.model.specs.Calls.{input_item}
use Rattle.model.specs.Mapping.{IsMapping, Heaviest, weight}
use Rattle.model.specs.Values.{values, largest, recalled, Solves}
use Rattle.model.specs.Match.{refusal_of, weight_of}
use Rattle.model.specs.Jobs.{Finished}
use Rattle.subtrees.proofs.Theorems.{work_solves, empty_mapping, heaviest_exactly}
use Rattle.subtrees.proofs.Following.{empty_heaviest}
use Rattle.readout.specs.Read.{WorkFits}
use Rattle.readout.specs.CycleLaws.{ReadOut}
use Rattle.readout.specs.ReadTheorems.{read_mapping, top_allowed, read_heaviest}
use Rattle.one_call.specs.Top.{TopOf, top_largest}

-- a mapping in the first n bytes, its exact weight, and a heaviest one where the work numbers are the values
pub record Delivered (table r f : List ℕ) (work : List ℤ) (mapping mapping' : List ℕ) (w : ℤ) : Type 0 where
  pub rest : mapping' ≡ take (count r) mapping' ++ drop (count r) mapping
  pub legal : IsMapping table r f (take (count r) mapping')
  pub exact : w ≡ weight table r f (take (count r) mapping')
  pub heaviest : take (subproblems r f) work ≡ values table r f → Heaviest table r f (take (count r) mapping')

module _ (table r f : List ℕ) (passes : input_item table r f ≡ 0) (work : List ℤ) where
  -- work numbers that begin with the values solve every subproblem
  solves : take (subproblems r f) work ≡ values table r f → Solves table r f (recalled r f work)
  solves e = subst (λ (y : List ℤ). Solves table r f (recalled r f y)) (ap (λ (y : List ℤ). y ++ drop (subproblems r f) work) (sym e) ∙ take-append-drop (subproblems r f) work) (work_solves table r f passes (drop (subproblems r f) work))

  -- nothing weighs more than 0: the empty mapping
  pub delivered_empty : (mapping mapping' : List ℕ) (w u v : ℕ) → TopOf r f work (count r) 0 w u v → w ≡ 0 → mapping' ≡ replicate (count r) no_vertex ++ drop (count r) mapping → Delivered table r f work mapping mapping' (pos 0)
  delivered_empty mapping mapping' w u v t z e =
      let front : take (count r) mapping' ≡ replicate (count r) no_vertex = rw e (take_at (replicate (count r) no_vertex) (drop (count r) mapping) (count r) (length-replicate (count r) no_vertex)) in
      let m = empty_mapping table r f passes in
      let zero : largest r f (recalled r f work) ≡ pos 0 = top_largest r f work (count r) w u v t refl ∙ ap pos z in
      record {
        rest = rw front e;
        legal = rw front m.0;
        exact = rw front (sym m.1);
        heaviest = λ same. rw front (empty_heaviest table r f passes (recalled r f work) (solves same) zero);
      }

  module _ (fits : WorkFits table r f work) (mapping mapping' : List ℕ) (w u v : ℕ) (t : TopOf r f work (count r) 0 w u v) (some-weight : w ≢ 0) (lu : u < count r) (lv : v < count f) (R : ReadOut table r f work u v mapping mapping') where
    there : recalled r f work u v v ≡ some (pos w)
    there = ⊎_elim (λ q. absurd (some-weight q)) (λ q. q.2) t.there

    -- what is read out from the pair with the largest number
    pub read_legal : IsMapping table r f (take (count r) mapping')
    read_legal = read_mapping table r f passes work u v (take (count r) mapping') lu lv R.read fits (top_allowed table r f passes work u v (take (count r) mapping') lu lv R.read fits (pos w) there)

    pub delivered_read : (z : ℤ) → z ≡ weight table r f (take (count r) mapping') → Delivered table r f work mapping mapping' z
    delivered_read z e = record {
      rest = sym (take-append-drop (count r) mapping') ∙ ap (λ (y : List ℕ). take (count r) mapping' ++ y) R.rest;
      legal = read_legal;
      exact = e;
      heaviest = λ same. read_heaviest table r f passes work u v (take (count r) mapping') lu lv R.read (solves same) (there ∙ ap some (sym (top_largest r f work (count r) w u v t refl)));
    }

-- so the call has finished
pub delivered_finished : (table r f : List ℕ) → input_item table r f ≡ 0 → (work : List ℤ) (mapping mapping' : List ℕ) (w : ℤ) (a : Answer ℤ) → Delivered table r f work mapping mapping' w → a ≡ Ok w → Finished table r f work mapping mapping' a
delivered_finished table r f passes work mapping mapping' w a d e = record {
  rest = d.rest;
  legal = d.legal;
  given = e ∙ ap Ok d.exact;
  number = ap refusal_of e;
  weighs = ap weight_of e ∙ d.exact;
  heaviest = d.heaviest;
  answered = λ same. e ∙ ap Ok (d.exact ∙ ((heaviest_exactly table r f passes (take (count r) mapping')).0 (d.heaviest same)).1);
}
