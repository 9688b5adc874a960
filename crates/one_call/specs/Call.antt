-- What solving and reading out leaves, and that the call then does what the paper says. Assumes nothing.
use Rattle.std.specs.Prelude.{◌≡◌, refl, ◌≢◌, List, ◌++◌, ℕ, ◌≤◌, ◌<◌, length, take, drop, replicate, ℤ, pos}
use Rattle.std.proofs.Common.{sym, ap, ◌∙◌, subst, ⊎_elim, take-append-drop, take_at, to_z}
use Rattle.std.proofs.lemmas.List.{length-replicate}
use Rattle.std.specs.Int.{w32}
use Rattle.std.proofs.Math.Facts.{to_z_pos}
use Rattle.model.specs.Limits.{no_vertex}
use Rattle.model.specs.Weights.{some}
use Rattle.model.specs.Tree.{count}
use Rattle.model.specs.Order.{subproblems}
use Rattle.model.specs.Calls.{input_item}
use Rattle.model.specs.Mapping.{Heaviest, weight}
use Rattle.model.specs.Values.{values, answer, largest, recalled, fill, Solves}
use Rattle.subtrees.proofs.Theorems.{fill_values, work_solves, solved_answer, heaviest_exactly}
use Rattle.subtrees.proofs.Following.{empty_heaviest}
use Rattle.readout.specs.CycleLaws.{ReadOut}
use Rattle.readout.specs.ReadTheorems.{read_heaviest}
use Rattle.one_call.specs.Top.{TopOf, top_largest}

-- the work numbers are the values, the mapping is a heaviest one and weighs w, which is the answer
pub record Solved (table r f : List ℕ) (work : List ℤ) (mapping : List ℕ) (work' : List ℤ) (mapping' : List ℕ) (w : ℤ) : Type 0 where
  pub filled : work' ≡ values table r f ++ drop (subproblems r f) work
  pub rest : mapping' ≡ take (count r) mapping' ++ drop (count r) mapping
  pub heaviest : Heaviest table r f (take (count r) mapping')
  pub exact : weight table r f (take (count r) mapping') ≡ answer table r f
  pub answered : w ≡ answer table r f

module _ (table r f : List ℕ) (passes : input_item table r f ≡ 0) (work : List ℤ) (enough : subproblems r f ≤ length work) (work' : List ℤ) (filled : work' ≡ fill table r f work 0 (subproblems r f)) where
  values_are : work' ≡ values table r f ++ drop (subproblems r f) work
  values_are = filled ∙ fill_values table r f passes work enough

  solves : Solves table r f (recalled r f work')
  solves = subst (λ (y : List ℤ). Solves table r f (recalled r f y)) (sym values_are) (work_solves table r f passes (drop (subproblems r f) work))

  -- the top's number is the answer
  top_answer : (w u v : ℕ) → TopOf r f work' (count r) 0 w u v → (largest r f (recalled r f work') ≡ pos w) × (pos w ≡ answer table r f)
  top_answer w u v t = let e = top_largest r f work' (count r) w u v t refl in (e, sym e ∙ solved_answer table r f passes (recalled r f work') solves)

  weighs : (p : List ℕ) → Heaviest table r f p → weight table r f p ≡ answer table r f
  weighs p h = ((heaviest_exactly table r f passes p).0 h).1

  -- nothing weighs more than 0: the empty mapping
  pub solved_empty : (mapping mapping' : List ℕ) (w u v : ℕ) → TopOf r f work' (count r) 0 w u v → w ≡ 0 → mapping' ≡ replicate (count r) no_vertex ++ drop (count r) mapping → Solved table r f work mapping work' mapping' (pos 0)
  solved_empty mapping mapping' w u v t z e =
      let front : take (count r) mapping' ≡ replicate (count r) no_vertex = rw e (take_at (replicate (count r) no_vertex) (drop (count r) mapping) (count r) (length-replicate (count r) no_vertex)) in
      let a = top_answer w u v t in
      let zero : largest r f (recalled r f work') ≡ pos 0 = a.0 ∙ ap pos z in
      let h : Heaviest table r f (replicate (count r) no_vertex) = empty_heaviest table r f passes (recalled r f work') solves zero in
      record {
        filled = values_are;
        rest = rw front e;
        heaviest = rw front h;
        exact = rw front (weighs (replicate (count r) no_vertex) h);
        answered = ap pos (sym z) ∙ a.1;
      }

  -- the mapping read out from the top; its number comes as the signed number of the same bits
  pub solved_read : (mapping mapping' : List ℕ) (w u v : ℕ) → TopOf r f work' (count r) 0 w u v → w ≢ 0 → u < count r → v < count f → ReadOut table r f work' u v mapping mapping' → Solved table r f work mapping work' mapping' (to_z w32 w)
  solved_read mapping mapping' w u v t z lu lv R =
      let a = top_answer w u v t in
      let there : recalled r f work' u v v ≡ some (largest r f (recalled r f work')) = ⊎_elim (λ q. absurd (z q)) (λ q. q.2 ∙ ap some (sym a.0)) t.there in
      let h : Heaviest table r f (take (count r) mapping') = read_heaviest table r f passes work' u v (take (count r) mapping') lu lv R.read solves there in
      record {
        filled = values_are;
        rest = sym (take-append-drop (count r) mapping') ∙ ap (λ (y : List ℕ). take (count r) mapping' ++ y) R.rest;
        heaviest = h;
        exact = weighs (take (count r) mapping') h;
        answered = to_z_pos w32 t.fits ∙ a.1;
      }
