-- What follows from the theorems on mappings and the answer. Assumes nothing.
use Rattle.std.specs.Prelude.{◌≡◌, List, ℕ, pos, ◌≤ℤ◌, replicate}
use Rattle.std.proofs.Common.{sym, ◌∙◌}
use Rattle.model.specs.Calls.{input_item}
use Rattle.model.specs.Limits.{ceiling, no_vertex}
use Rattle.model.specs.Mapping.{Heaviest}
use Rattle.model.specs.Tree.{count}
use Rattle.model.specs.Values.{Solves, largest, answer}
use Rattle.model.specs.Weights.{Weight}
use Rattle.formats.specs.Inputs.{input_accepted}
use Rattle.subtrees.specs.Accepted.{recorded_tree, found_tree}
use Rattle.subtrees.proofs.Optimal.{solves_heaviest}
use Rattle.subtrees.proofs.Theorems.{mapping_bounded, attained, empty_mapping, weight_range}

module _ (table recorded found : List ℕ) (passes : input_item table recorded found ≡ 0) where
  pub answer_range : (pos 0 ≤ℤ answer table recorded found) × (answer table recorded found ≤ℤ pos ceiling)
  answer_range =
      let e = empty_mapping table recorded found passes in
      let a = attained table recorded found passes in
      (rw e.1 at (mapping_bounded table recorded found passes (replicate (count recorded) no_vertex) e.0), rw a.2 at (weight_range table recorded found passes a.0 a.1).1)

  -- ---- 5. the empty mapping is a heaviest one where no value with s = v is above 0

  pub empty_heaviest : (given : ℕ → ℕ → ℕ → Weight) → Solves table recorded found given → largest recorded found given ≡ pos 0 → Heaviest table recorded found (replicate (count recorded) no_vertex)
  empty_heaviest given S e =
      let A = input_accepted table recorded found passes in
      let m = empty_mapping table recorded found passes in
      (solves_heaviest table recorded found (recorded_tree A) (found_tree A) given S (replicate (count recorded) no_vertex)).1 (m.0, m.1 ∙ sym e)
