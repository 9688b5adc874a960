-- The theorems over bytes, for every table and two trees that items 1 to 12, 25 and 26 let pass. Each statement has only definitions of `model`.
-- Assumes nothing.
use Rattle.std.specs.Prelude.{◌≡◌, ◌⊎◌, ◌≢◌, ◌↔◌, true, List, ◌++◌, ℕ, ◌+◌, ◌≤◌, ◌<◌, ℤ, pos, neg_ℤ, ◌≤ℤ◌, length, get_or, drop, take, replicate}
use Rattle.model.specs.Calls.{input_item}
use Rattle.model.specs.Duals.{AllCover}
use Rattle.model.specs.Limits.{weight_limit, forbidden, ceiling, no_vertex}
use Rattle.model.specs.Mapping.{IsMapping, weight, Heaviest, mapping_ok}
use Rattle.model.specs.Order.{subproblems, u_at, v_at}
use Rattle.model.specs.Pairs.{vertex_pair}
use Rattle.model.specs.Tree.{count}
use Rattle.model.specs.Values.{Subproblem, Solves, value, largest, answer, number, values, recalled, clipped, fill}
use Rattle.model.specs.Weights.{Weight, none}
use Rattle.formats.specs.Inputs.{Accepted, input_accepted}
use Rattle.subtrees.specs.Accepted.{recorded_tree, found_tree}
use Rattle.subtrees.proofs.Filling.{fill_right, fill_all, recalled_solves, values_in_range, value_clipped}
use Rattle.subtrees.proofs.Optimal.{value_solves, bounding_bounds, solves_bounds, solves_attained, solves_heaviest, solves_largest, empty_is_mapping, empty_weighs, covered_bounding}
use Rattle.subtrees.proofs.QuickTest.{quick_test}
use Rattle.subtrees.specs.Trees.{IsTree}
use Rattle.subtrees.proofs.ValueRange.{weight_in_range}

module _ (table recorded found : List ℕ) (passes : input_item table recorded found ≡ 0) where
  A : Accepted table recorded found
  A = input_accepted table recorded found passes

  tr : IsTree recorded
  tr = recorded_tree A

  tf : IsTree found
  tf = found_tree A

  -- ---- 1. every mapping weighs at most the answer
  -- (the proof asks of values only what `Bounding` says, which a certificate's values satisfy too: 7)

  pub mapping_bounded : (p : List ℕ) → IsMapping table recorded found p → weight table recorded found p ≤ℤ answer table recorded found
  unfolding answer largest
  mapping_bounded = solves_bounds table recorded found tr tf (value table recorded found) (value_solves table recorded found tr tf)

  -- ---- 2. some mapping weighs it; a mapping is heaviest exactly if it does

  pub attained : (p : List ℕ) × IsMapping table recorded found p × (weight table recorded found p ≡ answer table recorded found)
  unfolding answer largest
  attained = let b = solves_attained table recorded found tr tf (value table recorded found) (value_solves table recorded found tr tf) in (b.bytes, b.mapping, b.weighs)

  pub heaviest_exactly : (p : List ℕ) → Heaviest table recorded found p ↔ (IsMapping table recorded found p × (weight table recorded found p ≡ answer table recorded found))
  unfolding answer largest
  heaviest_exactly = solves_heaviest table recorded found tr tf (value table recorded found) (value_solves table recorded found tr tf)

  -- ---- 3. the empty mapping counts, with weight 0

  pub empty_mapping : IsMapping table recorded found (replicate (count recorded) no_vertex) × (weight table recorded found (replicate (count recorded) no_vertex) ≡ pos 0)
  empty_mapping = (empty_is_mapping table recorded found tr tf, empty_weighs table recorded found tr tf)

  -- ---- every mapping's weight fits 32 bits, and so does the answer

  pub weight_range : (p : List ℕ) → IsMapping table recorded found p → (neg_ℤ (pos ceiling) ≤ℤ weight table recorded found p) × (weight table recorded found p ≤ℤ pos ceiling)
  weight_range = weight_in_range table recorded found A

  -- ---- 4. the quick test decides

  pub quick_mapping : (p : List ℕ) → (mapping_ok table recorded found p ≡ true) ↔ IsMapping table recorded found p
  quick_mapping = quick_test table recorded found tr tf

  -- ---- 6. the values

  -- they solve the subproblems, and so do work numbers that begin with them
  pub values_solve : Solves table recorded found (value table recorded found)
  values_solve = value_solves table recorded found tr tf

  pub work_solves : (rest : List ℤ) → Solves table recorded found (recalled recorded found (values table recorded found ++ rest))
  work_solves = recalled_solves table recorded found A

  -- and the largest of any such is the answer
  pub solved_answer : (given : ℕ → ℕ → ℕ → Weight) → Solves table recorded found given → largest recorded found given ≡ answer table recorded found
  solved_answer = solves_largest table recorded found tr tf

  -- the forbidden number at a forbidden pair, between the least weight and the ceiling at an allowed one
  pub values_range : (k : ℕ) → k < subproblems recorded found → ((vertex_pair table recorded found (u_at recorded found k) (v_at found k) ≡ none) × (get_or (values table recorded found) k (pos 0) ≡ forbidden)) ⊎ ((vertex_pair table recorded found (u_at recorded found k) (v_at found k) ≢ none) × (neg_ℤ (pos weight_limit) ≤ℤ get_or (values table recorded found) k (pos 0)) × (get_or (values table recorded found) k (pos 0) ≤ℤ pos ceiling))
  values_range = values_in_range table recorded found A

  -- clipping changes none of them
  pub values_unclipped : (u v s : ℕ) → Subproblem recorded found u v s → clipped (value table recorded found u v s) ≡ number (value table recorded found u v s)
  values_unclipped = value_clipped table recorded found A

  -- filling any work leaves the values in order, then what was there
  pub fill_values : (work : List ℤ) → subproblems recorded found ≤ length work → fill table recorded found work 0 (subproblems recorded found) ≡ values table recorded found ++ drop (subproblems recorded found) work
  fill_values = fill_all table recorded found A

  -- the numbers before a position decide the rest
  pub fill_prefix : (work : List ℤ) (k c : ℕ) → k + c ≤ subproblems recorded found → subproblems recorded found ≤ length work → take k work ≡ take k (values table recorded found) → fill table recorded found work k c ≡ take (k + c) (values table recorded found) ++ drop (k + c) work
  fill_prefix = fill_right table recorded found A

  -- ---- 7. recorded values with duals that cover bound every mapping

  module _ (given : ℕ → ℕ → ℕ → Weight) (covers : AllCover table recorded found given) where
    pub covered_bounds : (p : List ℕ) → IsMapping table recorded found p → weight table recorded found p ≤ℤ largest recorded found given
    covered_bounds = bounding_bounds table recorded found tr tf given (covered_bounding table recorded found tr tf given covers)

    -- so a mapping that weighs as much is heaviest
    pub covered_heaviest : (p : List ℕ) → IsMapping table recorded found p → weight table recorded found p ≡ largest recorded found given → Heaviest table recorded found p
    covered_heaviest p M e = record { mapping = M; most = λ q N. rw e (covered_bounds q N) }
