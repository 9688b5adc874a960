-- The items of the match in one call: 1 to 13, 25 and 26, then 18. Assumes nothing.
use Rattle.std.specs.Prelude.{◌≡◌, ◌≢◌, List, ℕ, ◌≤◌, ◌<◌, length, ℤ}
use Rattle.std.proofs.Common.{arith}
use Rattle.model.specs.Tree.{count}
use Rattle.model.specs.Order.{subproblems}
use Rattle.model.specs.Calls.{input_item, match_item}
use Rattle.model.specs.Jobs.{start_item}
use Rattle.job_items.specs.Items.{last_start, last_yes, last_none, last_passed}

module _ (table r f : List ℕ) (work : List ℤ) (mapping : List ℕ) where
  pub match_start : start_item table r f work ≢ 0 → match_item table r f work mapping ≡ start_item table r f work
  unfolding match_item
  match_start = last_start table r f work 18 (length mapping) (count r)

  pub match_mapping : start_item table r f work ≡ 0 → length mapping < count r → match_item table r f work mapping ≡ 18
  unfolding match_item
  match_mapping = last_yes table r f work 18 (length mapping) (count r)

  pub match_none : start_item table r f work ≡ 0 → count r ≤ length mapping → match_item table r f work mapping ≡ 0
  unfolding match_item
  match_none = last_none table r f work 18 (length mapping) (count r)

  -- none applies
  pub match_passed : match_item table r f work mapping ≡ 0 → (input_item table r f ≡ 0) × (subproblems r f ≤ length work) × (count r ≤ length mapping)
  unfolding match_item
  match_passed = last_passed table r f work 18 (length mapping) (count r) (omega arith)
