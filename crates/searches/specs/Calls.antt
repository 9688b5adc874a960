-- What the calls that count searches leave. Assumes nothing.
use Rattle.std.specs.Prelude.{◌≡◌, ◌≢◌, List, ℕ, ◌+◌, ◌*◌, ◌≤◌, ◌<◌, replicate, ℤ}
use Rattle.model.specs.Limits.{degree_limit, pair_limit}
use Rattle.model.specs.Order.{subproblems}
use Rattle.model.specs.Values.{fill}
use Rattle.model.specs.Jobs.{start_item}
use Rattle.assignment.specs.Matching.{at}
use Rattle.assignment.specs.Counts.{searches, Searches}
use Rattle.solver.specs.Bound.{search_most}
use Rattle.searches.specs.declared.pairs.Tally.{Tally}
use Rattle.searches.specs.Bounds.{bound_to}

-- The answer is the first item of a start that applies. Where one does, nothing is changed; else all work numbers are filled, and from 0 at most
-- `search_most` searches are counted, and no pair of places more often than searches.
pub record CountCall (table recorded found : List ℕ) (work : List ℤ) (counts : List ℕ) (work' : List ℤ) (counts' : List ℕ) (answer : ℕ) : Type 0 where
  pub number : answer ≡ start_item table recorded found work
  pub work_kept : answer ≢ 0 → work' ≡ work
  pub counts_kept : answer ≢ 0 → counts' ≡ counts
  pub filled : answer ≡ 0 → work' ≡ fill table recorded found work 0 (subproblems recorded found)
  pub counted : answer ≡ 0 → Searches (search_most recorded found 0 (subproblems recorded found)) (replicate (pair_limit + 1) 0) counts'

-- The same pair by pair: all searches added up are no more than the bounds of all pairs, which add up to `search_most`. Where an item applies nothing is counted.
pub record TallyCall (table recorded found : List ℕ) (work work' : List ℤ) (t : Tally) : Type 0 where
  pub number : t.item ≡ start_item table recorded found work
  pub work_kept : t.item ≢ 0 → work' ≡ work
  pub refused : t.item ≢ 0 → (t.searches ≡ 0) × (t.most ≡ 0) × (t.looks ≡ 0) × (t.reached ≡ 0) × (t.greatest ≡ 0)
  pub filled : t.item ≡ 0 → work' ≡ fill table recorded found work 0 (subproblems recorded found)
  pub few : t.searches ≤ t.most
  pub bound : t.item ≡ 0 → t.most ≡ search_most recorded found 0 (subproblems recorded found)
  pub looked : t.looks ≤ pair_limit * t.searches
  pub full : t.reached ≤ t.searches
  pub low : t.greatest ≤ 2 * degree_limit

-- ---- on the way

-- a pair's counts: no pair of places was looked at more often than there were searches
pub record PairCounts (counts : List ℕ) : Type 0 where
  pub each : (p : ℕ) → p < pair_limit → at counts p ≤ searches counts
  pub low : searches counts ≤ 2 * degree_limit

-- the pairs whose subproblems are the first n, with no item
pub record Tallied (recorded found : List ℕ) (n : ℕ) (t : Tally) : Type 0 where
  pub passed : t.item ≡ 0
  pub few : t.searches ≤ t.most
  pub bound : t.most ≡ bound_to recorded found n
  pub looked : t.looks ≤ pair_limit * t.searches
  pub full : t.reached ≤ t.searches
  pub low : t.greatest ≤ 2 * degree_limit
