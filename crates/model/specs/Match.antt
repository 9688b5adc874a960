-- The match in one call: what it leaves, and what its answer says. Paper 01, "The mapping", "Jobs" (the work numbers of a one-call match) and
-- "Why a call is turned down".
use Rattle.std.specs.Prelude.{◌≡◌, ◌≢◌, List, ◌++◌, ℕ, take, drop, ℤ, pos, Ok, Err}
use Rattle.model.specs.Refusals.{Answer, refusal_in, with_number}
use Rattle.model.specs.Tree.{count}
use Rattle.model.specs.Order.{subproblems}
use Rattle.model.specs.Calls.{match_item}
use Rattle.model.specs.Mapping.{Heaviest, weight}
use Rattle.model.specs.Values.{values, answer}

-- the paper's number for each case of the answer, 0 where the call is not refused; and the weight, 0 where it is
abbrev pub refusal_of : Answer ℤ → ℕ
refusal_of a = refusal_in a

abbrev pub weight_of : Answer ℤ → ℤ
weight_of (Ok w) = w
weight_of (Err e) = pos 0

-- Not refused: all values in order and the rest of the work numbers as it was; a heaviest mapping in the first n bytes and the rest as it
-- was; its weight. Which heaviest mapping is the program's choice.
pub record Matched (table recorded found : List ℕ) (work : List ℤ) (mapping : List ℕ) (work' : List ℤ) (mapping' : List ℕ) (a : Answer ℤ) : Type 0 where
  pub values_left : work' ≡ values table recorded found ++ drop (subproblems recorded found) work
  pub rest : mapping' ≡ take (count recorded) mapping' ++ drop (count recorded) mapping
  pub heaviest : Heaviest table recorded found (take (count recorded) mapping')
  pub exact : weight table recorded found (take (count recorded) mapping') ≡ answer table recorded found
  pub given : a ≡ Ok (answer table recorded found)
  pub number : refusal_of a ≡ 0
  pub weighs : weight_of a ≡ answer table recorded found

-- Refused: the number of the first item that applies, and nothing changed.
pub record Refusal (item : ℕ) (work : List ℤ) (mapping : List ℕ) (work' : List ℤ) (mapping' : List ℕ) (a : Answer ℤ) : Type 0 where
  pub given : a ≡ Err (with_number item)
  pub number : refusal_of a ≡ item
  pub weighs : weight_of a ≡ pos 0
  pub work_kept : work' ≡ work
  pub mapping_kept : mapping' ≡ mapping

-- the call: from what is lent at entry to what is there at exit, with the answer
pub record MatchCall (table recorded found : List ℕ) (work : List ℤ) (mapping : List ℕ) (work' : List ℤ) (mapping' : List ℕ) (a : Answer ℤ) : Type 0 where
  pub refused : match_item table recorded found work mapping ≢ 0 → Refusal (match_item table recorded found work mapping) work mapping work' mapping' a
  pub matched : match_item table recorded found work mapping ≡ 0 → Matched table recorded found work mapping work' mapping' a

-- What the call leaves in the work numbers and the mapping, the answer aside, where this is the first item that applies, 0 for none.
pub record MatchLeaves (item : ℕ) (table recorded found : List ℕ) (work : List ℤ) (mapping : List ℕ) (work' : List ℤ) (mapping' : List ℕ) : Type 0 where
  pub work_kept : item ≢ 0 → work' ≡ work
  pub mapping_kept : item ≢ 0 → mapping' ≡ mapping
  pub values_left : item ≡ 0 → work' ≡ values table recorded found ++ drop (subproblems recorded found) work
  pub rest : item ≡ 0 → mapping' ≡ take (count recorded) mapping' ++ drop (count recorded) mapping
  pub heaviest : item ≡ 0 → Heaviest table recorded found (take (count recorded) mapping')
  pub exact : item ≡ 0 → weight table recorded found (take (count recorded) mapping') ≡ answer table recorded found
