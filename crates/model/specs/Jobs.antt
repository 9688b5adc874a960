-- Jobs: the record, the items 14 to 17, and what start, advance and finish leave and answer, over any memory. Paper 01, "Jobs" and "Why a call is
-- turned down"; item 16 as paper 02, [2] and [3], have it.
use Rattle.std.specs.Prelude.{◌≡◌, ◌≢◌, Bool, true, false, not, ◌&&◌, cond, List, [], ◌∷◌, ◌++◌, ℕ, ◌+◌, ◌*◌, ◌-◌, min, get_or, take, drop, eqb, ltb, leb, ℤ, pos, neg_ℤ, ⊤, Ok, Err}
use Rattle.std.specs.Int.Signed.{le_z}
use Rattle.foundations.specs.Lists.{every}
use Rattle.model.specs.declared.JobRecord.{JobRecord}
use Rattle.model.specs.declared.StartOutcome.{StartOutcome}
use Rattle.model.specs.declared.AdvanceOutcome.{AdvanceOutcome}
use Rattle.model.specs.Limits.{weight_limit, ceiling, vertex_limit}
use Rattle.model.specs.Refusals.{Item, item, first_of, Answer, refusal_in, with_number}
use Rattle.model.specs.Weights.{Weight, none, some, is_forbidden}
use Rattle.model.specs.Tree.{count}
use Rattle.model.specs.Order.{subproblems, u_at, v_at}
use Rattle.model.specs.Pairs.{vertex_pair}
use Rattle.model.specs.Mapping.{IsMapping, Heaviest, weight}
use Rattle.model.specs.Values.{values, answer, fill}
use Rattle.model.specs.Calls.{input_items, work_item, mapping_item}
use Rattle.model.specs.Match.{refusal_of, weight_of, Refusal}

-- ---- the record

-- "A fresh job record is idle, with total 0 and with n, m and position 0."
unfoldable pub fresh_record : JobRecord
fresh_record = record { idle = true; n = 0; m = 0; position = 0; total = 0 }

-- where the total stops
abbrev pub total_limit : ℕ
total_limit = 4294967295

-- ---- items 14 to 17

abbrev pub count_ok : ℕ → Bool
count_ok n = leb 1 n && leb n vertex_limit

-- 14: idle, n or m outside 1 to 64, or the position above n(3m - 2) for its own n and m
unfoldable pub record_ok : JobRecord → Bool
record_ok j = not j.idle && (count_ok j.n && (count_ok j.m && leb j.position (j.n * (3 * j.m - 2))))

-- 15: not the trees' n and m
unfoldable pub same_trees : JobRecord → List ℕ → List ℕ → Bool
same_trees j recorded found = eqb j.n (count recorded) && eqb j.m (count found)

-- 16: a work number at a vertex pair of this weight; the range is that of paper 02, [2]
unfoldable pub number_ok : Weight → ℤ → Bool
number_ok none z = is_forbidden z
number_ok (some w) z = le_z (neg_ℤ (pos weight_limit)) z && le_z z (pos ceiling)

unfoldable pub work_ok : List ℕ → List ℕ → List ℕ → List ℤ → ℕ → Bool
work_ok table recorded found work position = every (λ k. number_ok (vertex_pair table recorded found (u_at recorded found k) (v_at found k)) (get_or work k (pos 0))) position

-- 17: subproblems are left
unfoldable pub is_left : JobRecord → List ℕ → List ℕ → Bool
is_left j recorded found = ltb j.position (subproblems recorded found)

-- ---- the items of each call, in the order tested: start 1 to 13, advance 1 to 16, finish 1 to 18, each with 25 and 26

abbrev pub start_items : List ℕ → List ℕ → List ℕ → List ℤ → List Item
start_items table recorded found work = input_items table recorded found ++ (work_item recorded found work ∷ [])

abbrev pub advance_items : JobRecord → List ℕ → List ℕ → List ℕ → List ℤ → List Item
advance_items j table recorded found work =
    start_items table recorded found work
    ++ (item 14 (not (record_ok j)) ∷ item 15 (not (same_trees j recorded found)) ∷ item 16 (not (work_ok table recorded found work j.position)) ∷ [])

abbrev pub finish_items : JobRecord → List ℕ → List ℕ → List ℕ → List ℤ → List ℕ → List Item
finish_items j table recorded found work mapping =
    advance_items j table recorded found work
    ++ (item 17 (is_left j recorded found) ∷ mapping_item recorded mapping ∷ [])

unfoldable pub start_item : List ℕ → List ℕ → List ℕ → List ℤ → ℕ
start_item table recorded found work = first_of (start_items table recorded found work)

unfoldable pub advance_item : JobRecord → List ℕ → List ℕ → List ℕ → List ℤ → ℕ
advance_item j table recorded found work = first_of (advance_items j table recorded found work)

unfoldable pub finish_item : JobRecord → List ℕ → List ℕ → List ℕ → List ℤ → List ℕ → ℕ
finish_item j table recorded found work mapping = first_of (finish_items j table recorded found work mapping)

-- ---- start: clears the idle mark, sets n, m and position 0, also over an earlier job, and keeps the total

unfoldable pub started : JobRecord → List ℕ → List ℕ → JobRecord
started j recorded found = record { idle = false; n = count recorded; m = count found; position = 0; total = j.total }

unfoldable pub start_of : JobRecord → List ℕ → List ℕ → List ℕ → List ℤ → StartOutcome
start_of j table recorded found work =
    cond (eqb (start_item table recorded found work) 0)
    (record { job = started j recorded found; answer = Ok tt })
    (record { job = j; answer = Err (with_number (start_item table recorded found work)) })

-- ---- advance: solves the smaller of the budget (the paper's allowance) and what is left, and adds it to position and total

unfoldable pub slice_count : JobRecord → List ℕ → List ℕ → ℕ → ℕ
slice_count j recorded found budget = min budget (subproblems recorded found - j.position)

unfoldable pub advanced : JobRecord → ℕ → JobRecord
advanced j c = record { idle = j.idle; n = j.n; m = j.m; position = j.position + c; total = min (j.total + c) total_limit }

unfoldable pub advance_of : JobRecord → List ℕ → List ℕ → List ℕ → ℕ → List ℤ → AdvanceOutcome
advance_of j table recorded found budget work =
    cond (eqb (advance_item j table recorded found work) 0)
    (record { job = advanced j (slice_count j recorded found budget); answer = Ok (slice_count j recorded found budget) })
    (record { job = j; answer = Err (with_number (advance_item j table recorded found work)) })

-- the work numbers after it, from everything as lent: from the position on as many are stored as it counts, each from the numbers before it, and
-- none above the ceiling (`fill`)
unfoldable pub advance_work : JobRecord → List ℕ → List ℕ → List ℕ → ℕ → List ℤ → List ℤ
advance_work j table recorded found budget work =
    cond (eqb (advance_item j table recorded found work) 0)
    (fill table recorded found work j.position (slice_count j recorded found budget))
    work

-- the paper's number for each answer, 0 where the call is not refused; and the count, 0 where it is
abbrev pub start_refusal : Answer ⊤ → ℕ
start_refusal a = refusal_in a

abbrev pub advance_refusal : Answer ℕ → ℕ
advance_refusal a = refusal_in a

abbrev pub advance_count : Answer ℕ → ℕ
advance_count (Ok c) = c
advance_count (Err e) = 0

unfoldable pub advance_solves : JobRecord → List ℕ → List ℕ → List ℕ → ℕ → List ℤ → ℕ
advance_solves j table recorded found budget work = cond (eqb (advance_item j table recorded found work) 0) (slice_count j recorded found budget) 0

-- the calls: the record after the call and the answer; the answer in the paper's numbers; the work numbers after an advance
pub record StartCall (j : JobRecord) (table recorded found : List ℕ) (work : List ℤ) (o : StartOutcome) : Type 0 where
  pub outcome : o ≡ start_of j table recorded found work
  pub number : start_refusal o.answer ≡ start_item table recorded found work

pub record AdvanceCall (j : JobRecord) (table recorded found : List ℕ) (budget : ℕ) (work work' : List ℤ) (o : AdvanceOutcome) : Type 0 where
  pub outcome : o ≡ advance_of j table recorded found budget work
  pub number : advance_refusal o.answer ≡ advance_item j table recorded found work
  pub counts : advance_count o.answer ≡ advance_solves j table recorded found budget work
  pub fills : work' ≡ advance_work j table recorded found budget work

-- ---- finish: a mapping in the first n bytes and the rest as it was, and its exact weight; over undisturbed memory, that is where the work numbers
-- are the values, a heaviest one, which weighs the answer. Which mapping is the program's choice.

pub record Finished (table recorded found : List ℕ) (work : List ℤ) (mapping mapping' : List ℕ) (a : Answer ℤ) : Type 0 where
  pub rest : mapping' ≡ take (count recorded) mapping' ++ drop (count recorded) mapping
  pub legal : IsMapping table recorded found (take (count recorded) mapping')
  pub given : a ≡ Ok (weight table recorded found (take (count recorded) mapping'))
  pub number : refusal_of a ≡ 0
  pub weighs : weight_of a ≡ weight table recorded found (take (count recorded) mapping')
  pub heaviest : take (subproblems recorded found) work ≡ values table recorded found → Heaviest table recorded found (take (count recorded) mapping')
  pub answered : take (subproblems recorded found) work ≡ values table recorded found → a ≡ Ok (answer table recorded found)

-- the call: the record and the work numbers are only read
pub record FinishCall (j : JobRecord) (table recorded found : List ℕ) (work : List ℤ) (mapping mapping' : List ℕ) (a : Answer ℤ) : Type 0 where
  pub refused : finish_item j table recorded found work mapping ≢ 0 → Refusal (finish_item j table recorded found work mapping) work mapping work mapping' a
  pub finished : finish_item j table recorded found work mapping ≡ 0 → Finished table recorded found work mapping mapping' a
