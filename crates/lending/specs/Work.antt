-- `lend_work`: the work numbers wanted are exactly what item 13 asks for, in each call that tests it (`exported_too`: in C as well). Assumes nothing.
use Rattle.std.proofs.Math.Path.{◌≡◌, sym, subst}
use Rattle.std.proofs.Common.{◌∙◌, arith}
use Rattle.std.specs.Prelude.{◌≢◌, Bool, true, false, not, ℕ, ◌≤◌, ◌<◌, length, ℤ}
use mathlib.Core.List.{List, [], ◌∷◌, ◌++◌, append_assoc, append-nil}
use Rattle.model.specs.declared.JobRecord.{JobRecord}
use Rattle.model.specs.Refusals.{Item, item, first_of}
use Rattle.model.specs.Order.{subproblems}
use Rattle.model.specs.Calls.{input_item, input_items, work_item, mapping_item, match_item}
use Rattle.model.specs.Jobs.{record_ok, same_trees, work_ok, is_left, start_items, start_item, advance_item, finish_item}
use Rattle.model.specs.Values.{values}
use Rattle.model.specs.Writing.{room_item, write_item}
use Rattle.model.specs.Sizes.{SizesNumbers}
use Rattle.trees.specs.Items.{first_here, first_then}
use Rattle.formats.specs.Inputs.{input_accepted}
use Rattle.subtrees.proofs.Filling.{values_long}
use Rattle.job_items.specs.Items.{start_work, start_none, start_numbered, regroup}
use Rattle.answer_numbers.specs.declared.job_numbers.JobMemory.{JobMemory}
use Rattle.answer_numbers.specs.Memory.{record_of}
use Rattle.call_numbers.specs.Exported.{Matches, Starts, Advances, Finishes, Writes}
use Rattle.sizes.specs.Answers.{sizes_told}

-- What holds of the number that each call answers that tests 13, lent these work numbers, whatever else it is lent. The contract of each says that its
-- number is this item.
pub record EachNumber (P : ℕ → Type 0) (table r f : List ℕ) (work : List ℤ) : Type 0 where
  pub start : P (start_item table r f work)
  pub advance : (j : JobRecord) → P (advance_item j table r f work)
  pub finish : (j : JobRecord) (mapping : List ℕ) → P (finish_item j table r f work mapping)
  pub one_call : (mapping : List ℕ) → P (match_item table r f work mapping)
  pub writing : (certificate : List ℕ) → P (write_item table r f work certificate)

-- none of these items is 13
data Other : List Item → Type 0 where
  end : Other []
  more : {k : ℕ} {t : Bool} {l : List Item} → k ≢ 13 → Other l → Other (item k t ∷ l)

other_first : {l : List Item} → Other l → first_of l ≢ 13
unfolding first_of
other_first end h = omega arith
other_first (more {t = true} n o) h = n h
other_first (more {t = false} n o) h = other_first o h

module _ (table r f : List ℕ) (work : List ℤ) where
  -- each of them tests 1 to 13, 25 and 26, and then items that are not 13
  each : (P : ℕ → Type 0) → ((rest : List Item) → Other rest → P (first_of (start_items table r f work ++ rest))) → EachNumber P table r f work
  unfolding start_item advance_item finish_item match_item write_item
  each P h =
      let late : JobRecord → List Item = λ j. item 14 (not (record_ok j)) ∷ item 15 (not (same_trees j r f)) ∷ item 16 (not (work_ok table r f work j.position)) ∷ [] in
      record {
        start = subst (λ (l : List Item). P (first_of l)) (append-nil (start_items table r f work)) (h [] end);
        advance = λ j. h (late j) (more {k = 14} (λ e. omega arith) (more {k = 15} (λ e. omega arith) (more {k = 16} (λ e. omega arith) end)));
        finish = λ j mapping.
            let last : List Item = item 17 (is_left j r f) ∷ mapping_item r mapping ∷ [] in
            subst (λ (l : List Item). P (first_of l)) (sym (append_assoc (start_items table r f work) (late j) last))
            (h (late j ++ last) (more {k = 14} (λ e. omega arith) (more {k = 15} (λ e. omega arith) (more {k = 16} (λ e. omega arith) (more {k = 17} (λ e. omega arith) (more {k = 18} (λ e. omega arith) end))))));
        one_call = λ mapping. last (mapping_item r mapping) (more {k = 18} (λ e. omega arith) end);
        writing = λ certificate. last (room_item r f certificate) (more {k = 19} (λ e. omega arith) end);
      }
    where
      last : (i : Item) → Other (i ∷ []) → P (first_of (input_items table r f ++ (work_item r f work ∷ i ∷ [])))
      last i o = subst (λ (l : List Item). P (first_of l)) (sym (regroup table r f work i)) (h (i ∷ []) o)

  enough : input_item table r f ≡ 0 → subproblems r f ≤ length work → EachNumber (λ k. k ≢ 13) table r f work
  unfolding start_item
  enough e l = each (λ k. k ≢ 13) (λ rest o h. other_first o (sym (first_then rest (start_numbered table r f work) (start_none table r f work e l)) ∙ h))

  short : input_item table r f ≡ 0 → length work < subproblems r f → EachNumber (λ k. k ≡ 13) table r f work
  unfolding start_item
  short e l =
      let s = start_work table r f work e l in
      each (λ k. k ≡ 13) (λ rest o. first_here (start_items table r f work) rest (λ z. let n : ◌≡◌ {A = ℕ} 13 0 = sym s ∙ z in omega arith) ∙ s)

-- what holds of the number that each exported call gives that tests 13
pub record EachCall (P : ℕ → Type 0) (table r f : List ℕ) (work : List ℤ) : Type 0 where
  pub start : {x x' : JobMemory} {k : ℕ} → Starts x table r f work x' k → P k
  pub advance : {x x' : JobMemory} {b : ℕ} {work' : List ℤ} {k n : ℕ} → Advances x table r f b work x' work' k n → P k
  pub finish : {j : JobRecord} {mapping mapping' : List ℕ} {k : ℕ} {v : ℤ} → Finishes j table r f work mapping mapping' k v → P k
  pub one_call : {mapping : List ℕ} {work' : List ℤ} {mapping' : List ℕ} {k : ℕ} {v : ℤ} → Matches table r f work mapping work' mapping' k v → P k
  pub writing : {certificate : List ℕ} {work' : List ℤ} {certificate' : List ℕ} {k l : ℕ} → Writes table r f work certificate work' certificate' k l → P k

pub exported_too : {P : ℕ → Type 0} {table r f : List ℕ} {work : List ℤ} → EachNumber P table r f work → EachCall P table r f work
exported_too {P} E = record {
  start = λ a. subst P (sym a.number) E.start;
  advance = λ {x} a. subst P (sym a.number) (E.advance (record_of x));
  finish = λ {j} {mapping} a. subst P (sym a.number) (E.finish j mapping);
  one_call = λ {mapping} a. subst P (sym a.number) (E.one_call mapping);
  writing = λ {certificate} a. subst P (sym a.number) (E.writing certificate);
}

-- The work numbers wanted are as many as there are values, which a match, a writing and a job at its end leave in them, one for each subproblem (`sub_at`
-- and `index_once` of crates/trees). With that many 13 applies to none of the calls, so that a start is carried out, and with fewer to each.
pub record WorkLent (table r f : List ℕ) (w : ℕ) : Type 0 where
  pub filled : length (values table r f) ≡ w
  pub starts : (work : List ℤ) → w ≤ length work → start_item table r f work ≡ 0
  pub enough : (work : List ℤ) → w ≤ length work → EachNumber (λ k. k ≢ 13) table r f work
  pub short : (work : List ℤ) → length work < w → EachNumber (λ k. k ≡ 13) table r f work

pub lend_work : {table r f : List ℕ} {refusal s w c : ℕ} → SizesNumbers table r f refusal s w c → refusal ≡ 0 → WorkLent table r f w
lend_work {table} {r} {f} {refusal} {s} {w} n z =
    let t = sizes_told n z in
    let e : w ≡ subproblems r f = t.work in
    record {
      filled = values_long table r f (input_accepted table r f t.passes) ∙ sym e;
      starts = λ work l. start_none table r f work t.passes (omega arith);
      enough = λ work l. enough table r f work t.passes (omega arith);
      short = λ work l. short table r f work t.passes (omega arith);
    }
