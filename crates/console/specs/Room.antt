-- The match of an input's parts, what it leaves, and that an answer with a weight has a byte for each recorded vertex. Assumes nothing.
use Rattle.std.specs.Prelude.{◌≡◌, List, ℕ, ◌≤◌, ◌-◌, length, take, drop, ℤ}
use Rattle.std.proofs.Common.{sym, ap, ◌∙◌, ⊎_elim, arith, length-drop, take_all}
use Rattle.foundations.specs.Tests.{same?}
use Rattle.model.specs.Refusals.{Answer}
use Rattle.model.specs.Tree.{count}
use Rattle.model.specs.Calls.{match_item}
use Rattle.model.specs.Input.{table_part, recorded_part, found_part}
use Rattle.model.specs.Match.{refusal_of, MatchCall, MatchLeaves}
use Rattle.formats.specs.Split.{SplitAt}
use Rattle.one_call.specs.Items.{match_passed}

-- what the match of the three parts of an input leaves
abbrev pub PartsLeave : List ℕ → List ℤ → List ℕ → List ℤ → List ℕ → Type 0
PartsLeave input work mapping work' mapping' =
    MatchLeaves (match_item (table_part input) (recorded_part input) (found_part input) work mapping) (table_part input) (recorded_part input) (found_part input) work mapping work' mapping'

pub call_leaves : {table r f : List ℕ} {work : List ℤ} {mapping : List ℕ} {work' : List ℤ} {mapping' : List ℕ} {a : Answer ℤ} → MatchCall table r f work mapping work' mapping' a → MatchLeaves (match_item table r f work mapping) table r f work mapping work' mapping'
call_leaves call = record {
  work_kept = λ n. (call.refused n).work_kept;
  mapping_kept = λ n. (call.refused n).mapping_kept;
  values_left = λ z. (call.matched z).values_left;
  rest = λ z. (call.matched z).rest;
  heaviest = λ z. (call.matched z).heaviest;
  exact = λ z. (call.matched z).exact;
}

-- the call on the split's parts is the call on the model's parts
pub match_parts : {input : List ℕ} {a b : ℕ} {work : List ℤ} {mapping : List ℕ} {work' : List ℤ} {mapping' : List ℕ} {r : Answer ℤ} → SplitAt input a b → MatchCall (take (a - 0) (drop 0 input)) (take (b - a) (drop a input)) (take (length input - b) (drop b input)) work mapping work' mapping' r → MatchCall (table_part input) (recorded_part input) (found_part input) work mapping work' mapping' r
match_parts {input} {a} {b} s c =
    let rest : take (length input - b) (drop b input) ≡ found_part input = take_all (length input - b) (drop b input) (omega (arith, length-drop b input)) ∙ s.found in
    let zero : a - 0 ≡ a = omega arith in
    let front : take (a - 0) (drop 0 input) ≡ table_part input = ap (λ (n : ℕ). take n input) zero ∙ s.table in
    rw (sym front, sym s.recorded, sym rest) c

pub found_room : {table r f : List ℕ} {work : List ℤ} {mapping : List ℕ} {work' : List ℤ} {mapping' : List ℕ} {a : Answer ℤ} → MatchCall table r f work mapping work' mapping' a → refusal_of a ≡ 0 → count r ≤ length mapping
found_room {table} {r} {f} {work} {mapping} call e =
    ⊎_elim
    (λ z. (match_passed table r f work mapping z).2)
    (λ n. absurd (n (sym (call.refused n).number ∙ e)))
    (same? (match_item table r f work mapping) 0)
