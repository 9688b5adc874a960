-- What the split of the match program's input says, and that its two numbers give the model's parts. Assumes nothing.
use Rattle.std.specs.Prelude.{◌≡◌, refl, Bool, true, false, not, ◌||◌, cond, List, [], ◌∷◌, ℕ, ◌+◌, ◌-◌, ◌≤◌, ◌<◌, min, eqb, length, take, drop}
use Rattle.std.proofs.Common.{sym, ap, ◌∙◌, ⊎_elim, true≢false, arith, length-drop, drop_of_length-le, take_all, drop-drop}
use Rattle.std.proofs.Math.ListN.{get_or-eq_default}
use Rattle.std.proofs.lemmas.Bool.{eqb-false}
use Rattle.foundations.specs.Tests.{less?, and_false, or_true, or_false, and_split, is_false}
use Rattle.model.specs.Bytes.{byte_at, is_mark, vertex_mark, serial_mark}
use Rattle.model.specs.Lengths.{tree_head_length}
use Rattle.model.specs.Table.{table_length}
use Rattle.model.specs.Tree.{count, with_serials, vertex_mark_of}
use Rattle.model.specs.Input.{table_part, after_table, length_known, tree_length, recorded_part, found_part}

-- ---- the length of a tree, from its head and its first vertex mark

-- the first vertex record has the mark m
abbrev begins : List ℕ → List ℕ → Bool
begins s m = is_mark s tree_head_length m

-- of a mark that is cut off the second byte is missing
no_mark : (s : List ℕ) (m : ℕ) → length s < tree_head_length + 2 → eqb 0 m ≡ false → begins s (0xB1 ∷ m ∷ []) ≡ false
no_mark s m h e = rw (get_or-eq_default s 0 {n = tree_head_length + 1} (omega arith), e) (and_false (eqb (byte_at s tree_head_length) 0xB1))

-- the mark of the tree's kind is either mark
pub either : (s : List ℕ) → (begins s vertex_mark || begins s serial_mark) ≡ begins s (vertex_mark_of s)
unfolding vertex_mark_of with_serials
either s = go (begins s serial_mark) refl
  where
    go : (t : Bool) → begins s serial_mark ≡ t → (begins s vertex_mark || begins s serial_mark) ≡ begins s (cond (begins s serial_mark) serial_mark vertex_mark)
    go true e = rw e (or_true (begins s vertex_mark) ∙ sym e)
    go false e = rw e (or_false (begins s vertex_mark))

pub length_unknown : (s : List ℕ) → length s < tree_head_length + 2 → length_known s ≡ false
unfolding length_known
length_unknown s h = rw (← either s, no_mark s 2 h refl, no_mark s 7 h refl) (and_false (not (eqb (count s) 0)))

pub length_says : (s : List ℕ) → length_known s ≡ true → (tree_head_length + 1 < length s) × (1 ≤ count s)
unfolding length_known
length_says s h = (⊎_elim (λ l. absurd (true≢false (sym h ∙ length_unknown s l))) (λ l. l) (less? (length s) (tree_head_length + 2)), some)
  where
    some : 1 ≤ count s
    some = let z = eqb-false (count s) 0 (is_false _ (λ e. true≢false (sym (and_split (not (eqb (count s) 0)) _ h).0 ∙ rw e))) in omega (arith, z)

-- ---- the split

-- the recorded tree begins at a, the found one at b
pub record SplitAt (input : List ℕ) (a b : ℕ) : Type 0 where
  pub ordered : a ≤ b
  pub within : b ≤ length input
  pub table : take a input ≡ table_part input
  pub recorded : take (b - a) (drop a input) ≡ recorded_part input
  pub found : drop b input ≡ found_part input

-- to take or drop more than there is, is to take or drop all
take_min : (n : ℕ) (l : List ℕ) → take (min n (length l)) l ≡ take n l
take_min n l = ⊎_elim
    (λ h. let e : min n (length l) ≡ n = omega arith in rw e)
    (λ h. let e : min n (length l) ≡ length l = omega arith in let s : length l ≤ length l = omega arith in rw (e, take_all n l h, take_all (length l) l s))
    (less? n (length l))

drop_min : (n : ℕ) (l : List ℕ) → drop (min n (length l)) l ≡ drop n l
drop_min n l = ⊎_elim
    (λ h. let e : min n (length l) ≡ n = omega arith in rw e)
    (λ h. let e : min n (length l) ≡ length l = omega arith in let s : length l ≤ length l = omega arith in rw e (drop_of_length-le l {i = length l} s ∙ sym (drop_of_length-le l {i = n} h)))
    (less? n (length l))

pub split_at : (input : List ℕ) (a b : ℕ) → a ≡ min (table_length input) (length input) → b ≡ a + min (tree_length (drop a input)) (length (drop a input)) → SplitAt input a b
unfolding table_part after_table recorded_part found_part
split_at input a b e g =
    let d : drop a input ≡ drop (table_length input) input = rw e (drop_min (table_length input) input) in
    let l : length (drop a input) ≡ length input - a = length-drop a input in
    let m : b - a ≡ min (tree_length (drop a input)) (length (drop a input)) = omega arith in
    record {
      ordered = omega arith;
      within = omega arith;
      table = rw e (take_min (table_length input) input);
      recorded = rw m (take_min (tree_length (drop a input)) (drop a input)) ∙ ap (λ (y : List ℕ). take (tree_length y) y) d;
      found = rw g (sym (drop-drop (min (tree_length (drop a input)) (length (drop a input))) a input) ∙ drop_min (tree_length (drop a input)) (drop a input)) ∙ ap (λ (y : List ℕ). drop (tree_length y) y) d;
    }
