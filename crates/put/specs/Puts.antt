-- What storing a mark, a number, a row of duals and a record leaves. Assumes nothing.
use Rattle.std.specs.Prelude.{◌≡◌, true, List, ℕ, ◌+◌, ◌*◌, ◌≤◌, ◌<◌, length, get_or, ℤ, pos}
use Rattle.std.proofs.Common.{◌∙◌, inl, arith, not-suc-le-zero, below_more, SFits}
use Rattle.std.specs.Int.{w32}
use Rattle.model.specs.Lengths.{subproblem_length}
use Rattle.model.specs.Limits.{degree_limit, dual_limit}
use Rattle.model.specs.Bytes.{is_mark, int32_at, put_int32}
use Rattle.model.specs.Certificate.{record_mark}
use Rattle.integers.specs.Laws.{put_length, put_other, read_put}
use Rattle.put.specs.Kept.{Kept, kept_none, kept_wide, kept_both, kept_number, kept_mark}

-- the first `count` of a row of duals fit four bytes each
pub record Fit (duals : List ℕ) (count : ℕ) : Type 0 where
  pub few : count ≤ degree_limit
  pub low : (j : ℕ) → j < count → get_or duals j 0 ≤ dual_limit

pub record MarkPut (k : ℕ) (m z z' : List ℕ) : Type 0 where
  pub mark : is_mark z' k m ≡ true
  pub kept : Kept k (k + 2) z z'

pub record NumberPut (k : ℕ) (w : ℤ) (z z' : List ℕ) : Type 0 where
  pub number : int32_at z' k ≡ w
  pub kept : Kept k (k + 4) z z'

-- the first n of a row of duals, from k on
pub record RowPut (k n : ℕ) (duals z z' : List ℕ) : Type 0 where
  pub numbers : (j : ℕ) → j < n → int32_at z' (k + 4 * j) ≡ pos (get_or duals j 0)
  pub kept : Kept k (k + 4 * n) z z'

pub record RecordPut (k : ℕ) (w : ℤ) (y : List ℕ) (n : ℕ) (x : List ℕ) (l : ℕ) (z z' : List ℕ) : Type 0 where
  pub mark : is_mark z' k record_mark ≡ true
  pub value : int32_at z' (k + 2) ≡ w
  pub of_child : (i : ℕ) → i < n → int32_at z' (k + 6 + 4 * i) ≡ pos (get_or y i 0)
  pub of_other : (j : ℕ) → j < l → int32_at z' (k + 6 + 4 * n + 4 * j) ≡ pos (get_or x j 0)
  pub kept : Kept k (k + subproblem_length n l) z z'

-- the number as the code has it is v
pub number_put : {k : ℕ} {v w : ℤ} {z z' : List ℕ} → k + 4 ≤ length z → SFits w32 w → v ≡ w → z' ≡ put_int32 z k v → NumberPut k w z z'
number_put {k} {v} {w} {z} {z'} h f q e =
    let d : z' ≡ put_int32 z k w = rw q at e in
    record {
      number = rw d (read_put z k w h f);
      kept = record { size = rw d (put_length z k w); apart = λ i o. rw d (put_other z k w i o) };
    }

-- ---- a row

pub row_none : (k : ℕ) (duals z : List ℕ) → RowPut k 0 duals z z
row_none k duals z = record { numbers = λ j h. absurd (not-suc-le-zero h); kept = kept_none k (k + 4 * 0) z }

pub row_more : {k i : ℕ} {duals z y x : List ℕ} → RowPut k i duals z y → NumberPut (k + 4 * i) (pos (get_or duals i 0)) y x → RowPut k (i + 1) duals z x
row_more {k} {i} {duals} {z} {y} {x} R N =
    record {
      numbers = below_more
          (λ (j : ℕ). int32_at x (k + 4 * j) ≡ pos (get_or duals j 0))
          i
          (λ j h. kept_number N.kept (k + 4 * j) (inl (omega arith)) ∙ R.numbers j h)
          N.number;
      kept = kept_both (kept_wide (omega arith) (omega arith) R.kept) (kept_wide (omega arith) (omega arith) N.kept);
    }

-- ---- a record

pub record_put : {k : ℕ} {w : ℤ} {y : List ℕ} {n : ℕ} {x : List ℕ} {l : ℕ} {z0 z1 z2 z3 z4 : List ℕ} → MarkPut k record_mark z0 z1 → NumberPut (k + 2) w z1 z2 → RowPut (k + 6) n y z2 z3 → RowPut (k + 6 + 4 * n) l x z3 z4 → RecordPut k w y n x l z0 z4
record_put {k} {w} {y} {n} {x} {l} M N R S =
    record {
      mark = kept_mark S.kept k record_mark (inl (omega arith)) ∙ kept_mark R.kept k record_mark (inl (omega arith)) ∙ kept_mark N.kept k record_mark (inl (omega arith)) ∙ M.mark;
      value = kept_number S.kept (k + 2) (inl (omega arith)) ∙ kept_number R.kept (k + 2) (inl (omega arith)) ∙ N.number;
      of_child = λ i h. kept_number S.kept (k + 6 + 4 * i) (inl (omega arith)) ∙ R.numbers i h;
      of_other = S.numbers;
      kept = kept_both (kept_both (kept_wide (omega arith) (omega arith) M.kept) (kept_wide (omega arith) (omega arith) N.kept)) (kept_both (kept_wide (omega arith) (omega arith) R.kept) (kept_wide (omega arith) (omega arith) S.kept));
    }
