-- What the counts are after a look, a row and a search. Assumes nothing.
use mathlib.Core.Path.{◌≡◌, refl, sym, ap, ◌∙◌}
use mathlib.Core.Logic.{⊎_elim, ◌≢◌}
use mathlib.Core.List.{List}
use Prim.Native.Nat.{ℕ, ◌+◌, ◌*◌, ◌≤◌, ◌<◌}
use native.Mathlib.Omega.{arith}
use native.Mathlib.Nat.{not-suc-le-zero}
use lib.ListN.{length, set, length-set}
use lib.Seq.{get_or-set_same, get_or-set_other}
use borrow.Author.Count.{below_more}
use Rattle.foundations.specs.Tests.{same?, less?}
use Rattle.model.specs.Limits.{degree_limit, pair_limit}
use Rattle.assignment.specs.Matching.{at, cell}
use Rattle.assignment.specs.Loops.{far}
use Rattle.assignment.specs.Counts.{searches, looked_at, RowCountable, Tried, Once, Search, Countable}

-- ---- a row

pub tried_more : {t j : ℕ} {n₀ n n' : List ℕ} → Tried t j n₀ n → length n₀ ≡ pair_limit + 1 → t < degree_limit → j < degree_limit → n' ≡ looked_at t j n → Tried t (j + 1) n₀ n'
tried_more {t} {j} {n₀} {n} {n'} T long ht hj e =
    let low : t * degree_limit + j < length n = omega (arith, T.size) in
    rw e (record {
      size = length-set n (t * degree_limit + j) (cell n t j + 1) ∙ T.size;
      here = below_more (λ (x : ℕ). cell (looked_at t j n) t x ≡ cell n₀ t x + 1) j
          (λ x l. get_or-set_other n (t * degree_limit + j) (t * degree_limit + x) (cell n t j + 1) 0 (λ p. omega (arith, p)) ∙ T.here x l)
          (get_or-set_same n (t * degree_limit + j) (cell n t j + 1) 0 low ∙ (omega (arith, T.past j (omega arith))));
      past = λ x h. get_or-set_other n (t * degree_limit + j) (t * degree_limit + x) (cell n t j + 1) 0 (λ p. omega (arith, p)) ∙ T.past x (omega arith);
      other = λ i x h l. get_or-set_other n (t * degree_limit + j) (i * degree_limit + x) (cell n t j + 1) 0 (λ p. h (omega (arith, p))) ∙ T.other i x h l;
      same = get_or-set_other n (t * degree_limit + j) pair_limit (cell n t j + 1) 0 (λ p. omega (arith, p)) ∙ T.same;
    })

row_more : {t j : ℕ} (x : ℕ) {n n' : List ℕ} → Tried t j n n' → (cell n t x ≤ cell n' t x) × (cell n' t x ≤ cell n t x + 1)
row_more {t} {j} x T = ⊎_elim (λ h. let e = T.here x h in (omega arith, omega arith)) (λ h. let e = T.past x h in (omega arith, omega arith)) (less? x j)

-- ---- a column

-- the pairs of the first j rows with column 0 were looked at once more, nothing else was
pub record Passed (j : ℕ) (n n' : List ℕ) : Type 0 where
  pub size : length n' ≡ length n
  pub here : (i : ℕ) → i < j → cell n' i 0 ≡ cell n i 0 + 1
  pub past : (i : ℕ) → j ≤ i → i < degree_limit → cell n' i 0 ≡ cell n i 0
  pub other : (i x : ℕ) → i < degree_limit → 0 < x → x < degree_limit → cell n' i x ≡ cell n i x
  pub same : searches n' ≡ searches n

pub passed_none : (n : List ℕ) → Passed 0 n n
passed_none n = record { size = refl; here = λ i h. absurd (not-suc-le-zero h); past = λ i h l. refl; other = λ i x h p l. refl; same = refl }

pub passed_more : {j : ℕ} {n₀ n n' : List ℕ} → Passed j n₀ n → length n₀ ≡ pair_limit + 1 → j < degree_limit → n' ≡ looked_at j 0 n → Passed (j + 1) n₀ n'
passed_more {j} {n₀} {n} {n'} P long hj e =
    let low : j * degree_limit + 0 < length n = omega (arith, P.size) in
    rw e (record {
      size = length-set n (j * degree_limit + 0) (cell n j 0 + 1) ∙ P.size;
      here = below_more (λ (i : ℕ). cell (set n (j * degree_limit + 0) (cell n j 0 + 1)) i 0 ≡ cell n₀ i 0 + 1) j
          (λ i l. get_or-set_other n (j * degree_limit + 0) (i * degree_limit + 0) (cell n j 0 + 1) 0 (λ p. omega (arith, p)) ∙ P.here i l)
          (get_or-set_same n (j * degree_limit + 0) (cell n j 0 + 1) 0 low ∙ (omega (arith, P.past j (omega arith) hj)));
      past = λ i h l. get_or-set_other n (j * degree_limit + 0) (i * degree_limit + 0) (cell n j 0 + 1) 0 (λ p. omega (arith, p)) ∙ P.past i (omega arith) l;
      other = λ i x h p l. get_or-set_other n (j * degree_limit + 0) (i * degree_limit + x) (cell n j 0 + 1) 0 (λ q. omega (arith, q)) ∙ P.other i x h p l;
      same = get_or-set_other n (j * degree_limit + 0) pair_limit (cell n j 0 + 1) 0 (λ p. omega (arith, p)) ∙ P.same;
    })

-- ---- the rows that a search goes along

-- root row r is in the tree already; rows of the tree were looked at once more at most, and the others were not
pub record Tries (r : ℕ) (row n₀ n : List ℕ) : Type 0 where
  pub size : length n ≡ length n₀
  pub tree : at row r ≡ 1
  pub root : (x : ℕ) → x < degree_limit → cell n r x ≡ cell n₀ r x
  pub more : (i x : ℕ) → i < degree_limit → x < degree_limit → cell n₀ i x ≤ cell n i x
  pub once : (i x : ℕ) → i < degree_limit → x < degree_limit → cell n i x ≤ cell n₀ i x + 1
  pub out : (i x : ℕ) → at row i ≢ 1 → x < degree_limit → cell n i x ≡ cell n₀ i x
  pub same : searches n ≡ searches n₀

pub tries_start : (r : ℕ) (row n : List ℕ) → at row r ≡ 1 → Tries r row n n
tries_start r row n e = record { size = refl; tree = e; root = λ x h. refl; more = λ i x hi hx. omega arith; once = λ i x hi hx. omega arith; out = λ i x h l. refl; same = refl }

-- row o joins the tree and is gone along
pub tries_more : {r o l : ℕ} {row row' n₀ n n' : List ℕ} → Tries r row n₀ n → at row o ≢ 1 → o < length row → row' ≡ set row o 1 → Tried o l n n' → Tries r row' n₀ n'
tries_more {r} {o} {l} {row} {row'} {n₀} {n} {n'} T out ho e S =
    let apart : r ≢ o = λ q. out (ap (at row) (sym q) ∙ T.tree) in
    rw e (record {
      size = S.size ∙ T.size;
      tree = get_or-set_other row o r 1 0 apart ∙ T.tree;
      root = λ x h. S.other r x apart h ∙ T.root x h;
      more = λ i x hi hx. ⊎_elim
          (λ q. rw q (omega (arith, (row_more x S).0, T.out o x out hx)))
          (λ q. omega (arith, S.other i x q hx, T.more i x hi hx))
          (same? i o);
      once = λ i x hi hx. ⊎_elim
          (λ q. rw q (omega (arith, (row_more x S).1, T.out o x out hx)))
          (λ q. omega (arith, S.other i x q hx, T.once i x hi hx))
          (same? i o);
      out = λ i x h hx.
          let q : i ≢ o = λ p. h (ap (at (set row o 1)) p ∙ get_or-set_same row o 1 0 ho) in
          S.other i x q hx ∙ T.out i x (λ p. h (get_or-set_other row o i 1 0 q ∙ p)) hx;
      same = S.same ∙ T.same;
    })

pub tries_countable : {r o : ℕ} {row n₀ n : List ℕ} → ((i : ℕ) → i < degree_limit → i ≢ r → RowCountable i n₀) → Tries r row n₀ n → o < degree_limit → at row o ≢ 1 → RowCountable o n
tries_countable {r} {o} {row} F T ho out =
    let f = F o ho (λ q. out (ap (at row) q ∙ T.tree)) in
    record { size = T.size ∙ f.size; low = λ x h. omega (arith, T.out o x out h, f.low x h) }

pub tries_once : {r : ℕ} {row n₀ n : List ℕ} → Tries r row n₀ n → Once r n₀ n
tries_once T = record { size = T.size; root = T.root; more = T.more; once = T.once; same = T.same }

-- ---- a search

-- the counts with one search more
abbrev pub counted : List ℕ → List ℕ
counted n = set n pair_limit (searches n + 1)

module _ {n : List ℕ} (C : Countable 1 n) where
  counted_cell : (i x : ℕ) → i < degree_limit → x < degree_limit → cell (counted n) i x ≡ cell n i x
  counted_cell i x hi hx = get_or-set_other n pair_limit (i * degree_limit + x) (searches n + 1) 0 (λ q. omega (arith, q))

  counted_searches : searches (counted n) ≡ searches n + 1
  counted_searches = get_or-set_same n pair_limit (searches n + 1) 0 (omega (arith, C.size))

  pub counted_countable : (i : ℕ) → i < degree_limit → RowCountable i (counted n)
  counted_countable i hi = record {
    size = length-set n pair_limit (searches n + 1) ∙ C.size;
    low = λ x h. omega (arith, counted_cell i x hi h, C.each i x hi h, C.limit);
  }

  -- it goes along one row alone
  pub search_row : {r l : ℕ} {n' : List ℕ} → Tried r l (counted n) n' → Search n n'
  search_row {r} T = record {
    size = T.size ∙ length-set n pair_limit (searches n + 1);
    counted = T.same ∙ counted_searches;
    more = λ i x hi hx. ⊎_elim
        (λ q. rw q (let hr : r < degree_limit = omega arith in omega (arith, (row_more x T).0, counted_cell r x hr hx)))
        (λ q. omega (arith, T.other i x q hx, counted_cell i x hi hx))
        (same? i r);
    once = λ i x hi hx. ⊎_elim
        (λ q. rw q (let hr : r < degree_limit = omega arith in omega (arith, (row_more x T).1, counted_cell r x hr hx)))
        (λ q. omega (arith, T.other i x q hx, counted_cell i x hi hx))
        (same? i r);
  }

  -- it goes on from row r
  pub search_rows : {r l : ℕ} {n₁ n' : List ℕ} → Tried r l (counted n) n₁ → Once r n₁ n' → Search n n'
  search_rows {r} T O = record {
    size = O.size ∙ T.size ∙ length-set n pair_limit (searches n + 1);
    counted = O.same ∙ T.same ∙ counted_searches;
    more = λ i x hi hx. ⊎_elim
        (λ q. rw q (let hr : r < degree_limit = omega arith in omega (arith, O.root x hx, (row_more x T).0, counted_cell r x hr hx)))
        (λ q. omega (arith, O.more i x hi hx, T.other i x q hx, counted_cell i x hi hx))
        (same? i r);
    once = λ i x hi hx. ⊎_elim
        (λ q. rw q (let hr : r < degree_limit = omega arith in omega (arith, O.root x hx, (row_more x T).1, counted_cell r x hr hx)))
        (λ q. omega (arith, O.once i x hi hx, T.other i x q hx, counted_cell i x hi hx))
        (same? i r);
  }

  -- the rows but r can be counted after row r was gone along
  pub others_countable : {r l : ℕ} {n₁ : List ℕ} → Tried r l (counted n) n₁ → (i : ℕ) → i < degree_limit → i ≢ r → RowCountable i n₁
  others_countable T i hi q = record {
    size = T.size ∙ (counted_countable i hi).size;
    low = λ x h. omega (arith, T.other i x q h, (counted_countable i hi).low x h);
  }

  -- it goes along the only column
  pub search_column : {j : ℕ} {n' : List ℕ} → Passed j (counted n) n' → Search n n'
  search_column {j} P = record {
    size = P.size ∙ length-set n pair_limit (searches n + 1);
    counted = P.same ∙ counted_searches;
    more = λ i x hi hx. ⊎_elim
        (λ q. rw q (⊎_elim (λ l. omega (arith, P.here i l, counted_cell i 0 hi (omega arith))) (λ l. omega (arith, P.past i l hi, counted_cell i 0 hi (omega arith))) (less? i j)))
        (λ q. omega (arith, P.other i x hi (omega (arith, q)) hx, counted_cell i x hi hx))
        (same? x 0);
    once = λ i x hi hx. ⊎_elim
        (λ q. rw q (⊎_elim (λ l. omega (arith, P.here i l, counted_cell i 0 hi (omega arith))) (λ l. omega (arith, P.past i l hi, counted_cell i 0 hi (omega arith))) (less? i j)))
        (λ q. omega (arith, P.other i x hi (omega (arith, q)) hx, counted_cell i x hi hx))
        (same? x 0);
  }

  -- the next pair of the column can be counted
  pub passed_low : {j : ℕ} {n' : List ℕ} → Passed j (counted n) n' → j < degree_limit → (length n' ≡ pair_limit + 1) × (cell n' j 0 < far)
  passed_low {j} P h = (P.size ∙ (counted_countable j h).size, let p = P.past j (omega arith) h in let q = (counted_countable j h).low 0 (omega arith) in omega arith)
