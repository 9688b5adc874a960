-- Counting: how often each pair of a row and a column was looked at, at row * degree_limit + column, and after these how many searches there were.
-- Assumes nothing.
use Rattle.std.specs.Prelude.{◌≡◌, refl, ◌⊎◌, ◌≢◌, List, ℕ, zero, suc, ◌+◌, ◌*◌, ◌≤◌, ◌<◌, length, set, replicate}
use Rattle.std.proofs.Common.{sym, subst, ◌∙◌, inl, inr, ⊎_elim, arith, zero-add, suc-add}
use Rattle.std.proofs.lemmas.List.{get_or-replicate}
use Rattle.std.proofs.Math.ListN.{get_or-eq_default}
use Rattle.foundations.specs.Tests.{less?}
use Rattle.model.specs.Limits.{degree_limit, pair_limit}
use Rattle.assignment.specs.Matching.{at, cell}
use Rattle.assignment.specs.Loops.{far}

abbrev pub searches : List ℕ → ℕ
searches n = at n pair_limit

-- the counts after the pair of row i and column j was looked at
abbrev pub looked_at : ℕ → ℕ → List ℕ → List ℕ
looked_at i j n = set n (i * degree_limit + j) (cell n i j + 1)

-- each pair of row t can be counted once more
pub record RowCountable (t : ℕ) (n : List ℕ) : Type 0 where
  pub size : length n ≡ pair_limit + 1
  pub low : (x : ℕ) → x < degree_limit → cell n t x < far

-- each pair of row t with one of the first j columns was looked at once more; nothing else was
pub record Tried (t j : ℕ) (n n' : List ℕ) : Type 0 where
  pub size : length n' ≡ length n
  pub here : (x : ℕ) → x < j → cell n' t x ≡ cell n t x + 1
  pub past : (x : ℕ) → j ≤ x → cell n' t x ≡ cell n t x
  pub other : (i x : ℕ) → i ≢ t → x < degree_limit → cell n' i x ≡ cell n i x
  pub same : searches n' ≡ searches n

-- the pairs of the rows but r were looked at once more or not, those of row r were not
pub record Once (r : ℕ) (n n' : List ℕ) : Type 0 where
  pub size : length n' ≡ length n
  pub root : (x : ℕ) → x < degree_limit → cell n' r x ≡ cell n r x
  pub more : (i x : ℕ) → i < degree_limit → x < degree_limit → cell n i x ≤ cell n' i x
  pub once : (i x : ℕ) → i < degree_limit → x < degree_limit → cell n' i x ≤ cell n i x + 1
  pub same : searches n' ≡ searches n

-- one search, counted, in which no pair was looked at twice
pub record Search (n n' : List ℕ) : Type 0 where
  pub size : length n' ≡ length n
  pub counted : searches n' ≡ searches n + 1
  pub more : (i x : ℕ) → i < degree_limit → x < degree_limit → cell n i x ≤ cell n' i x
  pub once : (i x : ℕ) → i < degree_limit → x < degree_limit → cell n' i x ≤ cell n i x + 1

-- at most k searches, one after the other
unfoldable pub Chain : ℕ → List ℕ → List ℕ → Type 0
Chain zero n n' = n ≡ n'
Chain (suc k) n n' = (n ≡ n') ⊎ ((x : List ℕ) × Search n x × Chain k x n')

pub record Searches (k : ℕ) (n n' : List ℕ) : Type 0 where
  pub chain : Chain k n n'

-- k more searches can be counted
pub record Countable (k : ℕ) (n : List ℕ) : Type 0 where
  pub size : length n ≡ pair_limit + 1
  pub each : (i x : ℕ) → i < degree_limit → x < degree_limit → cell n i x ≤ searches n
  pub limit : searches n + k ≤ far

-- what at most k searches add: each of them 1, and to a pair's number no more than there were searches
pub record Added (k : ℕ) (n n' : List ℕ) : Type 0 where
  pub size : length n' ≡ length n
  pub more : searches n ≤ searches n'
  pub few : searches n' ≤ searches n + k
  pub once : (i x : ℕ) → i < degree_limit → x < degree_limit → cell n' i x + searches n ≤ cell n i x + searches n'

-- ---- laws for those who count on

chain_added : (k : ℕ) (n n' : List ℕ) → Chain k n n' → Added k n n'
unfolding Chain
chain_added zero n n' e = subst (λ (a : List ℕ). Added 0 n a) e (record { size = refl; more = omega arith; few = omega arith; once = λ i x hi hx. omega arith })
chain_added (suc k) n n' S = ⊎_elim
    (λ e. subst (λ (a : List ℕ). Added (suc k) n a) e (record { size = refl; more = omega arith; few = omega arith; once = λ i x hi hx. omega arith }))
    (λ p. let A = chain_added k p.0 n' p.2 in record {
      size = A.size ∙ p.1.size;
      more = omega (arith, A.more, p.1.counted);
      few = omega (arith, A.few, p.1.counted);
      once = λ i x hi hx. omega (arith, A.once i x hi hx, p.1.once i x hi hx, p.1.counted);
    })
    S

pub added : {k : ℕ} {n n' : List ℕ} → Searches k n n' → Added k n n'
added {k} {n} {n'} S = chain_added k n n' S.chain

pub none_countable : (k : ℕ) → k ≤ far → Countable k (replicate (pair_limit + 1) 0)
none_countable k h = record { size = refl; each = λ i x hi hx. omega (arith, zero_at (i * degree_limit + x)); limit = omega (arith, zero_at pair_limit) }
  where
    zero_at : (p : ℕ) → at (replicate (pair_limit + 1) 0) p ≡ 0
    zero_at p = ⊎_elim (λ l. get_or-replicate {A = ℕ} (pair_limit + 1) p 0 0 l) (λ l. get_or-eq_default (replicate (pair_limit + 1) 0) 0 l) (less? p (pair_limit + 1))

pub countable_less : {a b : ℕ} {n : List ℕ} → Countable a n → b ≤ a → Countable b n
countable_less C h = record { size = C.size; each = C.each; limit = omega (arith, C.limit) }

pub countable_after : {a b : ℕ} {n n' : List ℕ} → Countable (a + b) n → Searches a n n' → Countable b n'
countable_after C S = let A = added S in record {
  size = A.size ∙ C.size;
  each = λ i x hi hx. omega (arith, A.once i x hi hx, C.each i x hi hx);
  limit = omega (arith, A.few, C.limit);
}

chain_none : (k : ℕ) (n : List ℕ) → Chain k n n
unfolding Chain
chain_none zero n = refl
chain_none (suc k) n = inl refl

chain_few : (a b : ℕ) (n n' : List ℕ) → Chain a n n' → a ≤ b → Chain b n n'
unfolding Chain
chain_few zero b n n' S h = subst (λ (x : List ℕ). Chain b n x) S (chain_none b n)
chain_few (suc a) zero n n' S h = absurd (omega arith)
chain_few (suc a) (suc b) n n' S h = ⊎_elim inl (λ p. inr (p.0, p.1, chain_few a b p.0 n' p.2 (omega arith))) S

chain_both : (a b : ℕ) (n n' n'' : List ℕ) → Chain a n n' → Chain b n' n'' → Chain (a + b) n n''
unfolding Chain
chain_both zero b n n' n'' S T = rw zero-add (subst (λ (x : List ℕ). Chain b x n'') (sym S) T)
chain_both (suc a) b n n' n'' S T = rw suc-add (⊎_elim
    (λ e. chain_few b (suc (a + b)) n n'' (subst (λ (x : List ℕ). Chain b x n'') (sym e) T) (omega arith))
    (λ p. inr (p.0, p.1, chain_both a b p.0 n' n'' p.2 T))
    S)

pub searches_none : (n : List ℕ) → Searches 0 n n
searches_none n = record { chain = chain_none 0 n }

pub searches_one : {n n' : List ℕ} → Search n n' → Searches 1 n n'
unfolding Chain
searches_one {n} {n'} S = record { chain = inr (n', S, refl) }

-- more may be taken than were
pub searches_few : {a b : ℕ} {n n' : List ℕ} → Searches a n n' → a ≤ b → Searches b n n'
searches_few {a} {b} {n} {n'} S h = record { chain = chain_few a b n n' S.chain h }

pub searches_both : {a b : ℕ} {n n' n'' : List ℕ} → Searches a n n' → Searches b n' n'' → Searches (a + b) n n''
searches_both {a} {b} {n} {n'} {n''} S T = record { chain = chain_both a b n n' n'' S.chain T.chain }
