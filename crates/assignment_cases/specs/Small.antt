-- Tables whose first n gains keep to the limit. Assumes nothing.
use Rattle.std.proofs.Common.{subst, sym, arith, not-suc-le-zero, get_or-set_same, get_or-set_other, below_more}
use Rattle.std.specs.Prelude.{ℕ, ◌+◌, ◌*◌, ◌<◌, ◌≤◌, List, length, slice_set}
use Rattle.model.specs.Limits.{degree_limit, pair_limit}
use Rattle.assignment.specs.Matching.{at, cell, gain_limit}
use Rattle.assignment.specs.State.{Sized}

pub record Small (n : ℕ) (g : List ℕ) : Type 0 where
  pub low : (x : ℕ) → x < n → at g x ≤ gain_limit

pub small_none : (g : List ℕ) → Small 0 g
small_none g = record { low = λ x h. absurd (not-suc-le-zero h) }

pub small_more : {n v : ℕ} {g : List ℕ} → Small n g → n < length g → v ≤ gain_limit → Small (n + 1) (slice_set g n v)
small_more {n} {v} {g} S h le = record {
  low =
      below_more
      (λ (x : ℕ). at (slice_set g n v) x ≤ gain_limit)
      n
      (λ x lt. subst (λ (a : ℕ). a ≤ gain_limit) (sym (get_or-set_other g n x v 0 (λ q. omega (arith, q)))) (S.low x lt))
      (subst (λ (a : ℕ). a ≤ gain_limit) (sym (get_or-set_same g n v 0 h)) le);
}

pub small_end : {n : ℕ} {g : List ℕ} → Small n g → pair_limit ≤ n → Small pair_limit g
small_end S h = record { low = λ x lt. S.low x (omega arith) }

pub small_sized : {k l : ℕ} {g : List ℕ} → Small pair_limit g → k ≤ degree_limit → l ≤ degree_limit → Sized k l (cell g)
small_sized {k} {l} {g} S hk hl = record { rows = hk; columns = hl; gains = λ i j hi hj. S.low (i * degree_limit + j) (omega arith) }

-- a row fewer
pub sized_less : {k l i : ℕ} {g : ℕ → ℕ → ℕ} → Sized k l g → i ≤ k → Sized i l g
sized_less S h = record { rows = omega (arith, S.rows); columns = S.columns; gains = λ x j hx hj. S.gains x j (omega arith) hj }
