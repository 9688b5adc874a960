-- The rules of one record over arrays: covers, and the tests that the code makes. Assumes nothing.
use Rattle.std.specs.Prelude.{◌≡◌, Bool, true, false, ◌&&◌, cond, List, ℕ, ◌+◌, ◌*◌, ◌≤◌, ◌<◌, ◌^◌, leb, ℤ, pos, ◌+ℤ◌}
use Rattle.std.proofs.Common.{arith}
use Rattle.std.proofs.Math.ListN.{get_or}
use Rattle.foundations.specs.Int.{up}
use Rattle.foundations.specs.Lists.{every, every_ext}
use Rattle.foundations.specs.Sums.{sum, sum_ext}
use Rattle.model.specs.Bytes.{int32_at}
use Rattle.model.specs.Certificate.{eq_z}
use Rattle.model.specs.Lengths.{subproblem_length}
use Rattle.model.specs.Limits.{degree_limit, certificate_limit}
use Rattle.model.specs.Weights.{is_forbidden}
use Rattle.plan.specs.Pairs.{cell}
use Rattle.records.specs.Others.{column_in}
use Rattle.record_rules.specs.Numbers.{Spans, not_negative, is_zero, NumbersIn}

-- ---- covers

unfoldable pub is_covered : List ℕ → ℕ → ℕ → List ℕ → ℕ → ℕ → Bool
is_covered g i y across q j = leb (cell g i (column_in q j)) (y + get_or across j 0)

unfoldable pub row_covered : List ℕ → List ℕ → List ℕ → ℕ → ℕ → ℕ → Bool
row_covered g below across l q i = every (is_covered g i (get_or below i 0) across q) l

pub record RowDuals (i y : ℕ) (across : List ℕ) (l q : ℕ) : Type 0 where
  pub row : i < degree_limit
  pub columns : l ≤ degree_limit
  pub dual : y < 2 ^ 31
  pub duals : (j : ℕ) → j < l → get_or across j 0 < 2 ^ 31
  pub low : (j : ℕ) → j < l → column_in q j < degree_limit

pub record Duals (below across : List ℕ) (k l q : ℕ) : Type 0 where
  pub rows : k ≤ degree_limit
  pub columns : l ≤ degree_limit
  pub below_small : (i : ℕ) → i < k → get_or below i 0 < 2 ^ 31
  pub across_small : (j : ℕ) → j < l → get_or across j 0 < 2 ^ 31
  pub low : (j : ℕ) → j < l → column_in q j < degree_limit

pub row_duals : {below across : List ℕ} {k l q : ℕ} → Duals below across k l q → (i : ℕ) → i < k → RowDuals i (get_or below i 0) across l q
row_duals A i h = let few = A.rows in record { row = omega arith; columns = A.columns; dual = A.below_small i h; duals = A.across_small; low = A.low }

-- ---- one record: value, k duals, l duals

pub record Inside (size here k l : ℕ) : Type 0 where
  pub fits : here + subproblem_length k l ≤ size
  pub small : size ≤ certificate_limit
  pub rows : k ≤ degree_limit
  pub columns : l ≤ degree_limit

module _ {size here k l : ℕ} (S : Inside size here k l) where
  pub inside_below : Spans size (here + 6) k
  inside_below = let a = S.fits in record { inside = omega arith; small = S.small; few = S.rows }

  pub inside_across : Spans size (here + 6 + 4 * k) l
  inside_across = let a = S.fits in record { inside = omega arith; small = S.small; few = S.columns }

unfoldable pub zeros_in : List ℕ → ℕ → ℕ → ℕ → Bool
zeros_in z here k l = is_forbidden (int32_at z (here + 2)) && (every (is_zero z (here + 6)) k && every (is_zero z (here + 6 + 4 * k)) l)

-- the dual in place i from `at` on, 0 for a negative one
unfoldable pub dual_in : List ℕ → ℕ → ℕ → ℕ
dual_in z at i = up (int32_at z (at + 4 * i))

unfoldable pub cover_in : List ℕ → ℕ → ℕ → ℕ → ℕ → List ℕ → ℕ → Bool
cover_in z first next l q g i = every (λ j. leb (cell g i (column_in q j)) (dual_in z first i + dual_in z next j)) l

unfoldable pub duals_in : List ℕ → ℕ → ℕ → ℕ → ℕ → List ℕ → ℤ → Bool
duals_in z here k l q g w =
    every (not_negative z (here + 6)) k
    && (every (not_negative z (here + 6 + 4 * k)) l
    && (every (cover_in z (here + 6) (here + 6 + 4 * k) l q g) k
    && eq_z (int32_at z (here + 2)) (w +ℤ pos (sum k (dual_in z (here + 6)) + sum l (dual_in z (here + 6 + 4 * k))))))

-- of the arrays that the code has read
module _ (z : List ℕ) (first next k l q : ℕ) (below across : List ℕ) (B : NumbersIn z first k below) (C : NumbersIn z next l across) where
  pub total_is : {a b : ℕ} → a ≡ sum k (λ i. get_or below i 0) → b ≡ sum l (λ j. get_or across j 0) → a + b ≡ sum k (dual_in z first) + sum l (dual_in z next)
  unfolding dual_in
  total_is ea eb = rw (ea, eb, sum_ext k (λ i. get_or below i 0) (λ i. up (int32_at z (first + 4 * i))) B.get, sum_ext l (λ j. get_or across j 0) (λ j. up (int32_at z (next + 4 * j))) C.get)

  pub covers_are : (g : List ℕ) → every (row_covered g below across l q) k ≡ every (cover_in z first next l q g) k
  unfolding row_covered is_covered cover_in dual_in
  covers_are g = every_ext _ _ k (λ i hi. every_ext _ _ l (λ j hj. rw (B.get i hi, C.get j hj)))

-- the rules of a record of weight w: those of a forbidden pair, or of any other
unfoldable pub record_in : List ℕ → ℕ → ℕ → ℕ → ℕ → List ℕ → ℤ → Bool
record_in z here n l q g w = cond (is_forbidden w) (zeros_in z here n l) (duals_in z here n l q g w)

pub rules_none : (z : List ℕ) (here n l q : ℕ) (g : List ℕ) (w : ℤ) → is_forbidden w ≡ true → zeros_in z here n l ≡ record_in z here n l q g w
unfolding record_in
rules_none z here n l q g w e = rw e

pub rules_some : (z : List ℕ) (here n l q : ℕ) (g : List ℕ) (w : ℤ) → is_forbidden w ≡ false → duals_in z here n l q g w ≡ record_in z here n l q g w
unfolding record_in
rules_some z here n l q g w e = rw e
