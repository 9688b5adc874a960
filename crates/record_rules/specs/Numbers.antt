-- Numbers of 4 bytes, one after the other: the tests of their signs, and an array that holds them. Assumes nothing.
use Rattle.std.specs.Prelude.{◌≡◌, refl, Bool, List, ℕ, ◌+◌, ◌*◌, ◌≤◌, ◌<◌, ◌^◌, length, get_or, set, take, zero, suc, pos}
use Rattle.std.specs.List.{sum as list_sum}
use Rattle.std.proofs.Common.{◌∙◌, ⊎_elim, arith, not-suc-le-zero, take-suc, length-set, get_or-set_same, get_or-set_other}
use Rattle.std.specs.Int.Signed.{le_z}
use Rattle.foundations.specs.Int.{up}
use Rattle.std.proofs.lemmas.List.Sums.{sum_by_push}
use Rattle.foundations.specs.Sums.{sum}
use Rattle.foundations.specs.Tests.{same?}
use Rattle.model.specs.Bytes.{int32_at}
use Rattle.model.specs.Certificate.{eq_z}
use Rattle.model.specs.Limits.{degree_limit, certificate_limit}

-- n numbers from `at` on stand in a certificate
pub record Spans (size at n : ℕ) : Type 0 where
  pub inside : at + 4 * n ≤ size
  pub small : size ≤ certificate_limit
  pub few : n ≤ degree_limit

unfoldable pub not_negative : List ℕ → ℕ → ℕ → Bool
not_negative z at i = le_z (pos 0) (int32_at z (at + 4 * i))

unfoldable pub is_zero : List ℕ → ℕ → ℕ → Bool
is_zero z at i = eq_z (int32_at z (at + 4 * i)) (pos 0)

-- the first n of an array are the numbers from `at` on, 0 for a negative one
pub record NumbersIn (z : List ℕ) (at n : ℕ) (r : List ℕ) : Type 0 where
  pub long : length r ≡ degree_limit
  pub get : (i : ℕ) → i < n → get_or r i 0 ≡ up (int32_at z (at + 4 * i))
  pub small : (i : ℕ) → i < n → get_or r i 0 < 2 ^ 31

pub numbers_none : (z : List ℕ) (at : ℕ) (r : List ℕ) → length r ≡ degree_limit → NumbersIn z at 0 r
numbers_none z at r e = record { long = e; get = λ i h. absurd (not-suc-le-zero h); small = λ i h. absurd (not-suc-le-zero h) }

pub numbers_more : (z : List ℕ) (at n : ℕ) (r : List ℕ) (x : ℕ) → n < degree_limit → NumbersIn z at n r → x ≡ up (int32_at z (at + 4 * n)) → x < 2 ^ 31 → NumbersIn z at (n + 1) (set r n x)
numbers_more z at n r x h N e b =
    let long : length r ≡ degree_limit = N.long in
    record {
      long = length-set r n x ∙ long;
      get = λ i l. ⊎_elim
          (λ q. rw (q, get_or-set_same r n x 0 (omega arith)) e)
          (λ q. rw (get_or-set_other r n i x 0 q) (N.get i (omega arith)))
          (same? i n);
      small = λ i l. ⊎_elim
          (λ q. rw (q, get_or-set_same r n x 0 (omega arith)) b)
          (λ q. rw (get_or-set_other r n i x 0 q) (N.small i (omega arith)))
          (same? i n);
    }

-- ---- their total

-- the first n are below 2 ^ 31
pub record Low (numbers : List ℕ) (n : ℕ) : Type 0 where
  pub few : n ≤ degree_limit
  pub small : (i : ℕ) → i < n → get_or numbers i 0 < 2 ^ 31

-- the first n add up to `total`
pub record TotalTo (numbers : List ℕ) (n total : ℕ) : Type 0 where
  pub is : total ≡ sum n (λ i. get_or numbers i 0)
  pub small : total ≤ n * 2 ^ 31

-- a list's first n numbers are added up by std's `sum`
pub total_taken : {numbers : List ℕ} {n : ℕ} → Low numbers n → length numbers ≡ degree_limit → TotalTo numbers n (list_sum (take n numbers))
unfolding sum
total_taken {numbers} {n} S e = go n S.few S.small
  where
    go : (k : ℕ) → k ≤ degree_limit → ((i : ℕ) → i < k → get_or numbers i 0 < 2 ^ 31) → TotalTo numbers k (list_sum (take k numbers))
    go zero h s = record { is = refl; small = omega arith }
    go (suc k) h s =
        let T = go k (omega arith) (λ i l. s i (omega arith)) in
        let b = T.small in
        let x = s k (omega arith) in
        let more : list_sum (take (suc k) numbers) ≡ list_sum (take k numbers) + get_or numbers k 0 = rw (take-suc numbers k 0 (omega arith)) (sum_by_push (λ x. x) (take k numbers) (get_or numbers k 0)) in
        record { is = rw (more, T.is); small = omega arith }
