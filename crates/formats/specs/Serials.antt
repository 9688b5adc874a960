-- Serials read once, and item 25 over them. Assumes nothing.
use Rattle.std.specs.Prelude.{◌≡◌, Bool, true, false, not, ◌||◌, List, ℕ, ◌+◌, ◌<◌, eqb, length, get_or, set}
use Rattle.std.proofs.Common.{◌∙◌, ⊎_elim, arith, not-suc-le-zero, length-set, get_or-set_same, get_or-set_other}
use Rattle.foundations.specs.Tests.{same?}
use Rattle.foundations.specs.Lists.{every, every_all, every_ext}
use Rattle.model.specs.Limits.{vertex_limit}
use Rattle.model.specs.Tree.{with_serials, serial, known, serial_new, serials_differ}

-- the serials of the first n vertices
pub record SerialsTo (s : List ℕ) (n : ℕ) (t : List ℕ) : Type 0 where
  pub long : length t ≡ vertex_limit
  pub get : (v : ℕ) → v < n → get_or t v 0 ≡ serial s v

pub serials_none : (s t : List ℕ) → length t ≡ vertex_limit → SerialsTo s 0 t
serials_none s t e = record { long = e; get = λ v h. absurd (not-suc-le-zero h) }

pub serials_more : {s t : List ℕ} {n x : ℕ} → n < vertex_limit → SerialsTo s n t → x ≡ serial s n → SerialsTo s (n + 1) (set t n x)
serials_more {s} {t} {n} {x} l S e =
    let k : length t ≡ vertex_limit = S.long in
    record {
      long = length-set t n x ∙ k;
      get = λ v h. ⊎_elim
          (λ q. rw q (get_or-set_same t n x 0 (omega arith) ∙ e))
          (λ q. get_or-set_other t n v x 0 q ∙ S.get v (omega arith))
          (same? v n);
    }

-- that in place v stands in no place before, or is unknown
unfoldable pub new_in : List ℕ → ℕ → Bool
new_in t v = not (known (get_or t v 0)) || every (λ x. not (eqb (get_or t x 0) (get_or t v 0))) v

pub new_is : {s t : List ℕ} {n : ℕ} → SerialsTo s n t → (v : ℕ) → v < n → new_in t v ≡ serial_new s v
unfolding new_in serial_new
new_is {s} {t} S v l =
    let e = every_ext (λ x. not (eqb (get_or t x 0) (serial s v))) (λ x. not (eqb (serial s x) (serial s v))) v (λ x h. rw (S.get x (omega arith))) in
    rw (S.get v l, e)

-- without serials all are unknown
pub none_differ : (s : List ℕ) (n : ℕ) → with_serials s ≡ false → serials_differ s n ≡ true
unfolding serials_differ serial_new serial
none_differ s n e = every_all (λ v. serial_new s v) n (λ v l. rw e)
