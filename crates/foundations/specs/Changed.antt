-- Arrays of numbers changed in place, one place after the other. Assumes nothing.
use Rattle.std.specs.Prelude.{◌≡◌, refl, List, ℕ, ◌+◌, ◌≤◌, ◌<◌, length, get_or, set}
use Rattle.std.proofs.Common.{ap, ◌∙◌, subst, arith, not-suc-le-zero, length-set, get_or-set_same, get_or-set_other, below_more}

-- the first i are f of what they were, the others are what they were
pub record Changed (i : ℕ) (f : ℕ → ℕ → ℕ) (l r : List ℕ) : Type 0 where
  pub done : (x : ℕ) → x < i → get_or r x 0 ≡ f x (get_or l x 0)
  pub rest : (x : ℕ) → i ≤ x → get_or r x 0 ≡ get_or l x 0
  pub size : length r ≡ length l

pub changed_none : (f : ℕ → ℕ → ℕ) (l : List ℕ) → Changed 0 f l l
changed_none f l = record { done = λ x h. absurd (not-suc-le-zero h); rest = λ x h. refl; size = refl }

-- one store of the new value
pub changed_more : {i v : ℕ} {f : ℕ → ℕ → ℕ} {l r : List ℕ} → Changed i f l r → i < length l → v ≡ f i (get_or r i 0) → Changed (i + 1) f l (set r i v)
changed_more {i} {v} {f} {l} {r} C h e = record {
  done =
      below_more
      (λ (x : ℕ). get_or (set r i v) x 0 ≡ f x (get_or l x 0))
      i
      (λ x lt. get_or-set_other r i x v 0 (λ q. omega (arith, q)) ∙ C.done x lt)
      (get_or-set_same r i v 0 (omega (arith, C.size)) ∙ e ∙ ap (f i) (C.rest i (omega arith)));
  rest = λ x lt. get_or-set_other r i x v 0 (λ q. omega (arith, q)) ∙ C.rest x (omega arith);
  size = simp length-set C.size;
}

-- the loop's end
pub changed_end : {i n : ℕ} {f : ℕ → ℕ → ℕ} {l r : List ℕ} → Changed i f l r → n ≤ i → i ≤ n → Changed n f l r
changed_end {i} {n} {f} {l} {r} C p q = subst (λ (x : ℕ). Changed x f l r) (let e : i ≡ n = omega arith in e) C
