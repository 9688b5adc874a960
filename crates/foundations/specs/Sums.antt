-- Finite sums f 0 + .. + f (n - 1), of natural numbers (`sum`) and of integers (`sumℤ`), and an integer sum over a list (`lsum`). Assumes nothing.
use Rattle.std.specs.Prelude.{◌≡◌, refl, ◌⊎◌, ◌≢◌, Bool, true, false, ◌&&◌, List, [], ◌∷◌, ℕ, zero, suc, ◌+◌, ◌*◌, ◌≤◌, ◌<◌, ℤ, pos, ◌+ℤ◌, T, eqb, ◌≤ℤ◌}
use Rattle.std.proofs.Common.{sym, ap, ◌∙◌, subst, inl, inr, ⊎_elim, arith, add-one, not-suc-le-zero, add-zero, add-suc, suc-mul, eq-eqb}
use Rattle.std.proofs.Math.IntN.{+ℤ_idl, +ℤ_idr, +ℤ_assoc}
use Rattle.std.specs.Int.Signed.{≤ℤ_refl}
use Rattle.foundations.specs.Tests.{same?, same, true→T, T→true, not_T→false, somewhere}
use Rattle.foundations.specs.Int.{up, dn, canon, sums, plus, +ℤ_mono}

-- ---- natural numbers

unfoldable pub sum : ℕ → (ℕ → ℕ) → ℕ
sum zero f = 0
sum (suc n) f = sum n f + f n

pub sum_more : (i : ℕ) (f : ℕ → ℕ) → sum (i + 1) f ≡ sum i f + f i
unfolding sum
sum_more i f = rw (add-one i)

pub sum_ext : (n : ℕ) (f g : ℕ → ℕ) → ((i : ℕ) → i < n → f i ≡ g i) → sum n f ≡ sum n g
unfolding sum
sum_ext zero f g h = refl
sum_ext (suc n) f g h = omega (arith, sum_ext n f g (λ i l. h i (omega arith)), h n (omega arith))

pub sum_add : (n : ℕ) (f g : ℕ → ℕ) → sum n (λ i. f i + g i) ≡ sum n f + sum n g
unfolding sum
sum_add zero f g = refl
sum_add (suc n) f g = omega (arith, sum_add n f g)

pub sum_zero : (n : ℕ) (f : ℕ → ℕ) → ((i : ℕ) → i < n → f i ≡ 0) → sum n f ≡ 0
unfolding sum
sum_zero zero f h = refl
sum_zero (suc n) f h = omega (arith, sum_zero n f (λ i l. h i (omega arith)), h n (omega arith))

-- the first n and the next m
pub sum_append : (n m : ℕ) (f : ℕ → ℕ) → sum (n + m) f ≡ sum n f + sum m (λ i. f (n + i))
unfolding sum
sum_append n zero f = rw add-zero (omega arith)
sum_append n (suc m) f = rw add-suc (omega (arith, sum_append n m f))

-- the first and the rest
pub sum_first : (n : ℕ) (f : ℕ → ℕ) → sum (suc n) f ≡ f 0 + sum n (λ i. f (suc i))
unfolding sum
sum_first zero f = omega arith
sum_first (suc n) f = omega (arith, sum_first n f)

pub sum_const : (n c : ℕ) → sum n (λ i. c) ≡ n * c
unfolding sum
sum_const zero c = omega arith
sum_const (suc n) c = omega (arith, sum_const n c)

pub sum_most : (n b : ℕ) (f : ℕ → ℕ) → ((i : ℕ) → i < n → f i ≤ b) → sum n f ≤ n * b
unfolding sum
sum_most zero b f h = omega arith
sum_most (suc n) b f h = omega (arith, sum_most n b f (λ i l. h i (omega arith)), h n (omega arith))

pub sum_times : (n c : ℕ) (f : ℕ → ℕ) → sum n (λ i. c * f i) ≡ c * sum n f
unfolding sum
sum_times zero c f = omega arith
sum_times (suc n) c f = omega (arith, sum_times n c f)

-- n rows of w
pub sum_rows : (n w : ℕ) (f : ℕ → ℕ) → sum (n * w) f ≡ sum n (λ i. sum w (λ j. f (i * w + j)))
unfolding sum
sum_rows zero w f = let e : 0 * w ≡ 0 = omega arith in rw e
sum_rows (suc n) w f = rw (suc-mul n w) (sum_append (n * w) w f ∙ ap (λ (z : ℕ). z + sum w (λ j. f (n * w + j))) (sum_rows n w f))

-- two functions that differ at c alone
pub sum_point : (n : ℕ) (f g : ℕ → ℕ) (c : ℕ) → c < n → ((j : ℕ) → j < n → j ≢ c → f j ≡ g j) → sum n f + g c ≡ sum n g + f c
unfolding sum
sum_point zero f g c l e = absurd (not-suc-le-zero l)
sum_point (suc n) f g c l e =
    ⊎_elim
    (λ q. let s : sum n f ≡ sum n g = sum_ext n f g (λ i lt. e i (omega arith) (λ p. omega arith)) in
    omega (arith, s, ap f q, ap g q))
    (λ q. omega (arith, sum_point n f g c (omega arith) (λ i lt. e i (omega arith)), e n (omega arith) (λ p. q (sym p))))
    (same? c n)

-- ---- an integer that counts only if a test holds

abbrev pub pick : Bool → ℤ → ℤ
pick true z = z
pick false z = pos 0

pub pick_comm : (a b : Bool) (z : ℤ) → pick a (pick b z) ≡ pick b (pick a z)
pick_comm true true z = refl
pick_comm true false z = refl
pick_comm false true z = refl
pick_comm false false z = refl

pub pick_and : (a b : Bool) (z : ℤ) → pick (a && b) z ≡ pick a (pick b z)
pick_and true b z = refl
pick_and false b z = refl

pub pick_add : (b : Bool) (x y : ℤ) → pick b (x +ℤ y) ≡ pick b x +ℤ pick b y
pick_add true x y = refl
pick_add false x y = refl

pub pick_le : (b : Bool) (x y : ℤ) → (T b → x ≤ℤ y) → pick b x ≤ℤ pick b y
pick_le true x y h = h tt
pick_le false x y h = ≤ℤ_refl (pos 0)

pub pick_eq : (b : Bool) (x y : ℤ) → (T b → x ≡ y) → pick b x ≡ pick b y
pick_eq true x y h = h tt
pick_eq false x y h = refl

-- ---- integers

unfoldable pub sumℤ : ℕ → (ℕ → ℤ) → ℤ
sumℤ zero f = pos 0
sumℤ (suc n) f = sumℤ n f +ℤ f n

pub sumℤ_more : (i : ℕ) (f : ℕ → ℤ) → sumℤ (i + 1) f ≡ sumℤ i f +ℤ f i
unfolding sumℤ
sumℤ_more i f = rw (add-one i)

pub sumℤ_ext : (n : ℕ) (f g : ℕ → ℤ) → ((i : ℕ) → i < n → f i ≡ g i) → sumℤ n f ≡ sumℤ n g
unfolding sumℤ
sumℤ_ext zero f g h = refl
sumℤ_ext (suc n) f g h = rw (sumℤ_ext n f g (λ i l. h i (omega arith)), h n (omega arith))

pub sumℤ_le : (n : ℕ) (f g : ℕ → ℤ) → ((i : ℕ) → i < n → f i ≤ℤ g i) → sumℤ n f ≤ℤ sumℤ n g
unfolding sumℤ
sumℤ_le zero f g h = ≤ℤ_refl _
sumℤ_le (suc n) f g h = +ℤ_mono (sumℤ_le n f g (λ i l. h i (omega arith))) (h n (omega arith))

pub sumℤ_add : (n : ℕ) (f g : ℕ → ℤ) → sumℤ n (λ i. f i +ℤ g i) ≡ sumℤ n f +ℤ sumℤ n g
unfolding sumℤ
sumℤ_add zero f g = refl
sumℤ_add (suc n) f g = rw (sumℤ_add n f g) (simp sums)

pub sumℤ_zero : (n : ℕ) → sumℤ n (λ i. pos 0) ≡ pos 0
unfolding sumℤ
sumℤ_zero zero = refl
sumℤ_zero (suc n) = rw (sumℤ_zero n)

pub sumℤ_swap : (n m : ℕ) (f : ℕ → ℕ → ℤ) → sumℤ n (λ i. sumℤ m (λ j. f i j)) ≡ sumℤ m (λ j. sumℤ n (λ i. f i j))
unfolding sumℤ
sumℤ_swap zero m f = sym (sumℤ_zero m)
sumℤ_swap (suc n) m f = rw (sumℤ_swap n m f) (sym (sumℤ_add m (λ j. sumℤ n (λ i. f i j)) (f n)))

-- the first and the rest
pub sumℤ_first : (n : ℕ) (f : ℕ → ℤ) → sumℤ (suc n) f ≡ f 0 +ℤ sumℤ n (λ i. f (suc i))
unfolding sumℤ
sumℤ_first zero f = +ℤ_idl (f 0) ∙ sym (+ℤ_idr (f 0))
sumℤ_first (suc n) f = ap (λ (z : ℤ). z +ℤ f (suc n)) (sumℤ_first n f) ∙ +ℤ_assoc (f 0) (sumℤ n (λ i. f (suc i))) (f (suc n))

pub sumℤ_nonneg : (n : ℕ) (f : ℕ → ℤ) → ((i : ℕ) → i < n → pos 0 ≤ℤ f i) → pos 0 ≤ℤ sumℤ n f
sumℤ_nonneg n f h = rw (sumℤ_zero n) at (sumℤ_le n (λ i. pos 0) f h)

pub pick_sumℤ : (b : Bool) (n : ℕ) (f : ℕ → ℤ) → pick b (sumℤ n f) ≡ sumℤ n (λ i. pick b (f i))
pick_sumℤ true n f = refl
pick_sumℤ false n f = sym (sumℤ_zero n)

-- one index only
sumℤ_none : (n k : ℕ) (f : ℕ → ℤ) → n ≤ k → sumℤ n (λ i. pick (eqb k i) (f i)) ≡ pos 0
unfolding sumℤ
sumℤ_none zero k f h = refl
sumℤ_none (suc n) k f h = ⊎_elim (λ e. absurd (off e.0)) (λ e. rw (sumℤ_none n k f (omega arith), e.1)) (same k n)
  where
    off : k ≡ n → ⊥
    off e = omega arith

pub sumℤ_one : (n k : ℕ) (f : ℕ → ℤ) → k < n → sumℤ n (λ i. pick (eqb k i) (f i)) ≡ f k
unfolding sumℤ
sumℤ_one zero k f h = absurd (not-suc-le-zero h)
sumℤ_one (suc n) k f h = ⊎_elim
    (λ e. rw (sumℤ_none n k f (omega (arith, e.0)), e.1, e.0) (+ℤ_idl (f n)))
    (λ e. rw (sumℤ_one n k f (omega (arith, e.0)), e.1) (+ℤ_idr (f k)))
    (same k n)

pub pick_zero : (b : Bool) → pick b (pos 0) ≡ pos 0
pick_zero true = refl
pick_zero false = refl

pub pick_same : (a b : Bool) (x y : ℤ) → a ≡ b → (T b → x ≡ y) → pick a x ≡ pick b y
pick_same a true x y e h = rw e (h tt)
pick_same a false x y e h = rw e

-- a test that holds at one place at most picks one term, or none
pub sumℤ_unique : (n : ℕ) (p : ℕ → Bool) (X : ℕ → ℤ) → ((i j : ℕ) → i < n → j < n → T (p i) → T (p j) → i ≡ j) → (((i : ℕ) → i < n → p i ≡ false) × (sumℤ n (λ i. pick (p i) (X i)) ≡ pos 0)) ⊎ ((t : ℕ) × (t < n) × T (p t) × (sumℤ n (λ i. pick (p i) (X i)) ≡ X t))
sumℤ_unique n p X h = ⊎_elim
    (λ q. inr (q.0, q.1, q.2, sumℤ_ext n _ _ (λ i k. ap (λ (b : Bool). pick b (X i)) (is q.0 q.1 q.2 i k)) ∙ sumℤ_one n q.0 X q.1))
    (λ f. inl (f, sumℤ_ext n _ (λ i. pos 0) (λ i k. rw (f i k)) ∙ sumℤ_zero n))
    (somewhere n p)
  where
    is : (t : ℕ) → t < n → T (p t) → (i : ℕ) → i < n → p i ≡ eqb t i
    is t l s i k = ⊎_elim (λ e. rw (← e.0) (T→true _ s) ∙ sym e.1) (λ e. not_T→false _ (λ r. e.0 (h t i l k s r)) ∙ sym e.1) (same t i)

-- k takes the numbers below e to those below n but 0, each once: a sum over the first is one over the second
pub sumℤ_reindex : (n e : ℕ) (k : ℕ → ℕ) (C : ℕ → ℤ) → C 0 ≡ pos 0 → ((j : ℕ) → j < e → k j < n) → ((i j : ℕ) → i < e → j < e → k i ≡ k j → i ≡ j) → ((c : ℕ) → c < n → c ≢ 0 → (j : ℕ) × (j < e) × (k j ≡ c)) → sumℤ e (λ j. C (k j)) ≡ sumℤ n C
sumℤ_reindex n e k C zero-C low once all =
    sumℤ_ext e (λ j. C (k j)) (λ j. sumℤ n (λ c. pick (eqb (k j) c) (C c))) (λ j l. sym (sumℤ_one n (k j) C (low j l)))
    ∙ sumℤ_swap e n (λ j c. pick (eqb (k j) c) (C c))
    ∙ sumℤ_ext n (λ c. sumℤ e (λ j. pick (eqb (k j) c) (C c))) C column
  where
    says : (j c : ℕ) → T (eqb (k j) c) → k j ≡ c
    says j c t = ⊎_elim (λ q. q.0) (λ q. absurd (subst T q.1 t)) (same (k j) c)

    column : (c : ℕ) → c < n → sumℤ e (λ j. pick (eqb (k j) c) (C c)) ≡ C c
    column c l = ⊎_elim
        (λ q. let z : C c ≡ pos 0 = ap C q.0 ∙ zero-C in
        sumℤ_ext e (λ j. pick (eqb (k j) c) (C c)) (λ j. pos 0) (λ j m. ap (pick (eqb (k j) c)) z ∙ pick_zero (eqb (k j) c)) ∙ sumℤ_zero e ∙ sym z)
        (λ q. let a = all c l q.0 in
        ⊎_elim
        (λ r. absurd (subst T (r.0 a.0 a.1) (true→T (eq-eqb (k a.0) c a.2))))
        (λ r. r.3)
        (sumℤ_unique e (λ j. eqb (k j) c) (λ j. C c) (λ i j li lj s t. once i j li lj (says i c s ∙ sym (says j c t)))))
        (same c 0)

-- ---- the size of an integer, and of a sum

abbrev pub size : ℤ → ℕ
size z = up z + dn z

pub size_plus : (a b : ℤ) → size (a +ℤ b) ≤ size a + size b
size_plus a b = omega (arith, plus a b, canon (a +ℤ b))

pub size_pick : (b : Bool) (z : ℤ) (k : ℕ) → (T b → size z ≤ k) → size (pick b z) ≤ k
size_pick true z k h = h tt
size_pick false z k h = omega arith

-- n terms of size k at most
pub sumℤ_size : (n k : ℕ) (f : ℕ → ℤ) → ((i : ℕ) → i < n → size (f i) ≤ k) → size (sumℤ n f) ≤ n * k
unfolding sumℤ
sumℤ_size zero k f h = omega arith
sumℤ_size (suc n) k f h = omega (arith, size_plus (sumℤ n f) (f n), sumℤ_size n k f (λ i l. h i (omega arith)), h n (omega arith))

-- and with nothing at 0
pub sumℤ_size_0 : (n k : ℕ) (f : ℕ → ℤ) → f 0 ≡ pos 0 → ((i : ℕ) → i < suc n → size (f i) ≤ k) → size (sumℤ (suc n) f) ≤ n * k
unfolding sumℤ
sumℤ_size_0 zero k f z h = rw z (omega arith)
sumℤ_size_0 (suc n) k f z h = omega (arith, size_plus (sumℤ n f +ℤ f n) (f (suc n)), sumℤ_size_0 n k f z (λ i l. h i (omega arith)), h (suc n) (omega arith))

-- ---- over a list

unfoldable pub lsum : List ℕ → (ℕ → ℤ) → ℤ
lsum [] f = pos 0
lsum (x ∷ l) f = f x +ℤ lsum l f
