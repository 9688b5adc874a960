-- How many numbers below k pass a test, and the pigeonhole. Assumes nothing.
use Rattle.std.specs.Prelude.{◌≡◌, refl, ◌≢◌, Bool, true, false, ◌||◌, cond, ℕ, zero, suc, ◌+◌, ◌≤◌, ◌<◌, T, eqb}
use Rattle.std.proofs.Common.{sym, ap, ◌∙◌, ⊎_elim, arith, eq-eqb, ne_eqb}
use Rattle.std.proofs.Math.Decide.{ℕ_discrete, dec_lt}
use Rattle.foundations.specs.Tests.{T→true, not_T→false, somewhere}
use Rattle.foundations.specs.Sums.{sum, sum_zero}

-- ---- counting

unfoldable pub cnt : (ℕ → Bool) → ℕ → ℕ
cnt p zero = 0
cnt p (suc k) = cnt p k + cond (p k) 1 0

pub cnt_all : (p : ℕ → Bool) (k : ℕ) → ((x : ℕ) → x < k → p x ≡ true) → cnt p k ≡ k
unfolding cnt
cnt_all p zero h = refl
cnt_all p (suc k) h = rw (cnt_all p k (λ x l. h x (omega arith)), h k (omega arith)) (omega arith)

pub cnt_ext : (p q : ℕ → Bool) (k : ℕ) → ((x : ℕ) → x < k → p x ≡ q x) → cnt p k ≡ cnt q k
unfolding cnt
cnt_ext p q zero h = refl
cnt_ext p q (suc k) h = rw (cnt_ext p q k (λ x l. h x (omega arith)), h k (omega arith))

-- q is p but at z, which only p counts.
pub cnt_drop : (p q : ℕ → Bool) (z k : ℕ) → z < k → p z ≡ true → q z ≡ false → ((x : ℕ) → x < k → x ≢ z → p x ≡ q x) → cnt p k ≡ cnt q k + 1
unfolding cnt
cnt_drop p q z zero l pz qz h = absurd (omega arith)
cnt_drop p q z (suc k) l pz qz h = go (ℕ_discrete z k) (λ m. cnt_drop p q z k m pz qz (λ x b. h x (omega arith)))
  where
    go : Dec (z ≡ k) → (z < k → cnt p k ≡ cnt q k + 1) → cnt p k + cond (p k) 1 0 ≡ cnt q k + cond (q k) 1 0 + 1
    go (yes e) r = rw (cnt_ext p q k (λ x m. h x (omega arith) (omega arith)), ← e, pz, qz) (omega arith)
    go (no ne) r = rw (r (omega arith), h k (omega arith) (λ e. ne (sym e))) (omega arith)

pub cnt_none : (p : ℕ → Bool) (k : ℕ) → ((x : ℕ) → x < k → p x ≡ false) → cnt p k ≡ 0
unfolding cnt
cnt_none p zero h = refl
cnt_none p (suc k) h = rw (cnt_none p k (λ x l. h x (omega arith)), h k (omega arith))

pub cnt_one : (p : ℕ → Bool) (x k : ℕ) → x < k → p x ≡ true → 1 ≤ cnt p k
unfolding cnt
cnt_one p x zero l e = absurd (omega arith)
cnt_one p x (suc k) l e = go (ℕ_discrete x k) (λ m. cnt_one p x k m e)
  where
    go : Dec (x ≡ k) → (x < k → 1 ≤ cnt p k) → 1 ≤ cnt p k + cond (p k) 1 0
    go (yes q) r = rw (← q, e) (omega arith)
    go (no q) r = let h : 1 ≤ cnt p k = r (omega arith) in omega arith

pub cnt_two : (p : ℕ → Bool) (x y k : ℕ) → x < y → y < k → p x ≡ true → p y ≡ true → 2 ≤ cnt p k
unfolding cnt
cnt_two p x y zero l m e f = absurd (omega arith)
cnt_two p x y (suc k) l m e f = go (ℕ_discrete y k) (λ m. cnt_two p x y k l m e f)
  where
    go : Dec (y ≡ k) → (y < k → 2 ≤ cnt p k) → 2 ≤ cnt p k + cond (p k) 1 0
    go (yes q) r = let h : 1 ≤ cnt p k = cnt_one p x k (omega arith) e in let g : p k ≡ true = rw (← q) f in rw g (omega arith)
    go (no q) r = let h : 2 ≤ cnt p k = r (omega arith) in omega arith

-- a test that holds at one place at most
pub cnt_few : (p : ℕ → Bool) (n : ℕ) → ((i j : ℕ) → i < n → j < n → T (p i) → T (p j) → i ≡ j) → cnt p n ≤ 1
cnt_few p n h = ⊎_elim
    (λ q. let e : cnt p n ≡ cnt (λ x. false) n + 1 = cnt_drop p (λ x. false) q.0 n q.1 (T→true _ q.2) refl (λ x l ne. not_T→false (p x) (λ t. ne (h x q.0 l q.1 t q.2))) in
    let z : cnt (λ x. false) n ≡ 0 = cnt_none (λ x. false) n (λ x l. refl) in
    omega arith)
    (λ f. let z : cnt p n ≡ 0 = cnt_none p n f in omega arith)
    (somewhere n p)

pub few_cnt : (p : ℕ → Bool) (n : ℕ) → cnt p n ≤ 1 → (i j : ℕ) → i < n → j < n → T (p i) → T (p j) → i ≡ j
few_cnt p n h i j li lj ti tj = choose (dec_lt i j) (dec_lt j i)
  where
    choose : Dec (i < j) → Dec (j < i) → i ≡ j
    choose (yes l) d = let q = cnt_two p i j n l lj (T→true _ ti) (T→true _ tj) in absurd (omega arith)
    choose (no l) (yes d) = let q = cnt_two p j i n d li (T→true _ tj) (T→true _ ti) in absurd (omega arith)
    choose (no l) (no d) = omega arith

-- the tests' sum: a number counted where each of two tests may hold
pub sum_count : (n : ℕ) (f : ℕ → ℕ) (p : ℕ → Bool) → sum n (λ i. f i + cond (p i) 1 0) ≡ sum n f + cnt p n
unfolding sum cnt
sum_count zero f p = refl
sum_count (suc n) f p = rw (sum_count n f p) (omega arith)

-- counted by rows or by columns
pub cnt_swap : (n m : ℕ) (p : ℕ → ℕ → Bool) → sum n (λ i. cnt (p i) m) ≡ sum m (λ j. cnt (λ i. p i j) n)
unfolding cnt
cnt_swap n zero p = unfold sum in sum_zero n (λ i. 0) (λ i l. refl)
cnt_swap n (suc m) p = sum_count n (λ i. cnt (p i) m) (λ i. p i m) ∙ ap (λ (z : ℕ). z + cnt (λ i. p i m) n) (cnt_swap n m p) ∙ (unfold sum in refl)

-- two different numbers
pub cnt_pair : (a b n : ℕ) → a < n → b < n → a ≢ b → cnt (λ v. eqb a v || eqb b v) n ≡ 2
cnt_pair a b n la lb ne =
    cnt_drop (λ v. eqb a v || eqb b v) (λ v. eqb b v) a n la (rw (eq-eqb a a refl)) (ne_eqb b a (λ e. ne (sym e))) (λ x l h. rw (ne_eqb a x (λ e. h (sym e))))
    ∙ ap (λ (z : ℕ). z + 1) (cnt_drop (λ v. eqb b v) (λ v. false) b n lb (eq-eqb b b refl) refl (λ x l h. ne_eqb b x (λ e. h (sym e))) ∙ ap (λ (z : ℕ). z + 1) (cnt_none (λ v. false) n (λ x l. refl)))

-- ---- pigeonhole

-- Whether f takes the value y below k, and where.
pub data Find (f : ℕ → ℕ) (k y : ℕ) : Type 0 where
  found : (x : ℕ) → x < k → f x ≡ y → Find f k y
  missing : ((x : ℕ) → x < k → f x ≢ y) → Find f k y

pub find : (f : ℕ → ℕ) (k y : ℕ) → Find f k y
find f zero y = missing (λ x l e. absurd (omega arith))
find f (suc k) y = step (find f k y) (ℕ_discrete (f k) y)
  where
    step : Find f k y → Dec (f k ≡ y) → Find f (suc k) y
    step (found x l e) d = found x (omega arith) e
    step (missing h) (yes e) = found k (omega arith) e
    step (missing h) (no ne) = missing (λ x l. pick x l (ℕ_discrete x k))
      where
        pick : (x : ℕ) → x < suc k → Dec (x ≡ k) → f x ≢ y
        pick x l (yes e) q = ne (ap f (sym e) ∙ q)
        pick x l (no e) q = h x (omega arith) q

-- Two of the first k numbers at which f takes one value.
pub record Twice (f : ℕ → ℕ) (k : ℕ) : Type 0 where
  pub one : ℕ
  pub two : ℕ
  pub less : one < two
  pub low : two < k
  pub equal : f one ≡ f two

pub pigeon : (k : ℕ) (f : ℕ → ℕ) → ((x : ℕ) → x < suc k → f x < k) → Twice f (suc k)
pigeon zero f h = let l : f 0 < 0 = h 0 (omega arith) in absurd (omega arith)
pigeon (suc k) f h = step (find f (suc k) (f (suc k))) (λ g m. pigeon k g m)
  where
    -- f with the value at the end in the place of k
    g : ℕ → ℕ
    g x = cond (eqb (f x) k) (f (suc k)) (f x)

    g_at : (x : ℕ) → f x ≡ k → g x ≡ f (suc k)
    g_at x e = rw (eq-eqb (f x) k e)

    g_off : (x : ℕ) → f x ≢ k → g x ≡ f x
    g_off x e = rw (ne_eqb (f x) k e)

    g_low : ((x : ℕ) → x < suc k → f x ≢ f (suc k)) → (x : ℕ) → x < suc k → Dec (f x ≡ k) → g x < k
    g_low m x l (yes e) = let a : f (suc k) < suc k = h (suc k) (omega arith) in let d : f x ≢ f (suc k) = m x l in rw (g_at x e) (omega arith)
    g_low m x l (no e) = let a : f x < suc k = h x (omega arith) in rw (g_off x e) (omega arith)

    back : ((x : ℕ) → x < suc k → f x ≢ f (suc k)) → (x y : ℕ) → x < y → y < suc k → g x ≡ g y → Dec (f x ≡ k) → Dec (f y ≡ k) → f x ≡ f y
    back m x y l n e (yes p) (yes q) = p ∙ sym q
    back m x y l n e (yes p) (no q) = absurd (m y n (sym (g_off y q) ∙ sym e ∙ g_at x p))
    back m x y l n e (no p) (yes q) = absurd (m x (omega arith) (sym (g_off x p) ∙ e ∙ g_at y q))
    back m x y l n e (no p) (no q) = sym (g_off x p) ∙ e ∙ g_off y q

    wrap : ((x : ℕ) → x < suc k → f x ≢ f (suc k)) → Twice g (suc k) → Twice f (suc (suc k))
    wrap m t = let l : t.two < suc k = t.low in record { one = t.one; two = t.two; less = t.less; low = omega arith; equal = back m t.one t.two t.less l t.equal (ℕ_discrete (f t.one) k) (ℕ_discrete (f t.two) k) }

    step : Find f (suc k) (f (suc k)) → ((g : ℕ → ℕ) → ((x : ℕ) → x < suc k → g x < k) → Twice g (suc k)) → Twice f (suc (suc k))
    step (found x l e) r = record { one = x; two = suc k; less = l; low = omega arith; equal = e }
    step (missing m) r = wrap m (r g (λ x l. g_low m x l (ℕ_discrete (f x) k)))
