-- Tests: what a Boolean that computes says, and the splits on numbers. Assumes nothing.
use Rattle.std.specs.Prelude.{◌≡◌, refl, ◌⊎◌, ◌≢◌, Bool, true, false, not, ◌||◌, ◌&&◌, cond, ℕ, zero, suc, ◌≤◌, ◌<◌, T, eqb}
use Rattle.std.proofs.Common.{sym, ap, ◌∙◌, subst, inl, inr, ⊎_elim, true≢false, arith, not-suc-le-zero, eq-eqb, ne_eqb}
use Rattle.std.proofs.Math.Decide.{ℕ_discrete, dec_lt}

-- ---- splits

pub same? : (a b : ℕ) → (a ≡ b) ⊎ (a ≢ b)
same? a b = elim (ℕ_discrete a b) [ yes e ↦ inl e | no e ↦ inr e ]

pub less? : (a b : ℕ) → (a < b) ⊎ (b ≤ a)
less? a b = elim (dec_lt a b) [ yes e ↦ inl e | no e ↦ inr (omega arith) ]

-- equality, with the test's value
pub same : (x y : ℕ) → ((x ≡ y) × (eqb x y ≡ true)) ⊎ ((x ≢ y) × (eqb x y ≡ false))
same x y = ⊎_elim (λ e. inl (e, eq-eqb x y e)) (λ n. inr (n, ne_eqb x y n)) (same? x y)

pub eqb_same : (x : ℕ) → eqb x x ≡ true
eqb_same x = eq-eqb x x refl

-- ---- a test as a proposition

pub T→true : (b : Bool) → T b → b ≡ true
T→true true t = refl
T→true false t = absurd t

pub true→T : {b : Bool} → b ≡ true → T b
true→T e = subst T (sym e) tt

pub is_false : (t : Bool) → (t ≡ true → ⊥) → t ≡ false
is_false true h = absurd (h refl)
is_false false h = refl

pub not_T→false : (b : Bool) → (T b → ⊥) → b ≡ false
not_T→false b h = is_false b (λ e. h (true→T e))

-- two tests that say the same are the same
pub same_test : (t u : Bool) → (t ≡ true → u ≡ true) → (u ≡ true → t ≡ true) → t ≡ u
same_test true u f g = sym (f refl)
same_test false u f g = sym (is_false u (λ e. true≢false (sym (g e))))

-- ---- connectives

pub not_says : (t : Bool) → not t ≡ true → t ≡ false
not_says true h = absurd (true≢false (sym h))
not_says false h = refl

pub and_split : (a b : Bool) → (a && b) ≡ true → (a ≡ true) × (b ≡ true)
and_split true b h = (refl, h)
and_split false b h = absurd (true≢false (sym h))

pub and_both : (a b : Bool) → a ≡ true → b ≡ true → (a && b) ≡ true
and_both a b e f = rw (e, f)

pub and_false : (a : Bool) → (a && false) ≡ false
and_false true = refl
and_false false = refl

-- the second test matters only where the first holds
pub and_first : (t u : Bool) → (t ≡ true → u ≡ false) → (t && u) ≡ false
and_first true u h = h refl
and_first false u h = refl

pub or_split : (a b : Bool) → (a || b) ≡ true → (a ≡ true) ⊎ (b ≡ true)
or_split true b h = inl refl
or_split false b h = inr h

pub or_assoc : (a b c : Bool) → ((a || b) || c) ≡ (a || (b || c))
or_assoc true b c = refl
or_assoc false b c = refl

pub or_true : (a : Bool) → (a || true) ≡ true
or_true true = refl
or_true false = refl

pub or_false : (a : Bool) → (a || false) ≡ a
or_false true = refl
or_false false = refl

-- "not a, or b" says that b follows from a
pub implies : (a b : Bool) → (not a || b) ≡ true → T a → b ≡ true
implies true b h t = h
implies false b h t = absurd t

pub implied : (a b : Bool) → (T a → b ≡ true) → (not a || b) ≡ true
implied true b h = h tt
implied false b h = refl

pub and_comm : (a b : Bool) → (a && b) ≡ (b && a)
and_comm true true = refl
and_comm true false = refl
and_comm false true = refl
and_comm false false = refl

pub or_comm : (a b : Bool) → (a || b) ≡ (b || a)
or_comm true true = refl
or_comm true false = refl
or_comm false true = refl
or_comm false false = refl

-- ---- a range

-- a test holds somewhere below n, or nowhere
pub somewhere : (n : ℕ) (p : ℕ → Bool) → ((t : ℕ) × (t < n) × T (p t)) ⊎ ((i : ℕ) → i < n → p i ≡ false)
somewhere zero p = inr (λ i h. absurd (not-suc-le-zero h))
somewhere (suc n) p = ⊎_elim (λ q. inl (q.0, omega (arith, q.1), q.2)) (λ f. go f (p n) refl) (somewhere n p)
  where
    go : ((i : ℕ) → i < n → p i ≡ false) → (b : Bool) → p n ≡ b → ((t : ℕ) × (t < suc n) × T (p t)) ⊎ ((i : ℕ) → i < suc n → p i ≡ false)
    go f true e = inl (n, omega arith, true→T e)
    go f false e = inr (λ i h. ⊎_elim (λ q. ap p q.0 ∙ e) (λ q. f i (lower i h q.0)) (same i n))
      where
        lower : (i : ℕ) → i < suc n → i ≢ n → i < n
        lower i h q = omega arith

-- ---- a chain of refusals: a test whose failure gives k

-- the failure, the pass, and what a pass says; r is the code's test and t the definition's
pub cond_no : (t r : Bool) (y k : ℕ) → r ≡ t → not r ≡ true → k ≡ cond t y k
cond_no t r y k e h = rw (← e, not_says r h)

pub passed : (t r : Bool) → r ≡ t → not r ≡ false → t ≡ true
passed t true e h = sym e
passed t false e h = absurd (true≢false h)

pub cond_yes : (t r : Bool) (x y k : ℕ) → r ≡ t → not r ≡ false → x ≡ y → x ≡ cond t y k
cond_yes t r x y k e h g = rw (passed t r e h) g

-- the chain gives 0 only if each test passes
pub cond_zero : (t : Bool) (y k : ℕ) → cond t y (suc k) ≡ 0 → (t ≡ true) × (y ≡ 0)
cond_zero true y k h = (refl, h)
cond_zero false y k h = absurd (omega arith)

pub one_at_most : (b : Bool) → cond b 1 0 ≤ 1
one_at_most true = omega arith
one_at_most false = omega arith
