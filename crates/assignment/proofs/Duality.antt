-- Weak duality: no matching weighs more than the sum of feasible duals; and equality where every row is finished. Assumes nothing.
use mathlib.Core.Path.{◌≡◌, refl, sym, ap, subst, ◌∙◌}
use mathlib.Core.Logic.{◌≢◌, ◌⊎◌, inl, inr, ⊎_elim}
use mathlib.Core.Bool.{true≢false, Bool, true, false, cond, ◌&&◌}
use mathlib.Core.List.{List}
use Prim.Native.Nat.{ℕ, zero, suc, ◌+◌, ◌≤◌, ◌<◌, max, zero-le}
use native.Mathlib.Nat.{not-suc-le-zero}
use native.Mathlib.Omega.{arith}
use lib.Dec.{T, ltb, eqb}
use borrow.Author.Tests.{lt-ltb, le-ltb, eq-eqb, ne_eqb}
use Rattle.foundations.specs.Tests.{and_false, same?, less?}
use Rattle.foundations.specs.Sums.{sum, sum_ext, sum_add, sum_zero, sum_point}
use Rattle.model.specs.Limits.{degree_limit}
use Rattle.assignment.specs.Matching.{at, out_yes, out_no, gain_limit, gained, weight, Injective, minus, best_column, best, all, Has, Feasible}
use Rattle.assignment.specs.State.{State, Solved, Partner, Heaviest, WeightsOf}

-- the duals of the free columns
abbrev open_z : (ℕ → Bool) → (ℕ → ℕ) → ℕ → ℕ
open_z free z j = cond (free j) (z j) 0

minus_same : (free : ℕ → Bool) (c : ℕ) → minus free c c ≡ false
unfolding minus
minus_same free c = rw (eq-eqb c c refl) (and_false (free c))

minus_other : (free : ℕ → Bool) (c j : ℕ) → (j ≡ c → ⊥) → minus free c j ≡ free j
unfolding minus
minus_other free c j n = rw (ne_eqb j c n) (go (free j))
  where
    go : (b : Bool) → (b && true) ≡ b
    go true = refl
    go false = refl

best_column_le : (n : ℕ) (free : ℕ → Bool) (gain : ℕ → ℕ) (rest : (ℕ → Bool) → ℕ) (b : ℕ) → ((j : ℕ) → j < n → free j ≡ true → gain j + rest (minus free j) ≤ b) → best_column n free gain rest ≤ b
unfolding best_column
best_column_le zero free gain rest b h = zero-le
best_column_le (suc n) free gain rest b h =
    let ih : best_column n free gain rest ≤ b = best_column_le n free gain rest b (λ j l. h j (omega arith)) in
    go (free n) refl ih
  where
    go : (t : Bool) → free n ≡ t → best_column n free gain rest ≤ b → max (best_column n free gain rest) (cond t (gain n + rest (minus free n)) 0) ≤ b
    go true e ih = omega (arith, h n (omega arith) e)
    go false e ih = omega arith

best_column_at : (n : ℕ) (free : ℕ → Bool) (gain : ℕ → ℕ) (rest : (ℕ → Bool) → ℕ) (j : ℕ) → j < n → free j ≡ true → gain j + rest (minus free j) ≤ best_column n free gain rest
unfolding best_column
best_column_at zero free gain rest j l e = absurd (not-suc-le-zero l)
best_column_at (suc n) free gain rest j l e =
    ⊎_elim
    (λ q. subst (λ (x : ℕ). gain x + rest (minus free x) ≤ max (best_column n free gain rest) (cond (free n) (gain n + rest (minus free n)) 0)) {x = n} (sym q)
    (last (free n) (sym (ap free q) ∙ e)))
    (λ q. let ih : gain j + rest (minus free j) ≤ best_column n free gain rest = best_column_at n free gain rest j (omega arith) e in omega arith)
    (same? j n)
  where
    last : (t : Bool) → t ≡ true → gain n + rest (minus free n) ≤ max (best_column n free gain rest) (cond t (gain n + rest (minus free n)) 0)
    last t e = rw e (omega arith)

-- weak duality over the free columns
pub best_le : (k l : ℕ) (g : ℕ → ℕ → ℕ) (y z : ℕ → ℕ) → Feasible k l g y z → (free : ℕ → Bool) → best l g k free ≤ sum k y + sum l (open_z free z)
unfolding best sum
best_le zero l g y z f free = zero-le
best_le (suc k) l g y z f free =
    let f' : Feasible k l g y z = record { covers = λ i j hi hj. f.covers i j (omega arith) hj } in
    let a : best l g k free ≤ sum k y + sum l (open_z free z) = best_le k l g y z f' free in
    let b : best_column l free (g k) (best l g k) ≤ sum k y + y k + sum l (open_z free z) =
    best_column_le l free (g k) (best l g k) (sum k y + y k + sum l (open_z free z)) (λ j hj e. one f' j hj e (best_le k l g y z f' (minus free j))) in
    omega arith
  where
    one : Feasible k l g y z → (j : ℕ) → j < l → free j ≡ true → best l g k (minus free j) ≤ sum k y + sum l (open_z (minus free j) z) → g k j + best l g k (minus free j) ≤ sum k y + y k + sum l (open_z free z)
    one f' j hj e ih =
        let p : sum l (open_z free z) + open_z (minus free j) z j ≡ sum l (open_z (minus free j) z) + open_z free z j =
        sum_point l (open_z free z) (open_z (minus free j) z) j hj (λ i _ n. rw (minus_other free j i n)) in
        let q : open_z free z j ≡ z j = rw e in
        let o : open_z (minus free j) z j ≡ 0 = rw (minus_same free j) in
        omega (arith, f.covers k j (omega arith) hj)

-- every matching's weight is at most the best
pub weight_le : (k l : ℕ) (g : ℕ → ℕ → ℕ) (m : ℕ → ℕ) → Injective k l m → (free : ℕ → Bool) → ((i : ℕ) → i < k → m i < l → free (m i) ≡ true) → weight k l g m ≤ best l g k free
unfolding weight gained best sum
weight_le zero l g m inj free h = zero-le
weight_le (suc k) l g m inj free h =
    ⊎_elim
    (λ lt.
    let ih = weight_le k l g m inj' (minus free (m k)) (λ i hi hl. minus_other free (m k) (m i) (λ e. absurd (no i hi hl e)) ∙ h i (omega arith) hl) in
    let at = best_column_at l free (g k) (best l g k) (m k) lt (h k (omega arith) lt) in
    rw (lt-ltb (m k) l lt) (omega (arith, ih, at)))
    (λ le.
    let ih = weight_le k l g m inj' free (λ i hi. h i (omega arith)) in
    rw (le-ltb (m k) l le) (omega (arith, ih)))
    (less? (m k) l)
  where
    inj' : Injective k l m
    inj' i j hi hj = inj i j (omega arith) (omega arith)

    no : (i : ℕ) → i < k → m i < l → m i ≡ m k → ⊥
    no i hi hl e = omega (arith, inj i k (omega arith) (omega arith) hl e)

-- the sum over the rows of what the column of each has is the sum over the columns, where every column that has more than 0 is some row's
hits : (k l : ℕ) (m z : ℕ → ℕ) → Injective k l m → ((j : ℕ) → j < l → (z j ≡ 0) ⊎ Has k m j) → sum k (λ i. cond (ltb (m i) l) (z (m i)) 0) ≡ sum l z
unfolding sum
hits zero l m z inj h = sym (sum_zero l z (λ j hj. ⊎_elim (λ e. e) (λ p. absurd (not-suc-le-zero p.1)) (h j hj)))
hits (suc k) l m z inj h =
    ⊎_elim
    (λ lt. rw (lt-ltb (m k) l lt) (taken lt (hits k l m (z' (m k)) inj' (cover' lt))))
    (λ le. rw (le-ltb (m k) l le) (omega (arith, hits k l m z inj' (cover le))))
    (less? (m k) l)
  where
    z' : ℕ → ℕ → ℕ
    z' c j = cond (eqb j c) 0 (z j)

    z'_same : (c : ℕ) → z' c c ≡ 0
    z'_same c = rw (eq-eqb c c refl)

    z'_other : (c j : ℕ) → (j ≡ c → ⊥) → z' c j ≡ z j
    z'_other c j n = rw (ne_eqb j c n)

    inj' : Injective k l m
    inj' i j hi hj = inj i j (omega arith) (omega arith)

    before : (j : ℕ) → (j ≡ m k → ⊥) → Has (suc k) m j → Has k m j
    before j n p = (p.0, ⊎_elim (λ e. absurd (n (sym p.2 ∙ ap m e))) (λ ne. omega (arith, p.1, ne)) (same? p.0 k), p.2)

    cover : l ≤ m k → (j : ℕ) → j < l → (z j ≡ 0) ⊎ Has k m j
    cover le j hj = ⊎_elim inl (λ p. inr (before j (λ e. omega arith) p)) (h j hj)

    cover' : m k < l → (j : ℕ) → j < l → (z' (m k) j ≡ 0) ⊎ Has k m j
    cover' lt j hj =
        ⊎_elim
        (λ e. inl (subst (λ (x : ℕ). z' (m k) x ≡ 0) (sym e) (z'_same (m k))))
        (λ n. ⊎_elim (λ e. inl (z'_other (m k) j n ∙ e)) (λ p. inr (before j n p)) (h j hj))
        (same? j (m k))

    keep : (i : ℕ) → i < k → cond (ltb (m i) l) (z (m i)) 0 ≡ cond (ltb (m i) l) (z' (m k) (m i)) 0
    keep i hi =
        ⊎_elim
        (λ lt. ap (λ (x : ℕ). cond (ltb (m i) l) x 0) (sym (z'_other (m k) (m i) (λ e. omega (arith, inj i k (omega arith) (omega arith) lt e)))))
        (λ le. rw (le-ltb (m i) l le))
        (less? (m i) l)

    taken : m k < l → sum k (λ i. cond (ltb (m i) l) (z' (m k) (m i)) 0) ≡ sum l (z' (m k)) → sum k (λ i. cond (ltb (m i) l) (z (m i)) 0) + z (m k) ≡ sum l z
    taken lt ih =
        let a = sum_ext k (λ i. cond (ltb (m i) l) (z (m i)) 0) (λ i. cond (ltb (m i) l) (z' (m k) (m i)) 0) keep in
        let b = sum_point l z (z' (m k)) (m k) lt (λ j _ n. sym (z'_other (m k) j n)) in
        omega (arith, a, b, ih, z'_same (m k))

-- where every row is finished the duals add up to the matching's weight
finished_weight : {k l : ℕ} {g : ℕ → ℕ → ℕ} {finished : ℕ → Bool} {y z m : ℕ → ℕ} → State k l g finished y z m → ((i : ℕ) → i < k → finished i ≡ true) → weight k l g m ≡ sum k y + sum l z
unfolding weight gained
finished_weight {k} {l} {g} {finished} {y} {z} {m} G f =
    sum_ext k (gained l g m) (λ i. y i + cond (ltb (m i) l) (z (m i)) 0) row
    ∙ sum_add k y (λ i. cond (ltb (m i) l) (z (m i)) 0)
    ∙ ap (λ (x : ℕ). sum k y + x) (hits k l m z G.injective G.columns)
  where
    row : (i : ℕ) → i < k → gained l g m i ≡ y i + cond (ltb (m i) l) (z (m i)) 0
    row i hi =
        ⊎_elim
        (λ lt. rw (lt-ltb (m i) l lt) (G.tight i hi lt))
        (λ le. rw (le-ltb (m i) l le) (⊎_elim (λ e. omega arith) (λ lt. omega arith) (G.rows i hi (f i hi))))
        (less? (m i) l)

all_z : (l : ℕ) (z : ℕ → ℕ) → sum l (open_z all z) ≡ sum l z
all_z l z = refl

-- a column's dual is no greater than the gains
pub column_limit : {k l : ℕ} {g : ℕ → ℕ → ℕ} {finished : ℕ → Bool} {y z m : ℕ → ℕ} → State k l g finished y z m → ((i j : ℕ) → i < k → j < l → g i j ≤ gain_limit) → (j : ℕ) → j < l → z j ≤ gain_limit
column_limit {k} {l} {g} {finished} {y} {z} {m} G gains j hj =
    ⊎_elim
    (λ e. omega arith)
    (λ p. subst (λ (x : ℕ). z x ≤ gain_limit) p.2
    (let lt : m p.0 < l = omega (arith, p.2) in omega (arith, G.tight p.0 p.1 lt, gains p.0 (m p.0) p.1 lt)))
    (G.columns j hj)

-- a state in which every row is finished is the answer
pub solved : {k l : ℕ} {g : ℕ → ℕ → ℕ} {finished : ℕ → Bool} {y z m : ℕ → ℕ} → State k l g finished y z m → ((i : ℕ) → i < k → finished i ≡ true) → ((i j : ℕ) → i < k → j < l → g i j ≤ gain_limit) → Solved k l g y z m
solved {k} {l} {g} {finished} {y} {z} {m} G f gains = record {
  feasible = λ i j hi hj. G.feasible i j hi (f i hi) hj;
  tight = G.tight;
  injective = G.injective;
  columns = G.columns;
  rows = λ i hi. G.rows i hi (f i hi);
  row_limit = λ i hi. G.limit i hi (f i hi);
  column_limit = column_limit G gains;
  equal = even;
  greatest = omega (arith, even, up, down, all_z l z);
}
  where
    even : weight k l g m ≡ sum k y + sum l z
    even = finished_weight G f

    up : weight k l g m ≤ best l g k all
    up = weight_le k l g m G.injective all (λ i hi hl. refl)

    down : best l g k all ≤ sum k y + sum l (open_z all z)
    down = best_le k l g y z (record { covers = λ i j hi hj. G.feasible i j hi (f i hi) hj }) all

-- weak duality: no matching weighs more than the sum of feasible duals
pub weak_duality : (k l : ℕ) (g : ℕ → ℕ → ℕ) (y z m : ℕ → ℕ) → Feasible k l g y z → Injective k l m → weight k l g m ≤ sum k y + sum l z
weak_duality k l g y z m F inj =
    omega (arith, weight_le k l g m inj all (λ i hi hl. refl), best_le k l g y z F all, all_z l z)

-- no matching is heavier than the answer's
pub heaviest : {k l : ℕ} {g : ℕ → ℕ → ℕ} {y z m : ℕ → ℕ} → Solved k l g y z m → (m' : ℕ → ℕ) → Injective k l m' → weight k l g m' ≤ weight k l g m
heaviest {k} {l} {g} {y} {z} A m' inj = omega (arith, weak_duality k l g y z m' (record { covers = A.feasible }) inj, A.equal)

-- the pairs handed on have the matching's weight, and no two have the same column
module _ {k l : ℕ} {g : ℕ → ℕ → ℕ} {m p : ℕ → ℕ} (l_few : l ≤ degree_limit) (P : (i : ℕ) → i < k → Partner l g m i (p i)) where
  pub partners_weight : weight k l g p ≡ weight k l g m
  unfolding weight gained
  partners_weight = sum_ext k (gained l g p) (gained l g m) (λ i hi. ⊎_elim
      (λ lt. ap (λ (x : ℕ). cond (ltb x l) (g i x) 0) ((P i hi).pair lt).0)
      (λ le. rw (le-ltb (p i) l (omega arith)) (sym ((P i hi).none le)))
      (less? (p i) degree_limit))

  pub partners_injective : Injective k l m → Injective k l p
  partners_injective inj i j hi hj lt e =
      let a = ((P i hi).pair (omega arith)).0 in
      let b = ((P j hj).pair (omega arith)).0 in
      inj i j hi hj (omega arith) (sym a ∙ e ∙ b)

-- m with c for row k
put_row : ℕ → ℕ → (ℕ → ℕ) → ℕ → ℕ
put_row k c m i = cond (eqb i k) c (m i)

put_row_same : (k c : ℕ) (m : ℕ → ℕ) → put_row k c m k ≡ c
unfolding put_row
put_row_same k c m = rw (eq-eqb k k refl)

put_row_other : (k c : ℕ) (m : ℕ → ℕ) (i : ℕ) → i < k → put_row k c m i ≡ m i
unfolding put_row
put_row_other k c m i h = rw (ne_eqb i k (λ e. omega arith))

-- the column that best_column took
best_column_arg : (n : ℕ) (free : ℕ → Bool) (gain : ℕ → ℕ) (rest : (ℕ → Bool) → ℕ) → (best_column n free gain rest ≡ 0) ⊎ ((j : ℕ) × (j < n) × (free j ≡ true) × (best_column n free gain rest ≡ gain j + rest (minus free j)))
unfolding best_column
best_column_arg zero free gain rest = inl refl
best_column_arg (suc n) free gain rest = go (free n) refl (best_column_arg n free gain rest)
  where
    old : ℕ
    old = best_column n free gain rest

    new : ℕ
    new = gain n + rest (minus free n)

    go : (t : Bool) → free n ≡ t → (old ≡ 0) ⊎ ((j : ℕ) × (j < n) × (free j ≡ true) × (old ≡ gain j + rest (minus free j))) → (max old (cond t new 0) ≡ 0) ⊎ ((j : ℕ) × (j < suc n) × (free j ≡ true) × (max old (cond t new 0) ≡ gain j + rest (minus free j)))
    go true e ih =
        ⊎_elim
        (λ lt. inr (n, omega arith, e, omega arith))
        (λ le. ⊎_elim (λ z. inl (omega arith)) (λ p. inr (p.0, omega (arith, p.1), p.2, omega (arith, p.3))) ih)
        (less? old new)
    go false e ih = ⊎_elim (λ z. inl (omega arith)) (λ p. inr (p.0, omega (arith, p.1), p.2, omega (arith, p.3))) ih

pub record Attained (k l : ℕ) (g : ℕ → ℕ → ℕ) (free : ℕ → Bool) : Type 0 where
  pub m : ℕ → ℕ
  pub inj : Injective k l m
  pub allowed : (i : ℕ) → i < k → m i < l → free (m i) ≡ true
  pub equal : weight k l g m ≡ best l g k free

-- one row more, which has c, where c is no column or a free one
attained_more : (k l c w : ℕ) (g : ℕ → ℕ → ℕ) (free free' : ℕ → Bool) → ((j : ℕ) → j < l → free' j ≡ true → (free j ≡ true) × (j ≡ c → ⊥)) → (c < l → free c ≡ true) → (R : Attained k l g free') → (w ≡ cond (ltb c l) (g k c) 0) → weight k l g R.m + w ≡ best l g (suc k) free → Attained (suc k) l g free
unfolding weight gained sum
attained_more k l c w g free free' sub fc R we eq = record {
  m = p;
  inj = λ i j hi hj hl e.
      ⊎_elim
      (λ qi. ⊎_elim (λ qj. qi ∙ sym qj)
      (λ nj. let lj : j < k = omega (arith, nj) in
      let ej : R.m j ≡ c = sym (put_row_other k c R.m j lj) ∙ sym e ∙ ap p qi ∙ put_row_same k c R.m in
      let mj : R.m j < l = omega (arith, ap p qi, put_row_same k c R.m) in
      absurd ((sub (R.m j) mj (R.allowed j lj mj)).1 ej))
      (same? j k))
      (λ ni. let li : i < k = omega (arith, ni) in
      let ei : p i ≡ R.m i = put_row_other k c R.m i li in
      ⊎_elim
      (λ qj. absurd ((sub (R.m i) (omega arith) (R.allowed i li (omega arith))).1 (sym ei ∙ e ∙ ap p qj ∙ put_row_same k c R.m)))
      (λ nj. let lj : j < k = omega (arith, nj) in R.inj i j li lj (omega arith) (sym ei ∙ e ∙ put_row_other k c R.m j lj))
      (same? j k))
      (same? i k);
  allowed = λ i hi hl.
      ⊎_elim
      (λ q. let e : p i ≡ c = ap p q ∙ put_row_same k c R.m in ap free e ∙ fc (omega arith))
      (λ n. let li : i < k = omega (arith, n) in
      let e : p i ≡ R.m i = put_row_other k c R.m i li in
      ap free e ∙ (sub (R.m i) (omega arith) (R.allowed i li (omega arith))).0)
      (same? i k);
  equal =
      omega (
        arith,
        eq,
        we,
        sum_ext k (λ i. cond (ltb (p i) l) (g i (p i)) 0) (λ i. cond (ltb (R.m i) l) (g i (R.m i)) 0) (λ i hi. ap (λ (x : ℕ). cond (ltb x l) (g i x) 0) (put_row_other k c R.m i hi)),
        ap (λ (x : ℕ). cond (ltb x l) (g k x) 0) (put_row_same k c R.m),
      );
}
  where
    p : ℕ → ℕ
    p = put_row k c R.m

-- some matching has the greatest weight
pub attained : (k l : ℕ) (g : ℕ → ℕ → ℕ) (free : ℕ → Bool) → Attained k l g free
unfolding best weight sum
attained zero l g free = record { m = λ i. l; inj = λ i j hi. absurd (not-suc-le-zero hi); allowed = λ i hi. absurd (not-suc-le-zero hi); equal = refl }
attained (suc k) l g free =
    ⊎_elim
    (λ lt. ⊎_elim (λ z. absurd (omega arith)) (λ a. take a lt (attained k l g (minus free a.0))) (best_column_arg l free (g k) (best l g k)))
    (λ le. skip (attained k l g free) le)
    (less? (best l g k free) (best_column l free (g k) (best l g k)))
  where
    skip : Attained k l g free → best_column l free (g k) (best l g k) ≤ best l g k free → Attained (suc k) l g free
    skip R le =
        attained_more k l l 0 g free free (λ j hj e. (e, λ q. omega arith)) (λ h. absurd (omega arith)) R
        (sym (rw (le-ltb l l (omega arith)))) (omega (arith, R.equal))

    kept : (j c : ℕ) → minus free c j ≡ true → (free j ≡ true) × (j ≡ c → ⊥)
    kept j c e =
        ⊎_elim
        (λ q. absurd (subst T (sym (subst (λ (x : ℕ). minus free c x ≡ true) q e) ∙ minus_same free c) tt))
        (λ n. (sym (minus_other free c j n) ∙ e, n))
        (same? j c)

    take : (a : (j : ℕ) × (j < l) × (free j ≡ true) × (best_column l free (g k) (best l g k) ≡ g k j + best l g k (minus free j))) → best l g k free < best_column l free (g k) (best l g k) → Attained k l g (minus free a.0) → Attained (suc k) l g free
    take a lt R =
        attained_more k l a.0 (g k a.0) g free (minus free a.0) (λ j hj e. kept j a.0 e) (λ h. a.2) R
        (sym (rw (lt-ltb a.0 l a.1))) (omega (arith, R.equal, a.3))

-- ---- without a column

-- h is g with column c's gains at 0
record Cleared (k c : ℕ) (g h : ℕ → ℕ → ℕ) : Type 0 where
  here : (i : ℕ) → i < k → h i c ≡ 0
  other : (i j : ℕ) → j < degree_limit → j ≢ c → h i j ≡ g i j

-- with column c's gains at 0 the greatest weight is that over the other columns
module _ {k l c : ℕ} {g h : ℕ → ℕ → ℕ} (l_few : l ≤ degree_limit) (D : Cleared k c g h) where
  -- a matching that leaves c alone weighs the same
  alone : (m : ℕ → ℕ) → ((i : ℕ) → i < k → m i < l → m i ≢ c) → weight k l g m ≡ weight k l h m
  unfolding weight gained
  alone m n = sum_ext k (gained l g m) (gained l h m) (λ i hi. ⊎_elim
      (λ lt. rw (lt-ltb (m i) l lt) (sym (D.other i (m i) (omega arith) (n i hi lt))))
      (λ le. rw (le-ltb (m i) l le))
      (less? (m i) l))

  kept : (j : ℕ) → minus all c j ≡ true → j ≢ c
  kept j e q = true≢false (sym (ap (minus all c) (sym q) ∙ e) ∙ minus_same all c)

  rest_up : best l g k (minus all c) ≤ best l h k all
  rest_up =
      let A = attained k l g (minus all c) in
      omega (arith, A.equal, alone A.m (λ i hi lt. kept (A.m i) (A.allowed i hi lt)), weight_le k l h A.m A.inj all (λ i hi lt. refl))

  rest_down : best l h k all ≤ best l g k (minus all c)
  unfolding weight gained
  rest_down = omega (arith, A.equal, same_weight, alone p (λ i hi lt. off i lt), weight_le k l g p inj (minus all c) (λ i hi lt. minus_other all c (p i) (off i lt)))
    where
      A : Attained k l h all
      A = attained k l h all

      -- its matching with none for c
      p : ℕ → ℕ
      p i = cond (eqb (A.m i) c) l (A.m i)

      p_yes : (i : ℕ) → A.m i ≡ c → p i ≡ l
      p_yes i e = rw (eq-eqb (A.m i) c e)

      p_no : (i : ℕ) → A.m i ≢ c → p i ≡ A.m i
      p_no i n = rw (ne_eqb (A.m i) c n)

      mine : (i : ℕ) → p i < l → A.m i ≢ c
      mine i lt e = omega (arith, p_yes i e)

      off : (i : ℕ) → p i < l → p i ≢ c
      off i lt e = mine i lt (sym (p_no i (mine i lt)) ∙ e)

      inj : Injective k l p
      inj i j hi hj lt e =
          let lj : p j < l = omega arith in
          let a = p_no i (mine i lt) in
          A.inj i j hi hj (omega arith) (sym a ∙ e ∙ p_no j (mine j lj))

      same_weight : weight k l h A.m ≡ weight k l h p
      same_weight = sum_ext k (gained l h A.m) (gained l h p) (λ i hi. ⊎_elim
          (λ e. let w : gained l h p i ≡ 0 = ap (λ (x : ℕ). cond (ltb x l) (h i x) 0) (p_yes i e) ∙ rw (le-ltb l l (omega arith)) in ap (λ (x : ℕ). cond (ltb x l) (h i x) 0) e ∙ zero_at i hi (ltb c l) ∙ sym w)
          (λ n. ap (λ (x : ℕ). cond (ltb x l) (h i x) 0) (sym (p_no i n)))
          (same? (A.m i) c))
        where
          zero_at : (i : ℕ) → i < k → (t : Bool) → cond t (h i c) 0 ≡ 0
          zero_at i hi true = D.here i hi
          zero_at i hi false = refl

  rest_best : best l h k all ≡ best l g k (minus all c)
  rest_best = omega (arith, rest_up, rest_down)

-- ---- what the weights of all choices are: the greatest, by trying all matchings of the columns that are left

heaviest_best : {k l : ℕ} {g : ℕ → ℕ → ℕ} {r : ℕ} → Heaviest k l g r → r ≡ best l g k all
heaviest_best {k} {l} {g} H =
    let a = best_le k l g H.y H.z (record { covers = H.dual.feasible }) all in
    let b = weight_le k l g H.m H.dual.injective all (λ i hi lt. refl) in
    omega (arith, H.total, H.dual.equal, all_z l H.z)

pub weights_best : {k l : ℕ} (g : ℕ → ℕ → ℕ) {t : List ℕ} → l ≤ degree_limit → WeightsOf k l g t → (c : ℕ) → c < l → at t (c + 1) ≡ best l g k (minus all c)
weights_best {k} {l} g few W c h = heaviest_best (W.each (c + 1) (omega arith)) ∙ rest_best few (record {
  here = λ i hi. out_yes (c + 1) g i c refl;
  other = λ i j hj n. out_no (c + 1) g i j (λ e. n (omega arith));
})
