-- What one turn of each small loop keeps. Assumes nothing.
use mathlib.Core.Path.{◌≡◌, refl, sym, ap, subst, ◌∙◌}
use mathlib.Core.Logic.{⊎_elim, ◌≢◌}
use mathlib.Core.List.{List, []}
use Prim.Native.Nat.{ℕ, ◌+◌, ◌≤◌, ◌<◌, min}
use native.Mathlib.Omega.{arith}
use native.Mathlib.Nat.{not-suc-le-zero}
use lib.ListN.{length, get_or, set, length-set, replicate, get_or-replicate}
use lib.Seq.{set-set, set_out, get_or-set_same, get_or-set_other}
use borrow.Author.Count.{below_more}
use borrow.Author.Tests.{eq-eqb, ne_eqb, lt-ltb, le-ltb}
use Rattle.foundations.specs.Tests.{same?, less?}
use Rattle.foundations.specs.Changed.{changed_none, changed_more}
use Rattle.model.specs.Limits.{degree_limit}
use Rattle.assignment.specs.Matching.{at, cell, kept_of, out_of, out_kept}
use Rattle.assignment.specs.Loops.{far, less_of, who_of, open_of, OwnersOf, Nearest, Looked, First}

-- a gain that was looked at, without the column that choice c leaves out
pub kept_is : (c : ℕ) (g : List ℕ) (i j : ℕ) {x v : ℕ} → x ≡ kept_of c j v → v ≡ cell g i j → x ≡ out_of c (cell g) i j
kept_is c g i j e v = e ∙ ap (kept_of c j) v ∙ out_kept c (cell g) i j

-- ---- a place set in a row that was just set

pub set_within : (l : List (List ℕ)) (o : ℕ) (q : List ℕ) (i x : ℕ) → set (set l o q) o (set (get_or (set l o q) o []) i x) ≡ set l o (set q i x)
set_within l o q i x =
    set-set l o q (set (get_or (set l o q) o []) i x)
    ∙ ⊎_elim
    (λ h. ap (λ (r : List ℕ). set l o (set r i x)) (get_or-set_same l o q [] h))
    (λ h. set_out l o (set (get_or (set l o q) o []) i x) h ∙ sym (set_out l o (set q i x) h))
    (less? o (length l))

-- std's minimum is the definitions'
pub min_less : (new old : ℕ) → min old new ≡ less_of new old
min_less new old = ⊎_elim (λ h. rw (lt-ltb new old h) (omega arith)) (λ h. rw (le-ltb new old h) (omega arith)) (less? new old)

-- ---- the nearest column

pub nearest_none : (C f : ℕ → ℕ) (b : ℕ) → Nearest 0 C f b far
nearest_none C f b = record { low = λ x h. absurd (not-suc-le-zero h); small = omega arith; found = λ h. absurd (omega arith) }

pub nearest_more : (s : List ℕ) (v o : ℕ) {j b d b' d' : ℕ} {C : ℕ → ℕ} → Nearest j C (at s) b d → j < length s → o ≡ open_of (C j) v → b' ≡ who_of o d j b → d' ≡ less_of o d → Nearest (j + 1) C (at (set s j v)) b' d'
nearest_more s v o {j} {b} {d} {b'} {d'} {C} N h eo eb ed = ⊎_elim less more (less? o d)
  where
    here : at (set s j v) j ≡ v
    here = get_or-set_same s j v 0 h

    old : (x : ℕ) → x < j → at (set s j v) x ≡ at s x
    old x lt = get_or-set_other s j x v 0 (λ q. omega (arith, q))

    open_yes : C j ≢ 1 → o ≡ v
    open_yes n = eo ∙ rw (ne_eqb (C j) 1 n)

    open_no : C j ≡ 1 → o ≡ far
    open_no e = eo ∙ rw (eq-eqb (C j) 1 e)

    less : o < d → Nearest (j + 1) C (at (set s j v)) b' d'
    less lt =
        let q : d' ≡ o = ed ∙ rw (lt-ltb o d lt) in
        let p : b' ≡ j = eb ∙ rw (lt-ltb o d lt) in
        let n : C j ≢ 1 = λ e. omega (arith, open_no e, N.small) in
        record {
          low = below_more (λ (x : ℕ). C x ≢ 1 → d' ≤ at (set s j v) x) j (λ x hx c. omega (arith, old x hx, N.low x hx c)) (λ c. omega (arith, open_yes c, here));
          small = omega (arith, N.small);
          found = λ _. subst (λ (x : ℕ). (x < j + 1) × (C x ≢ 1) × (at (set s j v) x ≡ d')) (sym p) (omega arith, n, omega (arith, open_yes n, here));
        }

    more : d ≤ o → Nearest (j + 1) C (at (set s j v)) b' d'
    more le =
        let q : d' ≡ d = ed ∙ rw (le-ltb o d le) in
        let p : b' ≡ b = eb ∙ rw (le-ltb o d le) in
        record {
          low = below_more (λ (x : ℕ). C x ≢ 1 → d' ≤ at (set s j v) x) j (λ x hx c. omega (arith, old x hx, N.low x hx c)) (λ c. omega (arith, open_yes c, here));
          small = omega (arith, N.small);
          found = λ u. let f = N.found (omega arith) in subst (λ (x : ℕ). (x < j + 1) × (C x ≢ 1) × (at (set s j v) x ≡ d')) (sym p) (omega (arith, f.0), f.1, omega (arith, old b f.0, f.2));
        }

-- ---- distances

pub first_none : (F : ℕ → ℕ) (s : List ℕ) → First 0 F s s degree_limit far
first_none F s = record { distances = changed_none _ s; nearest = nearest_none _ _ degree_limit }

pub first_more : {F : ℕ → ℕ} {s₀ s : List ℕ} (v : ℕ) {j b d b' d' : ℕ} → First j F s₀ s b d → j < length s₀ → v ≡ F j → b' ≡ who_of v d j b → d' ≡ less_of v d → First (j + 1) F s₀ (set s j v) b' d'
first_more {F} {s₀} {s} v {j} P h ev eb ed = record {
  distances = changed_more P.distances h ev;
  nearest = nearest_more s v v P.nearest (omega (arith, P.distances.size)) refl eb ed;
}

pub first_end : {F : ℕ → ℕ} {s₀ s : List ℕ} {j l b d : ℕ} → First j F s₀ s b d → l ≤ j → j ≤ l → First l F s₀ s b d
first_end {F} {s₀} {s} {j} {l} {b} {d} P p q = subst (λ (x : ℕ). First x F s₀ s b d) (let e : j ≡ l = omega arith in e) P

pub looked_more : {t : ℕ} {F C : ℕ → ℕ} {s₀ f₀ s f : List ℕ} (w v u o : ℕ) {j b d b' d' : ℕ} → w ≡ F j → Looked j t F C s₀ f₀ s f b d → j < length s₀ → j < length f₀ → v ≡ min (at s j) w → u ≡ who_of w (at s j) t (at f j) → o ≡ open_of (C j) v → b' ≡ who_of o d j b → d' ≡ less_of o d → Looked (j + 1) t F C s₀ f₀ (set s j v) (set f j u) b' d'
looked_more {t} {F} {C} {s₀} {f₀} {s} {f} w v u o {j} ew P h h' ev eu eo eb ed = record {
  distances = changed_more P.distances h (ev ∙ min_less w (at s j) ∙ ap (λ (x : ℕ). less_of x (at s j)) ew);
  sources = changed_more P.sources h' (eu ∙ ap (λ (x : ℕ). who_of x (at s j) t (at f j)) ew ∙ ap (λ (x : ℕ). who_of (F j) x t (at f j)) (P.distances.rest j (omega arith)));
  nearest = nearest_more s v o P.nearest (omega (arith, P.distances.size)) eo eb ed;
}

-- ---- owners

-- no row has a column
pub owners_free : (k : ℕ) → k ≤ degree_limit → OwnersOf k (replicate degree_limit degree_limit) (replicate degree_limit degree_limit)
owners_free k few = record {
  has = λ c h lt. absurd (omega (arith, free c h));
  none = λ c h le x lt q. omega (arith, q, free x (omega arith));
  size = refl;
}
  where
    free : (x : ℕ) → x < degree_limit → at (replicate degree_limit degree_limit) x ≡ degree_limit
    free x h = get_or-replicate {A = ℕ} degree_limit x degree_limit 0 h

-- row r gives its column b up
pub owners_drop : {k r b : ℕ} {m own : List ℕ} → OwnersOf k m own → k ≤ degree_limit → length m ≡ degree_limit → r < k → b < degree_limit → at m r ≡ b → ((i : ℕ) → i < k → at m i ≡ b → i ≡ r) → OwnersOf k (set m r degree_limit) (set own b degree_limit)
owners_drop {k} {r} {b} {m} {own} P few long hr hb e alone = record {
  has = λ x hx lt. ⊎_elim
      (λ q. absurd (omega (arith, ap (at (set own b degree_limit)) q, here)))
      (λ n.
      let o : at (set own b degree_limit) x ≡ at own x = get_or-set_other own b x degree_limit 0 n in
      let h = P.has x hx (omega arith) in
      subst (λ (y : ℕ). (y < k) × (at (set m r degree_limit) y ≡ x)) (sym o) (h.0, get_or-set_other m r (at own x) degree_limit 0 (λ q. n (sym h.1 ∙ ap (at m) q ∙ e)) ∙ h.1))
      (same? x b);
  none = λ x hx le y hy. ⊎_elim
      (λ q p. omega (arith, p, ap (at (set m r degree_limit)) q, mine))
      (λ q p.
      let s : at m y ≡ x = sym (get_or-set_other m r y degree_limit 0 q) ∙ p in
      ⊎_elim
      (λ z. q (alone y hy (s ∙ z)))
      (λ z. P.none x hx (omega (arith, get_or-set_other own b x degree_limit 0 z)) y hy s)
      (same? x b))
      (same? y r);
  size = length-set own b degree_limit ∙ P.size;
}
  where
    here : at (set own b degree_limit) b ≡ degree_limit
    here = get_or-set_same own b degree_limit 0 (omega (arith, P.size))

    mine : at (set m r degree_limit) r ≡ degree_limit
    mine = get_or-set_same m r degree_limit 0 (omega arith)
