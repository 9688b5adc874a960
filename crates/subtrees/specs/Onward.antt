-- Ways that never turn back in a rooted tree: the start and the end decide the last edge. Assumes nothing.
use Rattle.std.specs.Prelude.{◌≡◌, refl, ◌⊎◌, ◌≢◌, ℕ, zero, suc, ◌≤◌, ◌<◌}
use Rattle.std.proofs.Math.Path.{sym, subst}
use Rattle.std.proofs.Common.{ap, ◌∙◌, not-suc-le-zero}
use Rattle.std.proofs.Math.Logic.{inl, inr, ⊎_elim}
use native.Mathlib.Omega.{arith}
use Rattle.foundations.specs.Tests.{same?}
use Rattle.subtrees.specs.Connected.{here, Joined, above, Under, climb_cases, under_deep}

module _ (m : ℕ) (fpar fdep : ℕ → ℕ) (falls : (v : ℕ) → v < m → v ≢ 0 → (fpar v < m) × (fdep (fpar v) < fdep v)) where
  abbrev May : ℕ → Type 0
  May z = (z < m) × (z ≢ 0)

  -- a lies under p
  abbrev Lower : ℕ → ℕ → Type 0
  Lower p a = Under m fpar p a

  deep : {p a : ℕ} → Lower p a → fdep p ≤ fdep a
  deep c = under_deep m fpar fdep (λ v l z. (falls v l z).1) c

  -- what is under p is under p's parent
  pub under_up : {p a : ℕ} → May p → Under m fpar p a → Under m fpar (fpar p) a
  under_up z here = above z here
  under_up z (above y c) = above y (under_up z c)

  -- of two that a lies under, one lies under the other
  chain : {p r a : ℕ} → Lower p a → Lower r a → Lower p r ⊎ Lower r p
  chain here d = inr d
  chain {p} (above {x = x} z c) d = ⊎_elim (λ e. inl (subst (λ (y : ℕ). Lower p y) e (above z c))) (λ q. chain c q.1) (climb_cases d)

  -- what is under p is p or under a child of p
  pub under_child : {p a : ℕ} → Under m fpar p a → (a ≡ p) ⊎ ((c : ℕ) × May c × (fpar c ≡ p) × Under m fpar c a)
  under_child here = inl refl
  under_child {a} (above z c) = inr (⊎_elim (λ e. (a, z, e, here)) (λ q. (q.0, q.1, q.2, above z q.3)) (under_child c))

  pub under? : (p a : ℕ) → a < m → Under m fpar p a ⊎ ¬ (Under m fpar p a)
  under? p a l = go (suc (fdep a)) a l (omega arith)
    where
      go : (k a : ℕ) → a < m → fdep a < k → Lower p a ⊎ ¬ (Lower p a)
      go zero a l h = absurd (not-suc-le-zero h)
      go (suc k) a l h = ⊎_elim
          (λ e. inl (subst (λ (y : ℕ). Lower p y) (sym e) here))
          (λ n. ⊎_elim
          (λ e. inr (λ c. ⊎_elim n (λ q. q.0.1 e) (climb_cases c)))
          (λ z. let f = falls a l z in ⊎_elim
          (λ c. inl (above (l, z) c))
          (λ d. inr (λ c. ⊎_elim n (λ q. d q.1) (climb_cases c)))
          (go k (fpar a) f.0 (omega (arith, f.1))))
          (same? a 0))
          (same? a p)

  stuck : (p r : ℕ) → May p → May r → fpar p ≡ fpar r → Lower p r → p ≡ r
  stuck p r z y e c = ⊎_elim (λ q. sym q) (λ q. absurd (off (deep (subst (λ (x : ℕ). Lower p x) (sym e) q.1)) (falls p z.0 z.1).1)) (climb_cases c)
    where
      off : fdep p ≤ fdep (fpar p) → fdep (fpar p) < fdep p → ⊥
      off h k = omega arith

  pub siblings : (p r a : ℕ) → May p → May r → fpar p ≡ fpar r → Under m fpar p a → Under m fpar r a → p ≡ r
  siblings p r a z y e c d = ⊎_elim (stuck p r z y e) (λ q. sym (stuck r p y z (sym e) q)) (chain c d)

  -- a way from a that never turned back has come over the edge p–q: climbing all the time, or down at last, away from a
  pub Came : ℕ → ℕ → ℕ → Type 0
  Came a p q = (May p × (fpar p ≡ q) × Lower p a) ⊎ (May q × (fpar q ≡ p) × ¬ (Lower q a))

  pub came_start : (a q : ℕ) → a < m → q < m → Joined fpar a q → Came a a q
  unfolding Came Joined
  came_start a q l k j = ⊎_elim
      (λ h. inr ((k, h.0), h.1, λ c. off (deep c) (falls q k h.0).1 (ap fdep h.1)))
      (λ h. inl ((l, h.0), h.1, here))
      j
    where
      off : fdep q ≤ fdep a → fdep (fpar q) < fdep q → fdep (fpar q) ≡ fdep a → ⊥
      off x y z = omega arith

  pub came_on : (a p q r : ℕ) → Came a p q → q < m → r < m → Joined fpar q r → r ≢ p → Came a q r
  unfolding Came Joined
  came_on a p q r c l k j n = ⊎_elim
      (λ u. ⊎_elim
      (λ h. inr ((k, h.0), h.1, λ d. n (siblings r p a (k, h.0) u.0 (h.1 ∙ sym u.1) d u.2)))
      (λ h. inl ((l, h.0), h.1, subst (λ (x : ℕ). Lower x a) u.1 (under_up u.0 u.2)))
      j)
      (λ d. ⊎_elim
      (λ h. inr ((k, h.0), h.1, λ x. d.2 (subst (λ (y : ℕ). Lower y a) h.1 (under_up (k, h.0) x))))
      (λ h. absurd (n (sym h.1 ∙ d.1)))
      j)
      c

  pub came_last : (a p p' q : ℕ) → Came a p q → Came a p' q → p ≡ p'
  unfolding Came
  came_last a p p' q c d = ⊎_elim
      (λ u. ⊎_elim
      (λ w. siblings p p' a u.0 w.0 (u.1 ∙ sym w.1) u.2 w.2)
      (λ w. absurd (w.2 (subst (λ (x : ℕ). Lower x a) u.1 (under_up u.0 u.2))))
      d)
      (λ u. ⊎_elim
      (λ w. absurd (u.2 (subst (λ (x : ℕ). Lower x a) w.1 (under_up w.0 w.2))))
      (λ w. sym u.1 ∙ w.1)
      d)
      c

  pub came_away : (a p q : ℕ) → Came a p q → q ≢ a
  unfolding Came
  came_away a p q c e = ⊎_elim
      (λ u. off (falls p u.0.0 u.0.1).1 (deep u.2) (ap fdep u.1) (ap fdep e))
      (λ u. u.2 (rw e here))
      c
    where
      off : fdep (fpar p) < fdep p → fdep p ≤ fdep a → fdep (fpar p) ≡ fdep q → fdep q ≡ fdep a → ⊥
      off x y z w = omega arith
