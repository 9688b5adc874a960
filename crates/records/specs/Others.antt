-- The neighbours of v other than s, by their places among the neighbours. Assumes nothing.
use Rattle.std.specs.Prelude.{◌≡◌, refl, ◌≢◌, false, cond, List, [], ◌∷◌, ℕ, zero, suc, ◌+◌, ◌-◌, ◌≤◌, ◌<◌, length, get_or, T, eqb, ltb}
use Rattle.std.proofs.Common.{sym, ap, ◌∙◌, subst, ⊎_elim, arith, not-suc-le-zero, eq-eqb, ne_eqb, lt-ltb, le-ltb}
use Rattle.foundations.specs.Members.{mem, get_d_mem, mem_ne, Distinct, del, del_out, length_del, distinct_occ, place, place_one}
use Rattle.foundations.specs.Tests.{same?, less?}
use Rattle.model.specs.Certificate.{others}
use Rattle.model.specs.Graph.{neighbours}
use Rattle.model.specs.Order.{choices}
use Rattle.model.specs.Tree.{count}
use Rattle.trees.specs.Accepted.{Sound}
use Rattle.trees.specs.Neighbours.{once_neighbours}
use Rattle.trees.specs.Rooted.{no_self}

-- ---- how many there are: all d for the choice 0, one less for any other

unfoldable pub others_of : ℕ → ℕ → ℕ
others_of d q = cond (eqb q 0) d (d - 1)

pub others_all : (d q : ℕ) → q ≡ 0 → d ≡ others_of d q
unfolding others_of
others_all d q e = rw e

pub others_less : (d q : ℕ) → q ≢ 0 → d - 1 ≡ others_of d q
unfolding others_of
others_less d q n = rw (ne_eqb q 0 n)

pub others_few : (d q : ℕ) → others_of d q ≤ d
others_few d q = ⊎_elim (λ e. rw (← others_all d q e) (omega arith)) (λ n. rw (← others_less d q n) (omega arith)) (same? q 0)

-- ---- the place of the j-th of them: s is the q-th choice, v itself first, then the neighbours

unfoldable pub column_in : ℕ → ℕ → ℕ
column_in q j = cond (eqb q 0) j (cond (ltb (j + 1) q) j (j + 1))

pub column_first : (q j : ℕ) → q ≡ 0 → j ≡ column_in q j
unfolding column_in
column_first q j e = rw e

pub column_before : (q j : ℕ) → q ≢ 0 → j + 1 < q → j ≡ column_in q j
unfolding column_in
column_before q j n h = rw (ne_eqb q 0 n, lt-ltb (j + 1) q h)

pub column_after : (q j : ℕ) → q ≢ 0 → q ≤ j + 1 → j + 1 ≡ column_in q j
unfolding column_in
column_after q j n h = rw (ne_eqb q 0 n, le-ltb (j + 1) q h)

-- ---- in a tree

-- without the p-th member, those after it move one place up
del_place : (s : ℕ) (A : List ℕ) (p : ℕ) → Distinct A → p < length A → get_or A p 0 ≡ s → (j : ℕ) → get_or (del s A) j 0 ≡ get_or A (cond (ltb j p) j (suc j)) 0
unfolding del
del_place s [] p d l e j = absurd (not-suc-le-zero l)
del_place s (x ∷ A) zero d l e j = rw (eq-eqb s x (sym e), le-ltb j 0 (omega arith)) (ap (λ (m : List ℕ). get_or m j 0) (del_out s A (subst (λ (y : ℕ). mem y A ≡ false) e d.0)))
del_place s (x ∷ A) (suc p) d l e j = rw (ne_eqb s x (mem_ne s x A d.0 (subst (λ (y : ℕ). T (mem y A)) e (get_d_mem A p (omega arith))))) (go (del_place s A p d.1 (omega arith) e) j)
  where
    go : ((j : ℕ) → get_or (del s A) j 0 ≡ get_or A (cond (ltb j p) j (suc j)) 0) → (j : ℕ) → get_or (x ∷ del s A) j 0 ≡ get_or (x ∷ A) (cond (ltb j (suc p)) j (suc j)) 0
    go h zero = rw (lt-ltb 0 (suc p) (omega arith))
    go h (suc j) = h j ∙ ⊎_elim
        (λ h. rw (lt-ltb j p h, lt-ltb (suc j) (suc p) (omega arith)))
        (λ h. rw (le-ltb j p h, le-ltb (suc j) (suc p) (omega arith)))
        (less? j p)

-- s is the q-th choice for v
pub record OthersAt (f : List ℕ) (v q s : ℕ) : Type 0 where
  pub number : length (others f v s) ≡ others_of (length (neighbours f v)) q
  pub low : (j : ℕ) → j < length (others f v s) → column_in q j < length (neighbours f v)
  pub get : (j : ℕ) → j < length (others f v s) → get_or (others f v s) j 0 ≡ get_or (neighbours f v) (column_in q j) 0

pub others_at : (f : List ℕ) → Sound f → (v q s : ℕ) → v < count f → q ≤ length (neighbours f v) → s ≡ get_or (choices f v) q 0 → OthersAt f v q s
others_at f S v zero s lv lq e =
    let same : others f v s ≡ neighbours f v = del_out s (neighbours f v) (rw e (no_self f S.passed.ends S.passed.tree v lv)) in
    record {
      number = ap length same ∙ others_all (length (neighbours f v)) 0 refl;
      low = λ j h. rw (← column_first 0 j refl) (subst (λ (m : List ℕ). j < length m) same h);
      get = λ j h. rw (same, ← column_first 0 j refl);
    }
others_at f S v (suc q) s lv lq e =
    let A = neighbours f v in
    let n : ◌≢◌ {A = ℕ} (suc q) 0 = λ z. omega arith in
    let one : length (others f v s) + 1 ≡ length A = length_del s A (once_neighbours f v) (subst (λ (y : ℕ). T (mem y A)) (sym e) (get_d_mem A q lq)) in
    record {
      number = (let t : length (others f v s) ≡ length A - 1 = omega arith in t) ∙ others_less (length A) (suc q) n;
      low = λ j h. ⊎_elim
          (λ b. rw (← column_before (suc q) j n (omega arith)) (omega arith))
          (λ b. rw (← column_after (suc q) j n (omega arith)) (omega arith))
          (less? j q);
      get = λ j h. del_place s A q (once_neighbours f v) lq (sym e) j ∙ ⊎_elim
          (λ b. rw (lt-ltb j q b) (ap (λ (x : ℕ). get_or A x 0) (column_before (suc q) j n (omega arith))))
          (λ b. rw (le-ltb j q b) (let t : suc j ≡ column_in (suc q) j = (let t : suc j ≡ j + 1 = omega arith in t) ∙ column_after (suc q) j n (omega arith) in ap (λ (x : ℕ). get_or A x 0) t))
          (less? j q);
    }

-- the j-th stands in its place among the neighbours
pub others_stand : {f : List ℕ} {v q s : ℕ} → OthersAt f v q s → (j : ℕ) → j < length (others f v s) → place (get_or (others f v s) j 0) (neighbours f v) ≡ column_in q j
others_stand {f} {v} {q} {s} O j h =
    let x = get_or (others f v s) j 0 in
    place_one x (neighbours f v) (column_in q j) (distinct_occ x (neighbours f v) (once_neighbours f v)) (O.low j h) (sym (O.get j h))
