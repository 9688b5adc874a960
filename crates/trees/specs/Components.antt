-- Components: two vertices have the same component exactly if a path by the first i edges joins them; n - 1 edges that close no cycle
-- leave one component. Assumes nothing.
use Rattle.std.specs.Prelude.{◌≡◌, ◌≢◌, Bool, eqb}
use Rattle.std.proofs.Math.Path.{refl, sym, ap, subst}
use Rattle.std.proofs.Common.{◌∙◌, inl, inr}
use Rattle.std.proofs.Math.Bool.{true}
use Prim.Native.Nat.{ℕ, zero, suc, ◌+◌, ◌≤◌, ◌<◌}
use native.Mathlib.Omega.{arith}
use Rattle.std.proofs.Math.Decide.{ℕ_discrete, dec_lt}
use borrow.Author.Tests.{eq-eqb, ne_eqb}
use Rattle.foundations.specs.Counting.{cnt, cnt_all, cnt_drop, cnt_two}
use Rattle.model.specs.Edges.{Joins, Walk, here, go, component}

module _ (a b : ℕ → ℕ) where
  abbrev comp : ℕ → ℕ → ℕ
  comp i x = component a b i x

  pub component_in : (i x : ℕ) → comp i x ≡ comp i (b i) → comp (suc i) x ≡ comp i (a i)
  unfolding component
  component_in i x h = rw (eq-eqb (comp i x) (comp i (b i)) h)

  pub component_out : (i x : ℕ) → comp i x ≢ comp i (b i) → comp (suc i) x ≡ comp i x
  unfolding component
  component_out i x h = rw (ne_eqb (comp i x) (comp i (b i)) h)

  pub component_keep : (i x y : ℕ) → comp i x ≡ comp i y → comp (suc i) x ≡ comp (suc i) y
  unfolding component
  component_keep i x y h = rw h

  pub component_ends : (i : ℕ) → comp (suc i) (a i) ≡ comp (suc i) (b i)
  component_ends i = go (ℕ_discrete (comp i (a i)) (comp i (b i)))
    where
      go : Dec (comp i (a i) ≡ comp i (b i)) → comp (suc i) (a i) ≡ comp (suc i) (b i)
      go (yes e) = component_keep i (a i) (b i) e
      go (no e) = component_out i (a i) e ∙ sym (component_in i (b i) refl)

  -- How two vertices came into one component: they were in one before, or edge i joined theirs.
  pub data Came (i x y : ℕ) : Type 0 where
    same : comp i x ≡ comp i y → Came i x y
    over : comp i x ≡ comp i (a i) → comp i y ≡ comp i (b i) → Came i x y
    back : comp i x ≡ comp i (b i) → comp i y ≡ comp i (a i) → Came i x y

  pub came : (i x y : ℕ) → comp (suc i) x ≡ comp (suc i) y → Came i x y
  came i x y h = go (ℕ_discrete (comp i x) (comp i (b i))) (ℕ_discrete (comp i y) (comp i (b i)))
    where
      go : Dec (comp i x ≡ comp i (b i)) → Dec (comp i y ≡ comp i (b i)) → Came i x y
      go (yes e) (yes f) = same (e ∙ sym f)
      go (yes e) (no f) = back e (sym (component_out i y f) ∙ sym h ∙ component_in i x e)
      go (no e) (yes f) = over (sym (component_out i x e) ∙ h ∙ component_in i y f) f
      go (no e) (no f) = same (sym (component_out i x e) ∙ h ∙ component_out i y f)

  -- ---- paths

  pub walk_join : {i x y z : ℕ} → Walk a b i x y → Walk a b i y z → Walk a b i x z
  walk_join here q = q
  walk_join (go j l h p) q = go j l h (walk_join p q)

  pub walk_more : {i x y : ℕ} → Walk a b i x y → Walk a b (suc i) x y
  walk_more here = here
  walk_more (go j l h p) = go j (omega arith) h (walk_more p)

  -- The components of an edge's ends agree from then on.
  pub component_edge : (j i : ℕ) → j < i → comp i (a j) ≡ comp i (b j)
  component_edge j zero l = absurd (omega arith)
  component_edge j (suc i) l = step (ℕ_discrete j i) (component_edge j i)
    where
      step : Dec (j ≡ i) → (j < i → comp i (a j) ≡ comp i (b j)) → comp (suc i) (a j) ≡ comp (suc i) (b j)
      step (yes e) r = rw e (component_ends i)
      step (no e) r = component_keep i (a j) (b j) (r (omega arith))

  pub component_joins : (j i x y : ℕ) → j < i → Joins a b j x y → comp i x ≡ comp i y
  component_joins j i x y l (inl h) = sym (ap (comp i) h.0) ∙ component_edge j i l ∙ ap (comp i) h.1
  component_joins j i x y l (inr h) = sym (ap (comp i) h.1) ∙ sym (component_edge j i l) ∙ ap (comp i) h.0

  -- The components say exactly which vertices a path joins.
  pub walk_component : (i : ℕ) {x y : ℕ} → Walk a b i x y → comp i x ≡ comp i y
  walk_component i here = refl
  walk_component i (go {x} {y} {z} j l h p) = component_joins j i x y l h ∙ walk_component i p

  pub component_walk : (i x y : ℕ) → comp i x ≡ comp i y → Walk a b i x y
  unfolding component
  component_walk zero x y h = subst (λ z. Walk a b zero x z) h here
  component_walk (suc i) x y h = step (came i x y h) (λ u v. component_walk i u v)
    where
      step : Came i x y → ((u v : ℕ) → comp i u ≡ comp i v → Walk a b i u v) → Walk a b (suc i) x y
      step (same e) r = walk_more (r x y e)
      step (over e f) r = walk_join (walk_more (r x (a i) e)) (go i (omega arith) (inl (refl, refl)) (walk_more (r (b i) y (sym f))))
      step (back e f) r = walk_join (walk_more (r x (b i) e)) (go i (omega arith) (inr (refl, refl)) (walk_more (r (a i) y (sym f))))

  -- ---- one representative fewer with each edge

  -- Edge i joins two components.
  abbrev pub Fresh : ℕ → Type 0
  Fresh i = comp i (a i) ≢ comp i (b i)

  abbrev pub AllFresh : ℕ → Type 0
  AllFresh i = (j : ℕ) → j < i → Fresh j

  pub component_idem : (i x : ℕ) → AllFresh i → comp i (comp i x) ≡ comp i x
  unfolding component
  component_idem zero x h = refl
  component_idem (suc i) x h = step (ℕ_discrete (comp i x) (comp i (b i))) (λ z. component_idem i z (λ j l. h j (omega arith))) (h i (omega arith))
    where
      step : Dec (comp i x ≡ comp i (b i)) → ((z : ℕ) → comp i (comp i z) ≡ comp i z) → Fresh i → comp (suc i) (comp (suc i) x) ≡ comp (suc i) x
      step (yes e) r f = rw (component_in i x e) (component_out i (comp i (a i)) (λ q. f (sym (r (a i)) ∙ q)) ∙ r (a i))
      step (no e) r f = rw (component_out i x e) (component_out i (comp i x) (λ q. e (sym (r x) ∙ q)) ∙ r x)

  unfoldable pub rep : ℕ → ℕ → Bool
  rep i x = eqb (comp i x) x

  rep_drop : (i n : ℕ) → AllFresh (suc i) → comp i (b i) < n → cnt (rep i) n ≡ cnt (rep (suc i)) n + 1
  unfolding rep
  rep_drop i n h l =
      let f : Fresh i = h i (omega arith) in
      let r : (z : ℕ) → comp i (comp i z) ≡ comp i z = λ z. component_idem i z (λ j m. h j (omega arith)) in
      cnt_drop (rep i) (rep (suc i)) (comp i (b i)) n l (eq-eqb (comp i (comp i (b i))) (comp i (b i)) (r (b i))) (ne_eqb (comp (suc i) (comp i (b i))) (comp i (b i)) (λ q. f (sym (component_in i (comp i (b i)) (r (b i))) ∙ q))) (λ x lx ne. step x ne f r (ℕ_discrete (comp i x) (comp i (b i))))
    where
      step : (x : ℕ) → x ≢ comp i (b i) → Fresh i → ((z : ℕ) → comp i (comp i z) ≡ comp i z) → Dec (comp i x ≡ comp i (b i)) → rep i x ≡ rep (suc i) x
      step x ne f r (yes e) = ne_eqb (comp i x) x (λ q. ne (sym q ∙ e)) ∙ sym (ne_eqb (comp (suc i) x) x (λ q. f (sym (r (a i)) ∙ ap (comp i) (sym (component_in i x e) ∙ q) ∙ e)))
      step x ne f r (no e) = rw (component_out i x e)

  -- The ends of the first i edges are below n.
  abbrev pub Low : ℕ → ℕ → Type 0
  Low n i = (j : ℕ) → j < i → (a j < n) × (b j < n)

  pub component_low : (n i x : ℕ) → Low n i → x < n → comp i x < n
  unfolding component
  component_low n zero x h l = l
  component_low n (suc i) x h l = step (ℕ_discrete (comp i x) (comp i (b i))) (component_low n i (a i) (λ j m. h j (omega arith)) (h i (omega arith)).0) (component_low n i x (λ j m. h j (omega arith)) l)
    where
      step : Dec (comp i x ≡ comp i (b i)) → comp i (a i) < n → comp i x < n → comp (suc i) x < n
      step (yes e) la lx = rw (component_in i x e) la
      step (no e) la lx = rw (component_out i x e) lx

  pub reps : (n i : ℕ) → Low n i → AllFresh i → cnt (rep i) n + i ≡ n
  unfolding rep component
  reps n zero h f = let e : cnt (rep zero) n ≡ n = cnt_all (rep zero) n (λ x l. eq-eqb x x refl) in omega arith
  reps n (suc i) h f =
      let r : cnt (rep i) n + i ≡ n = reps n i (λ j l. h j (omega arith)) (λ j l. f j (omega arith)) in
      let d : cnt (rep i) n ≡ cnt (rep (suc i)) n + 1 = rep_drop i n f (component_low n i (b i) (λ j l. h j (omega arith)) (h i (omega arith)).1) in
      omega arith

  -- After n - 1 such edges all vertices are in one component.
  pub all_one : (n i x y : ℕ) → n ≡ i + 1 → Low n i → AllFresh i → x < n → y < n → comp i x ≡ comp i y
  unfolding rep
  all_one n i x y e h f lx ly = step (ℕ_discrete (comp i x) (comp i y))
    where
      rx : rep i (comp i x) ≡ true
      rx = eq-eqb (comp i (comp i x)) (comp i x) (component_idem i x f)

      ry : rep i (comp i y) ≡ true
      ry = eq-eqb (comp i (comp i y)) (comp i y) (component_idem i y f)

      less : (u v : ℕ) → u < v → v < n → rep i u ≡ true → rep i v ≡ true → ⊥
      less u v l m p q = let t : 2 ≤ cnt (rep i) n = cnt_two (rep i) u v n l m p q in let r : cnt (rep i) n + i ≡ n = reps n i h f in omega arith

      step : Dec (comp i x ≡ comp i y) → comp i x ≡ comp i y
      step (yes q) = q
      step (no q) = absurd (pick (dec_lt (comp i x) (comp i y)))
        where
          pick : Dec (comp i x < comp i y) → ⊥
          pick (yes l) = less (comp i x) (comp i y) l (component_low n i y h ly) rx ry
          pick (no l) = less (comp i y) (comp i x) (omega arith) (component_low n i x h lx) ry rx
