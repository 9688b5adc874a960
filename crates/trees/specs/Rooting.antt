-- Rooting: in the tree that the first i edges make of r's component, every vertex but r has a parent, one step nearer to r, and of two
-- joined vertices one is the other's parent. For every r at once, by recursion on the edges. Assumes nothing.
use Rattle.std.specs.Prelude.{◌≡◌, ◌⊎◌, ◌≢◌}
use Rattle.std.proofs.Math.Path.{refl, sym}
use Rattle.std.proofs.Common.{ap, ◌∙◌, subst, arith}
use Rattle.std.proofs.Math.Logic.{inl, inr}
use Prim.Native.Nat.{ℕ, zero, suc, ◌+◌, ◌-◌, ◌<◌}
use Rattle.std.proofs.Math.Decide.{ℕ_discrete}
use borrow.Author.Tests.{eq-eqb, ne_eqb}
use Rattle.model.specs.Edges.{Joins, component, parent_in, depth_in}
use Rattle.trees.specs.Components.{Came, same, over, back, came, Fresh, AllFresh, Low, component_keep, component_joins, all_one}

module _ (a b : ℕ → ℕ) where
  abbrev comp : ℕ → ℕ → ℕ
  comp i x = component a b i x

  abbrev par : ℕ → ℕ → ℕ → ℕ
  par i r x = parent_in a b i r x

  abbrev dep : ℕ → ℕ → ℕ → ℕ
  dep i r x = depth_in a b i r x

  pub par_same : (i r x : ℕ) → comp i x ≡ comp i r → par (suc i) r x ≡ par i r x
  unfolding parent_in
  par_same i r x h = rw (eq-eqb (comp i x) (comp i r) h)

  pub dep_same : (i r x : ℕ) → comp i x ≡ comp i r → dep (suc i) r x ≡ dep i r x
  unfolding depth_in
  dep_same i r x h = rw (eq-eqb (comp i x) (comp i r) h)

  pub par_root : (i r : ℕ) → par i r r ≡ r
  unfolding parent_in
  par_root zero r = refl
  par_root (suc i) r = par_same i r r refl ∙ par_root i r

  pub dep_root : (i r : ℕ) → dep i r r ≡ 0
  unfolding depth_in
  dep_root zero r = refl
  dep_root (suc i) r = dep_same i r r refl ∙ dep_root i r

  -- What edge i, seen from the side p of r, adds: the side q hangs below p.
  record Side (i r p q : ℕ) : Type 0 where
    near : comp i r ≡ comp i p
    far : comp i q ≢ comp i p
    joins : Joins a b i q p
    top : par (suc i) r q ≡ p
    rest : (z : ℕ) → comp i z ≡ comp i q → z ≢ q → par (suc i) r z ≡ par i q z
    deep : (z : ℕ) → comp i z ≡ comp i q → dep (suc i) r z ≡ suc (dep i r p + dep i q z)

  side_a : (i r : ℕ) → Fresh a b i → comp i r ≡ comp i (a i) → Side i r (a i) (b i)
  unfolding parent_in depth_in
  side_a i r f h =
      let off : (z : ℕ) → comp i z ≡ comp i (b i) → comp i z ≢ comp i r = λ z e q. f (sym h ∙ sym q ∙ e) in
      record {
        near = h;
        far = λ e. f (sym e);
        joins = inr (refl, refl);
        top = rw (ne_eqb (comp i (b i)) (comp i r) (off (b i) refl), eq-eqb (comp i (b i)) (comp i (b i)) refl, eq-eqb (b i) (b i) refl);
        rest = λ z e ne. rw (ne_eqb (comp i z) (comp i r) (off z e), eq-eqb (comp i z) (comp i (b i)) e, ne_eqb z (b i) ne);
        deep = λ z e. rw (ne_eqb (comp i z) (comp i r) (off z e), eq-eqb (comp i z) (comp i (b i)) e);
      }

  side_b : (i r : ℕ) → Fresh a b i → comp i r ≡ comp i (b i) → Side i r (b i) (a i)
  unfolding parent_in depth_in
  side_b i r f h =
      let off : (z : ℕ) → comp i z ≡ comp i (a i) → comp i z ≢ comp i r = λ z e q. f (sym e ∙ q ∙ h) in
      let out : (z : ℕ) → comp i z ≡ comp i (a i) → comp i z ≢ comp i (b i) = λ z e q. f (sym e ∙ q) in
      record {
        near = h;
        far = f;
        joins = inl (refl, refl);
        top = rw (ne_eqb (comp i (a i)) (comp i r) (off (a i) refl), ne_eqb (comp i (a i)) (comp i (b i)) f, eq-eqb (a i) (a i) refl);
        rest = λ z e ne. rw (ne_eqb (comp i z) (comp i r) (off z e), ne_eqb (comp i z) (comp i (b i)) (out z e), ne_eqb z (a i) ne);
        deep = λ z e. rw (ne_eqb (comp i z) (comp i r) (off z e), ne_eqb (comp i z) (comp i (b i)) (out z e));
      }

  -- One of the first i edges joins x and y.
  abbrev pub Adj : ℕ → ℕ → ℕ → Type 0
  Adj i x y = (j : ℕ) × (j < i) × Joins a b j x y

  adj_more : (i x y : ℕ) → Adj i x y → Adj (suc i) x y
  adj_more i x y h = (h.0, omega (arith, h.1), h.2)

  -- x hangs below its parent in the tree of r.
  pub record Up (i r x : ℕ) : Type 0 where
    pub home : comp i (par i r x) ≡ comp i r
    pub deeper : dep i r x ≡ suc (dep i r (par i r x))
    pub edge : Adj i x (par i r x)

  up_same : (i r x : ℕ) → comp i x ≡ comp i r → Up i r x → Up (suc i) r x
  up_same i r x h u =
      record {
        home = rw (par_same i r x h) (component_keep a b i (par i r x) r u.home);
        deeper = rw (par_same i r x h, dep_same i r x h, dep_same i r (par i r x) u.home) u.deeper;
        edge = rw (par_same i r x h) (adj_more i x (par i r x) u.edge);
      }

  side_comp : (i r p q : ℕ) → Side i r p q → comp (suc i) q ≡ comp (suc i) r
  side_comp i r p q s = component_joins a b i (suc i) q p (omega arith) s.joins ∙ sym (component_keep a b i r p s.near)

  up_top : (i r p q : ℕ) → Side i r p q → Up (suc i) r q
  up_top i r p q s =
      record {
        home = rw s.top (sym (component_keep a b i r p s.near));
        deeper = rw (s.top, s.deep q refl, dep_same i r p (sym s.near), dep_root i q) (omega arith);
        edge = rw s.top (i, omega arith, s.joins);
      }

  up_rest : (i r p q x : ℕ) → Side i r p q → comp i x ≡ comp i q → x ≢ q → Up i q x → Up (suc i) r x
  up_rest i r p q x s e ne u =
      record {
        home = rw (s.rest x e ne) (component_keep a b i (par i q x) q u.home ∙ side_comp i r p q s);
        deeper = rw (s.rest x e ne, s.deep x e, s.deep (par i q x) u.home, u.deeper) (omega arith);
        edge = rw (s.rest x e ne) (adj_more i x (par i q x) u.edge);
      }

  up_side : (i r p q x : ℕ) → Side i r p q → comp i x ≡ comp i q → (x ≢ q → Up i q x) → Up (suc i) r x
  up_side i r p q x s e u = step (ℕ_discrete x q)
    where
      step : Dec (x ≡ q) → Up (suc i) r x
      step (yes d) = subst (λ z. Up (suc i) r z) (sym d) (up_top i r p q s)
      step (no d) = up_rest i r p q x s e d (u d)

  pub up : (i r x : ℕ) → AllFresh a b i → comp i x ≡ comp i r → x ≢ r → Up i r x
  unfolding component
  up zero r x f e ne = absurd (ne e)
  up (suc i) r x f e ne = step (came a b i x r e) (λ r x. up i r x (λ j l. f j (omega arith))) (f i (omega arith))
    where
      step : Came a b i x r → ((r x : ℕ) → comp i x ≡ comp i r → x ≢ r → Up i r x) → Fresh a b i → Up (suc i) r x
      step (same h) rec g = up_same i r x h (rec r x h ne)
      step (over h k) rec g = up_side i r (b i) (a i) x (side_b i r g k) h (rec (a i) x h)
      step (back h k) rec g = up_side i r (a i) (b i) x (side_a i r g k) h (rec (b i) x h)

  -- Of two joined vertices one is the other's parent, and not the root.
  abbrev pub Below : ℕ → ℕ → ℕ → ℕ → Type 0
  Below i r x y = ((par i r x ≡ y) × (x ≢ r)) ⊎ ((par i r y ≡ x) × (y ≢ r))

  below_same : (i r x y : ℕ) → comp i x ≡ comp i r → comp i y ≡ comp i r → Below i r x y → Below (suc i) r x y
  below_same i r x y h k (inl m) = inl (par_same i r x h ∙ m.0, m.1)
  below_same i r x y h k (inr m) = inr (par_same i r y k ∙ m.0, m.1)

  -- What is on the far side is not the root.
  side_off : (i r p q x : ℕ) → Side i r p q → comp i x ≡ comp i q → x ≢ r
  side_off i r p q x s e d = s.far (sym e ∙ ap (comp i) d ∙ s.near)

  below_side : (i r p q x y : ℕ) → Side i r p q → comp i x ≡ comp i q → comp i y ≡ comp i q → Below i q x y → Below (suc i) r x y
  below_side i r p q x y s h k (inl m) = inl (s.rest x h m.1 ∙ m.0, side_off i r p q x s h)
  below_side i r p q x y s h k (inr m) = inr (s.rest y k m.1 ∙ m.0, side_off i r p q y s k)

  -- The last edge itself.
  below_edge : (i r p q x y : ℕ) → Side i r p q → Joins a b i x y → Below (suc i) r x y
  below_edge i r p q x y s h = step h s.joins
    where
      down : x ≡ q → y ≡ p → Below (suc i) r x y
      down e f = inl (ap (par (suc i) r) e ∙ s.top ∙ sym f, side_off i r p q x s (ap (comp i) e))

      upward : x ≡ p → y ≡ q → Below (suc i) r x y
      upward e f = inr (ap (par (suc i) r) f ∙ s.top ∙ sym e, side_off i r p q y s (ap (comp i) f))

      step : Joins a b i x y → Joins a b i q p → Below (suc i) r x y
      step (inl m) (inl k) = down (sym m.0 ∙ k.0) (sym m.1 ∙ k.1)
      step (inl m) (inr k) = upward (sym m.0 ∙ k.0) (sym m.1 ∙ k.1)
      step (inr m) (inl k) = upward (sym m.1 ∙ k.1) (sym m.0 ∙ k.0)
      step (inr m) (inr k) = down (sym m.1 ∙ k.1) (sym m.0 ∙ k.0)

  below_last : (i r x y : ℕ) → Fresh a b i → Came a b i x r → Joins a b i x y → Below (suc i) r x y
  below_last i r x y f (same h) (inl m) = below_edge i r (a i) (b i) x y (side_a i r f (sym h ∙ ap (comp i) (sym m.0))) (inl m)
  below_last i r x y f (same h) (inr m) = below_edge i r (b i) (a i) x y (side_b i r f (sym h ∙ ap (comp i) (sym m.1))) (inr m)
  below_last i r x y f (over h k) m = below_edge i r (b i) (a i) x y (side_b i r f k) m
  below_last i r x y f (back h k) m = below_edge i r (a i) (b i) x y (side_a i r f k) m

  below_early : (i r x y : ℕ) → Fresh a b i → Came a b i x r → comp i x ≡ comp i y → ((q : ℕ) → comp i x ≡ comp i q → Below i q x y) → Below (suc i) r x y
  below_early i r x y f (same h) e rec = below_same i r x y h (sym e ∙ h) (rec r h)
  below_early i r x y f (over h k) e rec = below_side i r (b i) (a i) x y (side_b i r f k) h (sym e ∙ h) (rec (a i) h)
  below_early i r x y f (back h k) e rec = below_side i r (a i) (b i) x y (side_a i r f k) h (sym e ∙ h) (rec (b i) h)

  pub below : (i r x y : ℕ) → AllFresh a b i → comp i x ≡ comp i r → Adj i x y → Below i r x y
  below zero r x y f e h = absurd (omega (arith, h.1))
  below (suc i) r x y f e h = step (ℕ_discrete h.0 i) (λ q d m. below i q x y (λ j l. f j (omega arith)) d m)
    where
      step : Dec (h.0 ≡ i) → ((q : ℕ) → comp i x ≡ comp i q → Adj i x y → Below i q x y) → Below (suc i) r x y
      step (yes d) rec = below_last i r x y (f i (omega arith)) (came a b i x r e) (subst (λ k. Joins a b k x y) d h.2)
      step (no d) rec =
          let l : h.0 < i = omega (arith, h.1) in
          below_early i r x y (f i (omega arith)) (came a b i x r e) (component_joins a b h.0 i x y l h.2) (λ q c. rec q c (h.0, l, h.2))

-- k steps up from x
unfoldable pub climb : (ℕ → ℕ) → ℕ → ℕ → ℕ
climb parent zero x = x
climb parent (suc k) x = climb parent k (parent x)

-- The tree of n vertices whose n - 1 edges are low and fresh, rooted at r: the root is its own parent, every other vertex has its parent
-- one step nearer to the root and is joined to it; no other vertices are joined; as many steps up as the depth lead to the root.
pub record Rooted (a b : ℕ → ℕ) (n r : ℕ) (parent depth : ℕ → ℕ) : Type 0 where
  pub top : parent r ≡ r
  pub root : depth r ≡ 0
  pub low : (x : ℕ) → x < n → x ≢ r → parent x < n
  pub deeper : (x : ℕ) → x < n → x ≢ r → depth x ≡ suc (depth (parent x))
  pub up_edge : (x : ℕ) → x < n → x ≢ r → Adj a b (n - 1) x (parent x)
  pub only : (x y : ℕ) → x < n → Adj a b (n - 1) x y → ((parent x ≡ y) × (x ≢ r)) ⊎ ((parent y ≡ x) × (y ≢ r))
  pub reached : (x : ℕ) → x < n → climb parent (depth x) x ≡ r

adj_low : (a b : ℕ → ℕ) (n i x y : ℕ) → Low a b n i → Adj a b i x y → y < n
adj_low a b n i x y h (j, l, inl m) = rw (← m.1) (h j l).1
adj_low a b n i x y h (j, l, inr m) = rw (← m.0) (h j l).0

climbs : (n r : ℕ) (parent depth : ℕ → ℕ) → ((x : ℕ) → x < n → x ≢ r → parent x < n) → ((x : ℕ) → x < n → x ≢ r → depth x ≡ suc (depth (parent x))) → depth r ≡ 0
    → (k x : ℕ) → x < n → depth x ≡ k → climb parent k x ≡ r
unfolding climb
climbs n r parent depth low deeper root zero x l e = pick (ℕ_discrete x r)
  where
    pick : Dec (x ≡ r) → x ≡ r
    pick (yes q) = q
    pick (no q) = let d = deeper x l q in absurd (omega arith)
climbs n r parent depth low deeper root (suc k) x l e = pick (ℕ_discrete x r) (climbs n r parent depth low deeper root k (parent x))
  where
    pick : Dec (x ≡ r) → (parent x < n → depth (parent x) ≡ k → climb parent k (parent x) ≡ r) → climb parent k (parent x) ≡ r
    pick (yes q) h = let d : depth x ≡ depth r = ap depth q in absurd (omega arith)
    pick (no q) h = let d = deeper x l q in h (low x l q) (omega arith)

pub rooted : (a b : ℕ → ℕ) (n r : ℕ) → r < n → Low a b n (n - 1) → AllFresh a b (n - 1) → Rooted a b n r (parent_in a b (n - 1) r) (depth_in a b (n - 1) r)
rooted a b n r lr h f =
    let one : (x : ℕ) → x < n → component a b (n - 1) x ≡ component a b (n - 1) r = λ x l. all_one a b n (n - 1) x r (omega arith) h f l lr in
    let low : (x : ℕ) → x < n → x ≢ r → parent_in a b (n - 1) r x < n = λ x l ne. adj_low a b n (n - 1) x (parent_in a b (n - 1) r x) h (up a b (n - 1) r x f (one x l) ne).edge in
    let deeper : (x : ℕ) → x < n → x ≢ r → depth_in a b (n - 1) r x ≡ suc (depth_in a b (n - 1) r (parent_in a b (n - 1) r x)) = λ x l ne. (up a b (n - 1) r x f (one x l) ne).deeper in
    record {
      top = par_root a b (n - 1) r;
      root = dep_root a b (n - 1) r;
      low = low;
      deeper = deeper;
      up_edge = λ x l ne. (up a b (n - 1) r x f (one x l) ne).edge;
      only = λ x y l m. below a b (n - 1) r x y f (one x l) m;
      reached = λ x l. climbs n r (parent_in a b (n - 1) r) (depth_in a b (n - 1) r) low deeper (dep_root a b (n - 1) r) (depth_in a b (n - 1) r x) x l refl;
    }
