-- Connected sets of a rooted tree: one top, and back. Partners that are joined belong to vertices that are. Assumes nothing.
use Rattle.std.specs.Prelude.{◌≡◌, ◌⊎◌, ◌≢◌, Bool, ◌&&◌, ℕ, zero, suc, ◌≤◌, ◌<◌, eqb}
use Rattle.std.proofs.Math.Path.{refl, sym, subst}
use Rattle.std.proofs.Common.{ap, ◌∙◌, inl, inr, arith, not-suc-le-zero}
use Rattle.std.proofs.Math.Logic.{⊎_elim}
use Rattle.std.proofs.Math.Bool.{true, false, not}
use Rattle.std.proofs.Math.Dec.{T}
use borrow.Author.Tests.{ne_eqb}
use Rattle.foundations.specs.Tests.{same, T→true, true→T, not_T→false}
use Rattle.subtrees.specs.Rooted.{inner, top}

-- ---- ways over any steps

pub data Way (S : ℕ → ℕ → Type 0) (u : ℕ) : ℕ → Type 0 where
  stop : Way S u u
  onward : {x y : ℕ} → Way S u x → S x y → Way S u y

-- what holds at the start and is kept by each step holds at the end
pub way_keeps : {S : ℕ → ℕ → Type 0} {u z : ℕ} (Q : ℕ → Type 0) → Way S u z → ((x y : ℕ) → S x y → Q x → Q y) → Q u → Q z
way_keeps Q stop k q = q
way_keeps Q (onward {x = x} {y = y} p s) k q = k x y s (way_keeps Q p k q)

pub way_join : {S : ℕ → ℕ → Type 0} {u x y : ℕ} → Way S u x → Way S x y → Way S u y
way_join {S} {u} p q = way_keeps (Way S u) q (λ x y s r. onward r s) p

pub way_back : {S : ℕ → ℕ → Type 0} {u x : ℕ} → ((x y : ℕ) → S x y → S y x) → Way S u x → Way S x u
way_back {S} {u} h p = way_keeps (λ z. Way S z u) p (λ x y s r. way_join (onward stop (h x y s)) r) stop

-- ---- inside a set

module _ (parent : ℕ → ℕ) (on : ℕ → Bool) where
  pub inner_of : (c : ℕ) → T (on c) → c ≢ 0 → T (on (parent c)) → T (inner parent on c)
  unfolding inner
  inner_of c a z b = rw (T→true (on c) a, ne_eqb c 0 z) b

  pub of_inner : (c : ℕ) → T (inner parent on c) → T (on c) × (c ≢ 0) × T (on (parent c))
  unfolding inner
  of_inner c t = go (on c) (on (parent c)) refl t
    where
      go : (a b : Bool) → on c ≡ a → T (a && (not (eqb c 0) && b)) → T a × (c ≢ 0) × T b
      go true b e t = ⊎_elim (λ q. absurd (rw q.1 at t)) (λ q. (tt, q.0, rw q.1 at t)) (same c 0)
      go false b e t = absurd t

  pub root_not_inner : inner parent on 0 ≡ false
  root_not_inner = not_T→false (inner parent on 0) (λ t. (of_inner 0 t).1 refl)

  pub of_top : (c : ℕ) → T (top parent on c) → T (on c) × ¬ (T (inner parent on c))
  unfolding inner top
  of_top c t = go (on c) (not (eqb c 0) && on (parent c)) t
    where
      go : (a b : Bool) → T (a && not b) → T a × ¬ (T (a && b))
      go true true t = absurd t
      go true false t = (tt, λ x. x)
      go false b t = absurd t

  pub top_of : (c : ℕ) → T (on c) → ¬ (T (inner parent on c)) → T (top parent on c)
  unfolding inner top
  top_of c t = go (on c) (not (eqb c 0) && on (parent c)) t
    where
      go : (a b : Bool) → T a → ¬ (T (a && b)) → T (a && not b)
      go true true t h = h tt
      go true false t h = tt
      go false b t h = absurd t

-- two vertices joined by an edge of the rooted tree
unfoldable pub Joined : (ℕ → ℕ) → ℕ → ℕ → Type 0
Joined parent x y = ((y ≢ 0) × (parent y ≡ x)) ⊎ ((x ≢ 0) × (parent x ≡ y))

pub child_edge : (parent : ℕ → ℕ) (x : ℕ) → x ≢ 0 → Joined parent (parent x) x
unfolding Joined
child_edge parent x z = inl (z, refl)

pub joined_back : (parent : ℕ → ℕ) (x y : ℕ) → Joined parent x y → Joined parent y x
unfolding Joined
joined_back parent x y j = ⊎_elim inr inl j

-- a step inside the set
pub record Step (n : ℕ) (parent : ℕ → ℕ) (on : ℕ → Bool) (x y : ℕ) : Type 0 where
  pub from : (x < n) × T (on x)
  pub to : (y < n) × T (on y)
  pub edge : Joined parent x y

pub step_back : (n : ℕ) (parent : ℕ → ℕ) (on : ℕ → Bool) (x y : ℕ) → Step n parent on x y → Step n parent on y x
unfolding Joined
step_back n parent on x y s = record { from = s.to; to = s.from; edge = ⊎_elim inr inl s.edge }

unfoldable pub ConnectedSet : (n : ℕ) (parent : ℕ → ℕ) (on : ℕ → Bool) → Type 0
ConnectedSet n parent on = (x y : ℕ) → x < n → T (on x) → y < n → T (on y) → Way (Step n parent on) x y

unfoldable pub OneTop : (n : ℕ) (parent : ℕ → ℕ) (on : ℕ → Bool) → Type 0
OneTop n parent on = (x y : ℕ) → x < n → y < n → T (top parent on x) → T (top parent on y) → x ≡ y

-- t is reached from x by climbing while the test holds
pub data Climb (parent : ℕ → ℕ) (may : ℕ → Type 0) (t : ℕ) : ℕ → Type 0 where
  here : Climb parent may t t
  above : {x : ℕ} → may x → Climb parent may t (parent x) → Climb parent may t x

-- x lies under c in a tree of n vertices rooted at 0
abbrev pub Under : ℕ → (ℕ → ℕ) → ℕ → ℕ → Type 0
Under n parent c x = Climb parent (λ z. (z < n) × (z ≢ 0)) c x

pub climb_cases : {parent : ℕ → ℕ} {may : ℕ → Type 0} {t x : ℕ} → Climb parent may t x → (x ≡ t) ⊎ (may x × Climb parent may t (parent x))
climb_cases here = inl refl
climb_cases (above i p) = inr (i, p)

module _ (n : ℕ) (parent : ℕ → ℕ) (on : ℕ → Bool) where
  Up : ℕ → ℕ → Type 0
  Up t x = Climb parent (λ z. T (inner parent on z)) t x

  up_kept : (t : ℕ) → T (top parent on t) → (x y : ℕ) → Step n parent on x y → Up t x → Up t y
  unfolding Up Joined
  up_kept t h x y s p = ⊎_elim
      (λ j. above (inner_of parent on y s.to.1 j.0 (rw j.1 s.from.1)) (rw j.1 p))
      (λ j. ⊎_elim
      (λ e. absurd ((of_top parent on t h).1 (subst (λ (z : ℕ). T (inner parent on z)) e (inner_of parent on x s.from.1 j.0 (rw j.1 s.to.1)))))
      (λ q. subst (λ (z : ℕ). Climb parent (λ z. T (inner parent on z)) t z) j.1 q.1)
      (climb_cases p))
      s.edge

  pub connected_top : ConnectedSet n parent on → OneTop n parent on
  unfolding ConnectedSet OneTop Up
  connected_top c x y h k t s = ⊎_elim
      (λ e. sym e)
      (λ q. absurd ((of_top parent on y s).1 q.0))
      (climb_cases (way_keeps (Up x) (c x y h (of_top parent on x t).0 k (of_top parent on y s).0) (up_kept x t) here))

  -- back: each vertex of the set climbs to a top
  module _ (depth : ℕ → ℕ) (up : (c : ℕ) → c < n → c ≢ 0 → (parent c < n) × (depth (parent c) < depth c)) where
    pub to_top : (k x : ℕ) → depth x < k → x < n → T (on x) → (t : ℕ) × (t < n) × T (top parent on t) × Way (Step n parent on) t x
    to_top zero x h l o = absurd (not-suc-le-zero h)
    to_top (suc k) x h l o = go (inner parent on x) refl (λ i. let r = up x l i.1 in to_top k (parent x) (omega arith) r.0 i.2)
      where
        go : (b : Bool) → inner parent on x ≡ b → (T (on x) × (x ≢ 0) × T (on (parent x)) → (t : ℕ) × (t < n) × T (top parent on t) × Way (Step n parent on) t (parent x)) →
            (t : ℕ) × (t < n) × T (top parent on t) × Way (Step n parent on) t x
        go true e ih =
            let i = of_inner parent on x (true→T e) in let q = ih i in
            (q.0, q.1, q.2, onward q.3 (record { from = ((up x l i.1).0, i.2); to = (l, o); edge = child_edge parent x i.1 }))
        go false e ih = (x, l, top_of parent on x o (λ t. subst T e t), stop)

    pub top_connected : OneTop n parent on → ConnectedSet n parent on
    unfolding OneTop ConnectedSet
    top_connected u x y l o l' o' =
        let p = to_top (suc (depth x)) x (omega arith) l o in
        let q = to_top (suc (depth y)) y (omega arith) l' o' in
        let e = u p.0 q.0 p.1 q.1 p.2 q.2 in
        way_join (way_back (step_back n parent on) p.3) (rw (← e) at q.3)

-- induction along a set with one top, from it
pub set_ind : (n : ℕ) (parent depth : ℕ → ℕ) → ((c : ℕ) → c < n → c ≢ 0 → (parent c < n) × (depth (parent c) < depth c)) → (on : ℕ → Bool) (t : ℕ) →
    ((x : ℕ) → x < n → T (on x) → (x ≡ t) ⊎ T (inner parent on x)) →
    (Q : ℕ → Type 0) → Q t → ((c : ℕ) → c < n → T (inner parent on c) → Q (parent c) → Q c) → (x : ℕ) → x < n → T (on x) → Q x
set_ind n parent depth up on t only Q q s x l o = go (suc (depth x)) x (omega arith) l o
  where
    go : (k x : ℕ) → depth x < k → x < n → T (on x) → Q x
    go zero x h l o = absurd (not-suc-le-zero h)
    go (suc k) x h l o = ⊎_elim
        (λ e. subst Q (sym e) q)
        (λ i. let j = of_inner parent on x i in let r = up x l j.1 in s x l i (go k (parent x) (omega arith) r.0 j.2))
        (only x l o)

-- ---- joined partners belong to joined vertices

pub under_deep : (n : ℕ) (parent depth : ℕ → ℕ) → ((v : ℕ) → v < n → v ≢ 0 → depth (parent v) < depth v) → {c x : ℕ} → Under n parent c x → depth c ≤ depth x
under_deep n parent depth falls here = omega arith
under_deep n parent depth falls (above {x = x} z p) = omega (arith, under_deep n parent depth falls p, falls x z.0 z.1)

-- f takes vertices of the set to vertices of a rooted tree (fpar, fdep), apart, and each step of the set to an edge there.
module _ (S : ℕ → ℕ → Type 0) (f : ℕ → ℕ) (m : ℕ) (fpar fdep : ℕ → ℕ)
    (falls : (v : ℕ) → v < m → v ≢ 0 → fdep (fpar v) < fdep v)
    (steps : (x y : ℕ) → S x y → (f x < m) × (f y < m) × Joined fpar (f x) (f y)) where
  -- a way from x' to x, where f x is the parent of f x', has a step from a vertex with f x' to one with f x
  pub crosses : (x' x : ℕ) → f x' < m → f x' ≢ 0 → fpar (f x') ≡ f x → Way S x' x → (y : ℕ) × (y' : ℕ) × (f y ≡ f x') × (f y' ≡ f x) × S y y'
  unfolding Joined
  crosses x' x l z e w = ⊎_elim
      (λ p. absurd (off (under_deep m fpar fdep falls p) (falls (f x') l z)))
      (λ r. r)
      (way_keeps (λ y. Under m fpar (f x') (f y) ⊎ Crossing) w kept (inl here))
    where
      Crossing : Type 0
      Crossing = (y : ℕ) × (y' : ℕ) × (f y ≡ f x') × (f y' ≡ f x) × S y y'

      off : fdep (f x') ≤ fdep (f x) → fdep (fpar (f x')) < fdep (f x') → ⊥
      off a b = omega (arith, ap fdep e)

      kept : (y y' : ℕ) → S y y' → Under m fpar (f x') (f y) ⊎ Crossing → Under m fpar (f x') (f y') ⊎ Crossing
      kept y y' s (inr r) = inr r
      kept y y' s (inl p) = ⊎_elim
          (λ j. inl (above ((steps y y' s).1, j.0) (subst (λ (z : ℕ). Under m fpar (f x') z) (sym j.1) p)))
          (λ j. ⊎_elim
          (λ q. inr (y, y', q, sym j.1 ∙ ap fpar q ∙ e, s))
          (λ q. inl (subst (λ (z : ℕ). Under m fpar (f x') z) j.1 q.1))
          (climb_cases p))
          (steps y y' s).2
