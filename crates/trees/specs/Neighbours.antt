-- Neighbours: the test and the statement that an edge joins two vertices; a vertex has as many neighbours as edges, so an accepted tree
-- has every neighbour in its eight places; the edge between two neighbours. Assumes nothing.
use Rattle.std.specs.Prelude.{◌≡◌, refl, ◌⊎◌, ◌≢◌, ℕ, zero, suc, ◌+◌, ◌-◌, ◌≤◌, ◌<◌, Bool, true, false, ◌&&◌, ◌||◌, cond, get_or, replicate, T, eqb}
use Rattle.std.proofs.Common.{sym, ap, ◌∙◌, subst, inl, inr, true≢false, add-zero, get_or-append-add}
use mathlib.Core.List.{List, [], ◌++◌}
use native.Mathlib.Omega.{arith}
use Rattle.std.proofs.Math.Decide.{ℕ_discrete, dec_lt}
use Rattle.std.proofs.Math.ListN.{length, get_or-append}
use Rattle.std.proofs.lemmas.List.{get_or-replicate}
use Rattle.std.proofs.Math.Dec.{leb}
use borrow.Author.Tests.{eqb-true, eq-eqb, ne_eqb, leb-true}
use Rattle.foundations.specs.Tests.{and_split, or_split, or_true, or_false, is_false}
use Rattle.foundations.specs.Counting.{cnt, cnt_drop, cnt_ext, cnt_none}
use Rattle.foundations.specs.Lists.{length_below, every_at, get_d_tab, places_fit}
use Rattle.foundations.specs.Members.{mem, Distinct, mem_below, below_mem, distinct_below}
use Rattle.model.specs.Limits.{vertex_limit, degree_limit, no_vertex}
use Rattle.model.specs.Edges.{Joins, component}
use Rattle.model.specs.Tree.{count, end_a, end_b, degree, acyclic, few_edges}
use Rattle.model.specs.Graph.{edges, joins, joined_by, joined, neighbours, edge_before, edge_of, in_places, neighbour_table}
use Rattle.trees.specs.Components.{Fresh, AllFresh, Low, component_joins}
use Rattle.trees.specs.Rooting.{Adj}
use Rattle.trees.specs.Accepted.{Ends, Passed, acyclic_fresh}

-- The test and the statement that a edge joins two vertices.
pub joins_says : (a b v w : ℕ) → joins a b v w ≡ true → ((a ≡ v) × (b ≡ w)) ⊎ ((a ≡ w) × (b ≡ v))
unfolding joins
joins_says a b v w h = step (or_split (eqb a v && eqb b w) (eqb b v && eqb a w) h)
  where
    step : ((eqb a v && eqb b w) ≡ true) ⊎ ((eqb b v && eqb a w) ≡ true) → ((a ≡ v) × (b ≡ w)) ⊎ ((a ≡ w) × (b ≡ v))
    step (inl e) = let s = and_split (eqb a v) (eqb b w) e in inl (eqb-true a v s.0, eqb-true b w s.1)
    step (inr e) = let s = and_split (eqb b v) (eqb a w) e in inr (eqb-true a w s.1, eqb-true b v s.0)

pub says_joins : (a b v w : ℕ) → ((a ≡ v) × (b ≡ w)) ⊎ ((a ≡ w) × (b ≡ v)) → joins a b v w ≡ true
unfolding joins
says_joins a b v w (inl h) = rw (eq-eqb a v h.0, eq-eqb b w h.1)
says_joins a b v w (inr h) = rw (eq-eqb b v h.1, eq-eqb a w h.0) (or_true (eqb a v && eqb b w))

pub joined_says : (s : List ℕ) (n v w k : ℕ) → joined_by s n v w k ≡ true → Adj (end_a s n) (end_b s n) k v w
unfolding joined_by
joined_says s n v w zero h = absurd (true≢false (sym h))
joined_says s n v w (suc k) h = step (or_split (joined_by s n v w k) (joins (end_a s n k) (end_b s n k) v w) h) (joined_says s n v w k)
  where
    step : (joined_by s n v w k ≡ true) ⊎ (joins (end_a s n k) (end_b s n k) v w ≡ true) → (joined_by s n v w k ≡ true → Adj (end_a s n) (end_b s n) k v w) → Adj (end_a s n) (end_b s n) (suc k) v w
    step (inl e) r = let q = r e in (q.0, omega (arith, q.1), q.2)
    step (inr e) r = (k, omega arith, joins_says (end_a s n k) (end_b s n k) v w e)

pub says_joined : (s : List ℕ) (n v w k : ℕ) → Adj (end_a s n) (end_b s n) k v w → joined_by s n v w k ≡ true
unfolding joined_by
says_joined s n v w zero h = absurd (omega (arith, h.1))
says_joined s n v w (suc k) h = step (ℕ_discrete h.0 k) (says_joined s n v w k)
  where
    step : Dec (h.0 ≡ k) → (Adj (end_a s n) (end_b s n) k v w → joined_by s n v w k ≡ true) → (joined_by s n v w k || joins (end_a s n k) (end_b s n k) v w) ≡ true
    step (yes e) r = rw (says_joins (end_a s n k) (end_b s n k) v w (subst (λ j. Joins (end_a s n) (end_b s n) j v w) e h.2)) (or_true (joined_by s n v w k))
    step (no e) r = rw (r (h.0, omega (arith, h.1), h.2))

-- One edge more at v: the other end is a new neighbour.
module _ (s : List ℕ) (n v k : ℕ) (low : Low (end_a s n) (end_b s n) n (suc k)) (fresh : AllFresh (end_a s n) (end_b s n) (suc k)) where
  -- w is the end of edge k that is not v.
  grow : (w : ℕ) → w < n → Joins (end_a s n) (end_b s n) k v w → ((x : ℕ) → Joins (end_a s n) (end_b s n) k v x → x ≡ w) → cnt (λ x. joined_by s n v x (suc k)) n ≡ cnt (λ x. joined_by s n v x k) n + 1
  unfolding joined_by
  grow w l h one =
      cnt_drop (λ x. joined_by s n v x (suc k)) (λ x. joined_by s n v x k) w n l
      (rw (says_joins (end_a s n k) (end_b s n k) v w h) (or_true (joined_by s n v w k)))
      (is_false (joined_by s n v w k) (λ e. old h (joined_says s n v w k e)))
      (λ x b ne. rw (is_false (joins (end_a s n k) (end_b s n k) v x) (λ e. ne (one x (joins_says (end_a s n k) (end_b s n k) v x e)))) (or_false (joined_by s n v x k)))
    where
      f : Fresh (end_a s n) (end_b s n) k
      f = fresh k (omega arith)

      old : Joins (end_a s n) (end_b s n) k v w → Adj (end_a s n) (end_b s n) k v w → ⊥
      old (inl m) q = f (ap (component (end_a s n) (end_b s n) k) m.0 ∙ component_joins (end_a s n) (end_b s n) q.0 k v w q.1 q.2 ∙ sym (ap (component (end_a s n) (end_b s n) k) m.1))
      old (inr m) q = f (ap (component (end_a s n) (end_b s n) k) m.0 ∙ sym (component_joins (end_a s n) (end_b s n) q.0 k v w q.1 q.2) ∙ sym (ap (component (end_a s n) (end_b s n) k) m.1))

  step_degree : cnt (λ x. joined_by s n v x (suc k)) n ≡ cnt (λ x. joined_by s n v x k) n + cond (eqb (end_a s n k) v || eqb (end_b s n k) v) 1 0
  step_degree = pick (ℕ_discrete (end_a s n k) v) (ℕ_discrete (end_b s n k) v)
    where
      f : end_a s n k ≢ end_b s n k
      f e = fresh k (omega arith) (ap (component (end_a s n) (end_b s n) k) e)

      pick : Dec (end_a s n k ≡ v) → Dec (end_b s n k ≡ v) → cnt (λ x. joined_by s n v x (suc k)) n ≡ cnt (λ x. joined_by s n v x k) n + cond (eqb (end_a s n k) v || eqb (end_b s n k) v) 1 0
      pick (yes e) d = rw (eq-eqb (end_a s n k) v e) (grow (end_b s n k) (low k (omega arith)).1 (inl (e, refl)) only)
        where
          only : (x : ℕ) → Joins (end_a s n) (end_b s n) k v x → x ≡ end_b s n k
          only x (inl m) = sym m.1
          only x (inr m) = absurd (f (e ∙ sym m.1))
      pick (no e) (yes d) = rw (ne_eqb (end_a s n k) v e, eq-eqb (end_b s n k) v d) (grow (end_a s n k) (low k (omega arith)).0 (inr (refl, d)) only)
        where
          only : (x : ℕ) → Joins (end_a s n) (end_b s n) k v x → x ≡ end_a s n k
          only x (inl m) = absurd (e m.0)
          only x (inr m) = sym m.0
      pick (no e) (no d) = rw (ne_eqb (end_a s n k) v e, ne_eqb (end_b s n k) v d) (none ∙ sym (add-zero (cnt (λ x. joined_by s n v x k) n)))
        where
          none : cnt (λ x. joined_by s n v x (suc k)) n ≡ cnt (λ x. joined_by s n v x k) n
          none = cnt_ext (λ x. joined_by s n v x (suc k)) (λ x. joined_by s n v x k) n (λ x l. still x)
            where
              still : (x : ℕ) → joined_by s n v x (suc k) ≡ joined_by s n v x k
              still x = unfold joined_by in rw (is_false (joins (end_a s n k) (end_b s n k) v x) (λ q. out (joins_says (end_a s n k) (end_b s n k) v x q))) (or_false (joined_by s n v x k))
                where
                  out : Joins (end_a s n) (end_b s n) k v x → ⊥
                  out (inl m) = e m.0
                  out (inr m) = d m.1

pub degree_count : (s : List ℕ) (n v k : ℕ) → Low (end_a s n) (end_b s n) n k → AllFresh (end_a s n) (end_b s n) k → cnt (λ x. joined_by s n v x k) n ≡ degree s n v k
unfolding degree joined_by
degree_count s n v zero low fresh = cnt_none (λ x. joined_by s n v x 0) n (λ x l. refl)
degree_count s n v (suc k) low fresh = step_degree s n v k low fresh ∙ rw (degree_count s n v k (λ j l. low j (omega arith)) (λ j l. fresh j (omega arith)))

-- ---- in an accepted tree

-- x and y are joined by an edge
abbrev pub Adjacent : List ℕ → ℕ → ℕ → Type 0
Adjacent s x y = Adj (end_a s (count s)) (end_b s (count s)) (edges s) x y

pub adjacent_back : (s : List ℕ) (x y : ℕ) → Adjacent s x y → Adjacent s y x
adjacent_back s x y (j, l, inl m) = (j, l, inr m)
adjacent_back s x y (j, l, inr m) = (j, l, inl m)

pub adjacent_low : (s : List ℕ) → Ends s (count s) → (x y : ℕ) → Adjacent s x y → (x < count s) × (y < count s)
adjacent_low s e x y (j, l, inl m) = (rw (← m.0) (e.low j l).0, rw (← m.1) (e.low j l).1)
adjacent_low s e x y (j, l, inr m) = (rw (← m.1) (e.low j l).1, rw (← m.0) (e.low j l).0)

-- the neighbours are exactly the vertices that an edge joins, each once
pub mem_adjacent : (s : List ℕ) (v x : ℕ) → T (mem x (neighbours s v)) → (x < count s) × Adjacent s v x
unfolding neighbours
mem_adjacent s v x t = let q = mem_below (λ w. joined s v w) (count s) x t in (q.0, joined_says s (count s) v x (edges s) q.1)

pub adjacent_mem : (s : List ℕ) → Ends s (count s) → (v x : ℕ) → Adjacent s v x → T (mem x (neighbours s v))
unfolding neighbours
adjacent_mem s e v x a = below_mem (λ w. joined s v w) (count s) x (adjacent_low s e v x a).1 (says_joined s (count s) v x (edges s) a)

pub once_neighbours : (s : List ℕ) (v : ℕ) → Distinct (neighbours s v)
unfolding neighbours
once_neighbours s v = distinct_below (λ w. joined s v w) (count s)

-- as many as the edges that end there
pub degree_neighbours : (s : List ℕ) (v : ℕ) → Ends s (count s) → acyclic s (count s) ≡ true → length (neighbours s v) ≡ degree s (count s) v (edges s)
unfolding neighbours
degree_neighbours s v e t = length_below (λ w. joined s v w) (count s) ∙ degree_count s (count s) v (edges s) e.low (acyclic_fresh s (count s) t)

module _ (s : List ℕ) (K L : ℕ) (p : Passed s K L) where
  pub few_neighbours : (v : ℕ) → v < count s → length (neighbours s v) ≤ degree_limit
  unfolding few_edges
  few_neighbours v l =
      let d : degree s (count s) v (edges s) ≤ degree_limit = leb-true (degree s (count s) v (edges s)) degree_limit (every_at (λ x. leb (degree s (count s) x (edges s)) degree_limit) v (count s) p.degrees l) in
      let e : length (neighbours s v) ≡ degree s (count s) v (edges s) = degree_neighbours s v p.ends p.tree in
      omega arith

  -- the row of the table: every neighbour in its place, ascending, then 255
  pub neighbour_row : (v : ℕ) → v < count s → get_or (neighbour_table s) v [] ≡ neighbours s v ++ replicate (degree_limit - length (neighbours s v)) no_vertex
  unfolding neighbour_table
  neighbour_row v l =
      get_d_tab (λ x. in_places (neighbours s x)) vertex_limit v [] (let f : count s ≤ vertex_limit = p.ends.few in omega arith)
      ∙ places_fit degree_limit no_vertex (neighbours s v) (few_neighbours v l)

  -- place by place: a neighbour, then none
  pub neighbour_at : (v i : ℕ) → v < count s → i < length (neighbours s v) → get_or (get_or (neighbour_table s) v []) i 0 ≡ get_or (neighbours s v) i 0
  neighbour_at v i lv l = rw (neighbour_row v lv) (get_or-append (neighbours s v) (replicate (degree_limit - length (neighbours s v)) no_vertex) 0 i l)

  pub free_at : (v i : ℕ) → v < count s → length (neighbours s v) ≤ i → i < degree_limit → get_or (get_or (neighbour_table s) v []) i 0 ≡ no_vertex
  free_at v i lv h l =
      let few : length (neighbours s v) ≤ degree_limit = few_neighbours v lv in
      let e : length (neighbours s v) + (i - length (neighbours s v)) ≡ i = omega arith in
      rw (neighbour_row v lv) (ap (λ (k : ℕ). get_or (neighbours s v ++ replicate (degree_limit - length (neighbours s v)) no_vertex) k 0) (sym e)
      ∙ get_or-append-add (neighbours s v) (replicate (degree_limit - length (neighbours s v)) no_vertex) (i - length (neighbours s v)) 0
      ∙ get_or-replicate (degree_limit - length (neighbours s v)) (i - length (neighbours s v)) no_vertex 0 (omega arith))

-- ---- the edge between two vertices

-- two edges that join the same vertices are one
pub edge_once : (s : List ℕ) → acyclic s (count s) ≡ true → (i j x y : ℕ) → i < edges s → j < edges s → Joins (end_a s (count s)) (end_b s (count s)) i x y → Joins (end_a s (count s)) (end_b s (count s)) j x y → i ≡ j
edge_once s t i j x y li lj p q = pick (dec_lt i j) (dec_lt j i)
  where
    a : ℕ → ℕ
    a = end_a s (count s)

    b : ℕ → ℕ
    b = end_b s (count s)

    clash : (i j : ℕ) → i < j → j < edges s → Joins a b i x y → Joins a b j x y → ⊥
    clash i j l m p (inl q) = acyclic_fresh s (count s) t j m (ap (component a b j) q.0 ∙ component_joins a b i j x y l p ∙ sym (ap (component a b j) q.1))
    clash i j l m p (inr q) = acyclic_fresh s (count s) t j m (ap (component a b j) q.0 ∙ sym (component_joins a b i j x y l p) ∙ sym (ap (component a b j) q.1))

    pick : Dec (i < j) → Dec (j < i) → i ≡ j
    pick (yes l) d = absurd (clash i j l lj p q)
    pick (no l) (yes d) = absurd (clash j i d li q p)
    pick (no l) (no d) = omega arith

-- the search for it finds one that joins them
edge_before_lem : (s : List ℕ) (n v w k : ℕ) → Adj (end_a s n) (end_b s n) k v w → (edge_before s n v w k < k) × Joins (end_a s n) (end_b s n) (edge_before s n v w k) v w
unfolding edge_before
edge_before_lem s n v w zero h = absurd (omega (arith, h.1))
edge_before_lem s n v w (suc k) h = step (joins (end_a s n k) (end_b s n k) v w) refl (edge_before_lem s n v w k)
  where
    step : (t : Bool) → joins (end_a s n k) (end_b s n k) v w ≡ t → (Adj (end_a s n) (end_b s n) k v w → (edge_before s n v w k < k) × Joins (end_a s n) (end_b s n) (edge_before s n v w k) v w)
        → (cond t k (edge_before s n v w k) < suc k) × Joins (end_a s n) (end_b s n) (cond t k (edge_before s n v w k)) v w
    step true e r = (omega arith, joins_says (end_a s n k) (end_b s n k) v w e)
    step false e r = let q = r (early (ℕ_discrete h.0 k)) in (omega (arith, q.0), q.1)
      where
        early : Dec (h.0 ≡ k) → Adj (end_a s n) (end_b s n) k v w
        early (yes d) = absurd (true≢false (sym (says_joins (end_a s n k) (end_b s n k) v w (subst (λ j. Joins (end_a s n) (end_b s n) j v w) d h.2)) ∙ e))
        early (no d) = (h.0, omega (arith, h.1), h.2)

pub edge_joins : (s : List ℕ) (v w : ℕ) → Adjacent s v w → (edge_of s v w < edges s) × Joins (end_a s (count s)) (end_b s (count s)) (edge_of s v w) v w
edge_joins s v w a = edge_before_lem s (count s) v w (edges s) a

-- and edge j is the edge between its ends
pub edge_is : (s : List ℕ) → acyclic s (count s) ≡ true → (j v w : ℕ) → j < edges s → Joins (end_a s (count s)) (end_b s (count s)) j v w → edge_of s v w ≡ j
edge_is s t j v w l h = let q = edge_joins s v w (j, l, h) in edge_once s t (edge_of s v w) j v w q.0 l q.1 h
