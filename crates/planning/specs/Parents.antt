-- The parent of a recorded vertex and the edge to it, from the neighbours in their places. Assumes nothing.
use Rattle.std.specs.Prelude.{◌≡◌, ◌≢◌, Bool, true, ◌&&◌, cond, List, [], ℕ, ◌≤◌, ◌<◌, length, get_or, ltb}
use Rattle.std.proofs.Common.{sym, ap, ◌∙◌, arith}
use Rattle.std.proofs.Math.Path.{subst}
use Rattle.std.proofs.Math.Logic.{⊎_elim}
use borrow.Author.Tests.{lt-ltb, le-ltb, ltb-true}
use Rattle.foundations.specs.Tests.{same?, less?, and_split}
use Rattle.foundations.specs.Members.{place, mem_occ, place_at, place_low, get_d_mem}
use Rattle.model.specs.Limits.{no_vertex, vertex_limit, degree_limit}
use Rattle.model.specs.Tree.{count}
use Rattle.model.specs.Graph.{neighbours, neighbour_table}
use Rattle.model.specs.Order.{parent, position}
use Rattle.trees.specs.Accepted.{Passed}
use Rattle.trees.specs.Directions.{seen, seen_table, seen_at}
use Rattle.trees.specs.Neighbours.{Adjacent, adjacent_low, mem_adjacent, adjacent_mem, few_neighbours, neighbour_at, free_at}
use Rattle.trees.specs.Rooted.{up_edge, parent_low, root_parent, one_above}
use Rattle.trees.specs.Positions.{position_child}

-- ---- what the functions promise over arrays

-- w is a vertex with a place after `own`
unfoldable pub is_later : List ℕ → ℕ → ℕ → Bool
is_later at own w = ltb w vertex_limit && ltb own (get_or at w 0)

-- the first place of a row whose vertex comes after `own`, `degree_limit` for none
pub record LaterAt (row at : List ℕ) (own k : ℕ) : Type 0 where
  pub few : k ≤ degree_limit
  pub before : (i : ℕ) → i < k → is_later at own (get_or row i 0) ≡ true → ⊥
  pub here : k < degree_limit → is_later at own (get_or row k 0) ≡ true

-- what stands in place k, 0 where k is no place
unfoldable pub at_or : List ℕ → ℕ → ℕ
at_or row k = cond (ltb k degree_limit) (get_or row k 0) 0

pub at_some : (row : List ℕ) (k : ℕ) → k < degree_limit → at_or row k ≡ get_or row k 0
unfolding at_or
at_some row k h = rw (lt-ltb k degree_limit h)

pub at_none : (row : List ℕ) (k : ℕ) → degree_limit ≤ k → at_or row k ≡ 0
unfolding at_or
at_none row k h = rw (le-ltb k degree_limit h)

-- ---- in an accepted tree

module _ (s : List ℕ) (K L : ℕ) (p : Passed s K L) (at : List ℕ) (placed : (u : ℕ) → u < count s → get_or at u 0 ≡ position s u) where
  -- the parent comes after
  later_parent : (u : ℕ) → u < count s → u ≢ 0 → is_later at (position s u) (parent s u) ≡ true
  unfolding is_later
  later_parent u l z =
      let few : count s ≤ vertex_limit = p.ends.few in
      let low : parent s u < count s = parent_low s p.ends p.tree u l z in
      let b : position s u < position s (parent s u) = position_child s p.ends p.tree u l z in
      rw (lt-ltb (parent s u) vertex_limit (omega arith), placed (parent s u) low, lt-ltb (position s u) (position s (parent s u)) b)

  -- a neighbour that comes after is the parent, and u is not the root
  parent_later : (u w : ℕ) → Adjacent s u w → is_later at (position s u) w ≡ true → (parent s u ≡ w) × (u ≢ 0)
  unfolding is_later
  parent_later u w a h =
      let low : w < count s = (adjacent_low s p.ends u w a).1 in
      let b : position s u < position s w = ltb-true (position s u) (position s w) (rw (placed w low) at (and_split (ltb w vertex_limit) _ h).1) in
      ⊎_elim
      (λ m. m)
      (λ m. let c : position s w < position s u = subst (λ (y : ℕ). position s w < position s y) m.0 (position_child s p.ends p.tree w low m.1) in absurd (omega arith))
      (one_above s p.ends p.tree u w a)

  low_later : (own w : ℕ) → is_later at own w ≡ true → w ≢ no_vertex
  unfolding is_later
  low_later own w h e = let b : w < vertex_limit = ltb-true w vertex_limit (and_split (ltb w vertex_limit) _ h).0 in absurd (omega arith)

  module _ (u k : ℕ) (l : u < count s) (F : LaterAt (get_or (neighbour_table s) u []) at (position s u) k) where
    -- a place that comes after is one of the neighbours', and its vertex the parent
    here_parent : k < degree_limit → (k < length (neighbours s u)) × (get_or (neighbours s u) k 0 ≡ parent s u) × (u ≢ 0)
    here_parent h =
        let t = F.here h in
        let in_row : k < length (neighbours s u) = ⊎_elim (λ b. b) (λ b. absurd (low_later (position s u) (get_or (get_or (neighbour_table s) u []) k 0) t (free_at s K L p u k l b h))) (less? k (length (neighbours s u))) in
        let name : get_or (get_or (neighbour_table s) u []) k 0 ≡ get_or (neighbours s u) k 0 = neighbour_at s K L p u k l in_row in
        let q = parent_later u (get_or (neighbours s u) k 0) (mem_adjacent s u (get_or (neighbours s u) k 0) (get_d_mem (neighbours s u) k in_row)).1 (rw name at t) in
        (in_row, sym q.0, q.1)

    -- a vertex but the root has such a place
    has_later : u ≢ 0 → k < degree_limit
    has_later z =
        let o = mem_occ (parent s u) (neighbours s u) (adjacent_mem s p.ends u (parent s u) (up_edge s p.ends p.tree u l z)) in
        let few : length (neighbours s u) ≤ degree_limit = few_neighbours s K L p u l in
        let i = place (parent s u) (neighbours s u) in
        let li : i < length (neighbours s u) = place_low (parent s u) (neighbours s u) o in
        let e : get_or (get_or (neighbour_table s) u []) i 0 ≡ parent s u = neighbour_at s K L p u i l li ∙ place_at (parent s u) (neighbours s u) o in
        ⊎_elim (λ b. absurd (F.before i b (rw e (later_parent u l z)))) (λ b. omega arith) (less? i k)

    pub parent_at : at_or (get_or (neighbour_table s) u []) k ≡ parent s u
    parent_at = ⊎_elim
        (λ h. let q = here_parent h in at_some (get_or (neighbour_table s) u []) k h ∙ neighbour_at s K L p u k l q.0 ∙ q.1)
        (λ h. at_none (get_or (neighbour_table s) u []) k h ∙ ⊎_elim (λ z. sym (ap (parent s) z ∙ root_parent s p.ends p.tree)) (λ z. absurd (let b = has_later z in omega arith)) (same? u 0))
        (less? k degree_limit)

    pub parent_edge_at : u ≢ 0 → at_or (get_or (seen_table s) u []) k ≡ seen s u (parent s u)
    parent_edge_at z =
        let h = has_later z in
        let q = here_parent h in
        at_some (get_or (seen_table s) u []) k h ∙ seen_at s K L p u k l q.0 ∙ ap (seen s u) q.1
