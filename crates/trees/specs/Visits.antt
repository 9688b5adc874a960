-- Postorder as the code visits a tree, by the table of neighbours, and that it is the model's. Assumes nothing.
use Rattle.std.specs.Prelude.{◌≡◌, Bool, false, ◌&&◌, not, cond, ◌≢◌, length, set, replicate, eqb, ltb}
use Rattle.std.proofs.Math.Path.{refl, ap}
use Rattle.std.proofs.Common.{sym, ◌∙◌, subst, arith, add-one, length-set, get_or-set_same, get_or-set_other, ltb-true, lt-ltb}
use mathlib.Core.List.{List, [], ◌∷◌, ◌++◌, append_assoc, append-nil}
use Rattle.std.proofs.Math.Bool.{true}
use Rattle.std.proofs.lemmas.Bool.{false≢true}
use Prim.Native.Nat.{ℕ, zero, suc, ◌+◌, ◌-◌, ◌≤◌, ◌<◌, min}
use Rattle.std.proofs.Math.Decide.{ℕ_discrete}
use Rattle.std.proofs.Math.ListN.{get_or, get_or-append}
use Rattle.foundations.specs.Lists.{below, below_ext, cat, cat_filter, cat_ext, gather, gather_places, places_fit, Holds, get_d_tab}
use Rattle.foundations.specs.Members.{below_mem}
use Rattle.model.specs.Limits.{vertex_limit, degree_limit, no_vertex}
use Rattle.model.specs.Tree.{count}
use Rattle.model.specs.Graph.{joined, neighbours, in_places, neighbour_table}
use Rattle.model.specs.Order.{parent, children, postorder_from, postorder, position}
use Rattle.trees.specs.Accepted.{Passed}
use Rattle.trees.specs.Neighbours.{few_neighbours}
use Rattle.trees.specs.Rooted.{child_of_lem, root_parent}
use Rattle.trees.specs.Positions.{postorder_long, position_low, position_is, position_of}

-- w is a vertex, and not the one that the visit came from
abbrev pub goes : ℕ → ℕ → Bool
goes w from = ltb w vertex_limit && not (eqb w from)

-- The vertices below v, away from `from`, and then v; to the depth k.
unfoldable pub post : List (List ℕ) → ℕ → ℕ → ℕ → List ℕ
post t zero v from = []
post t (suc k) v from = gather (λ w. cond (goes w from) (post t k w v) []) (get_or t v []) degree_limit ++ (v ∷ [])

-- The visit's loop: what it adds to the order with one place more.
pub visits : List (List ℕ) → ℕ → ℕ → ℕ → ℕ → List ℕ
visits t k v from i = gather (λ w. cond (goes w from) (post t k w v) []) (get_or t v []) i

pub visits_none : (t : List (List ℕ)) (k v from : ℕ) (l : List ℕ) → l ++ visits t k v from 0 ≡ l
unfolding visits gather
visits_none t k v from l = append-nil l

pub visits_go : (t : List (List ℕ)) (k v from i : ℕ) (l : List ℕ) → goes (get_or (get_or t v []) i 0) from ≡ true → l ++ visits t k v from (i + 1) ≡ (l ++ visits t k v from i) ++ post t k (get_or (get_or t v []) i 0) v
unfolding visits gather
visits_go t k v from i l h = rw (add-one, gather, h) (sym (append_assoc l _ _))

pub visits_skip : (t : List (List ℕ)) (k v from i : ℕ) (l : List ℕ) → goes (get_or (get_or t v []) i 0) from ≡ false → l ++ visits t k v from (i + 1) ≡ l ++ visits t k v from i
unfolding visits gather
visits_skip t k v from i l h = rw (add-one, gather, h) (ap (λ m. l ++ m) (append-nil _))

pub visits_all : (t : List (List ℕ)) (k k' v from i : ℕ) (l : List ℕ) → k ≡ suc k' → i ≡ degree_limit → (l ++ visits t k' v from i) ++ (v ∷ []) ≡ l ++ post t k v from
unfolding visits post
visits_all t k k' v from i l e h = rw (e, h) (append_assoc l _ (v ∷ []))

pub post_none : (t : List (List ℕ)) (k v from : ℕ) (l : List ℕ) → k ≡ 0 → l ++ post t k v from ≡ l
unfolding post
post_none t k v from l e = rw e (append-nil l)

pub goes_low : (w from : ℕ) → goes w from ≡ true → w < vertex_limit
goes_low w from h = step (ltb w vertex_limit) refl
  where
    step : (t : Bool) → ltb w vertex_limit ≡ t → w < vertex_limit
    step true e = ltb-true w vertex_limit e
    step false e = absurd (false≢true (rw e at h))

-- ---- an accepted tree's table

module _ (s : List ℕ) (K L : ℕ) (p : Passed s K L) where
  -- the neighbours that are not the parent are the children
  away : (v w : ℕ) → w < count s → (joined s v w && goes w (parent s v)) ≡ (joined s v w && not (eqb w (parent s v)))
  away v w l = rw (lt-ltb w vertex_limit (let f : count s ≤ vertex_limit = p.ends.few in omega arith))

  -- a visit of v from its parent (of the root from itself) is the model's postorder of what is below v
  pub post_is : (k v : ℕ) → v < count s → post (neighbour_table s) k v (parent s v) ≡ postorder_from s k v
  unfolding post postorder_from
  post_is zero v l = refl
  post_is (suc k) v l = ap (λ (m : List ℕ). m ++ (v ∷ [])) (step (λ w lw. post_is k w lw))
    where
      row : get_or (neighbour_table s) v [] ≡ in_places (neighbours s v)
      row = unfold neighbour_table in get_d_tab (λ x. in_places (neighbours s x)) vertex_limit v [] (let f : count s ≤ vertex_limit = p.ends.few in omega arith)

      step : ((w : ℕ) → w < count s → post (neighbour_table s) k w (parent s w) ≡ postorder_from s k w) → gather (λ w. cond (goes w (parent s v)) (post (neighbour_table s) k w v) []) (get_or (neighbour_table s) v []) degree_limit ≡ cat (λ w. postorder_from s k w) (children s v)
      step r =
          rw row (gather_places (λ w. cond (goes w (parent s v)) (post (neighbour_table s) k w v) []) degree_limit no_vertex (neighbours s v) (few_neighbours s K L p v l) refl ∙ filtered ∙ visited)
        where
          tested : ℕ → Bool
          tested w = joined s v w && not (eqb w (parent s v))

          filtered : cat (λ w. cond (goes w (parent s v)) (post (neighbour_table s) k w v) []) (neighbours s v) ≡ cat (λ w. post (neighbour_table s) k w v) (below tested (count s))
          filtered =
              unfold neighbours in
              cat_filter (λ w. post (neighbour_table s) k w v) (λ w. joined s v w) (λ w. goes w (parent s v)) (count s) ∙ ap (cat (λ w. post (neighbour_table s) k w v)) (below_ext (λ w. joined s v w && goes w (parent s v)) tested (count s) (λ w lw. away v w lw))

          visited : cat (λ w. post (neighbour_table s) k w v) (below tested (count s)) ≡ cat (λ w. postorder_from s k w) (children s v)
          visited = unfold children in cat_ext (λ w. post (neighbour_table s) k w v) (λ w. postorder_from s k w) tested (count s) (λ w lw c. ap (λ (y : ℕ). post (neighbour_table s) k w y) (sym (above w lw c)) ∙ r w lw)
            where
              above : (w : ℕ) → w < count s → tested w ≡ true → parent s w ≡ v
              above w lw c = (child_of_lem s p.ends p.tree v w l (unfold children in below_mem tested (count s) w lw c)).2

  pub post_postorder : post (neighbour_table s) vertex_limit 0 0 ≡ postorder s
  unfolding postorder
  post_postorder = ap (λ (y : ℕ). post (neighbour_table s) vertex_limit 0 y) (sym (root_parent s p.ends p.tree)) ∙ post_is vertex_limit 0 p.ends.some

-- ---- what the code's order says of an accepted tree

-- the first len places of `at` are the tree's postorder, for every accepted tree whose table t is
pub record OrderOf (t : List (List ℕ)) (at : List ℕ) (len : ℕ) : Type 0 where
  pub holds : (s : List ℕ) (K L : ℕ) → Passed s K L → t ≡ neighbour_table s → Holds vertex_limit no_vertex (postorder s) at len

pub order_of : (t : List (List ℕ)) (at : List ℕ) (len : ℕ) → Holds vertex_limit no_vertex (post t vertex_limit 0 0) at len → OrderOf t at len
order_of t at len h = record { holds = λ s K L p e. subst (λ (l : List ℕ). Holds vertex_limit no_vertex l at len) (ap (λ (y : List (List ℕ)). post y vertex_limit 0 0) e ∙ post_postorder s K L p) h }

-- the order of an accepted tree: as long as the tree has vertices, each place its vertex
pub record Ordered (s at : List ℕ) (len : ℕ) : Type 0 where
  pub long : len ≡ count s
  pub get : (i : ℕ) → i < count s → get_or at i 0 ≡ get_or (postorder s) i 0

pub ordered : (s : List ℕ) (K L : ℕ) (p : Passed s K L) (at : List ℕ) (len : ℕ) → Holds vertex_limit no_vertex (postorder s) at len → Ordered s at len
ordered s K L p at len h =
    let n : length (postorder s) ≡ count s = postorder_long s p.ends p.tree in
    let few : count s ≤ vertex_limit = p.ends.few in
    let u : len ≡ min vertex_limit (length (postorder s)) = h.used in
    record {
      long = omega arith;
      get = λ i l. rw (h.held, places_fit vertex_limit no_vertex (postorder s) (omega arith)) (get_or-append (postorder s) (replicate (vertex_limit - length (postorder s)) no_vertex) 0 i (omega arith));
    }

-- ---- each vertex's place

-- the first k of the places of an order
pub record Placed (at : List ℕ) (k : ℕ) (p : List ℕ) : Type 0 where
  pub long : length p ≡ vertex_limit
  pub back : (i : ℕ) → i < k → get_or p (get_or at i 0) 0 ≡ i

-- what the code needs of the order: vertices, no two the same
pub record Different (at : List ℕ) (len : ℕ) : Type 0 where
  pub few : len ≤ vertex_limit
  pub low : (i : ℕ) → i < len → get_or at i 0 < vertex_limit
  pub differ : (i j : ℕ) → i < j → j < len → get_or at i 0 ≢ get_or at j 0

pub placed_more : (at : List ℕ) (len k : ℕ) (p : List ℕ) → Different at len → k < len → Placed at k p → Placed at (k + 1) (set p (get_or at k 0) k)
placed_more at len k p h l v =
    let b : get_or at k 0 < vertex_limit = h.low k l in
    let e : length p ≡ vertex_limit = v.long in
    record { long = length-set p (get_or at k 0) k ∙ e; back = λ i m. step i m (ℕ_discrete i k) }
  where
    step : (i : ℕ) → i < k + 1 → Dec (i ≡ k) → get_or (set p (get_or at k 0) k) (get_or at i 0) 0 ≡ i
    step i m (yes q) = rw q (get_or-set_same p (get_or at k 0) k 0 (let b : get_or at k 0 < vertex_limit = h.low k l in let e : length p ≡ vertex_limit = v.long in omega arith))
    step i m (no q) = get_or-set_other p (get_or at k 0) (get_or at i 0) k 0 (h.differ i k (omega arith) l) ∙ v.back i (omega arith)

module _ (s : List ℕ) (K L : ℕ) (p : Passed s K L) (at : List ℕ) (len : ℕ) (o : Ordered s at len) where
  pub ordered_different : Different at len
  ordered_different =
      let n : len ≡ count s = o.long in
      let few : count s ≤ vertex_limit = p.ends.few in
      record {
        few = omega arith;
        low = λ i l. rw (o.get i (omega arith)) (let q : get_or (postorder s) i 0 < count s = (position_of s p.ends p.tree i (omega arith)).0 in omega arith);
        differ = λ i j l m e. clash i j (omega arith) (omega arith) l (sym (o.get i (omega arith)) ∙ e ∙ o.get j (omega arith));
      }
    where
      clash : (i j : ℕ) → i < count s → j < count s → i < j → get_or (postorder s) i 0 ≡ get_or (postorder s) j 0 → ⊥
      clash i j li lj l e =
          let a : position s (get_or (postorder s) i 0) ≡ i = (position_of s p.ends p.tree i li).1 in
          let b : position s (get_or (postorder s) j 0) ≡ j = (position_of s p.ends p.tree j lj).1 in
          let c : position s (get_or (postorder s) i 0) ≡ position s (get_or (postorder s) j 0) = ap (position s) e in
          omega arith

  -- where the code's places stand for the model's positions
  pub placed_position : (q : List ℕ) → Placed at len q → (u : ℕ) → u < count s → get_or q u 0 ≡ position s u
  placed_position q h u l =
      let i : position s u < count s = position_low s p.ends p.tree u l in
      let e : get_or at (position s u) 0 ≡ u = o.get (position s u) i ∙ position_is s p.ends p.tree u l in
      ap (λ (y : ℕ). get_or q y 0) (sym e) ∙ h.back (position s u) (let n : len ≡ count s = o.long in omega arith)
