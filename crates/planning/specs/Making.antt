-- Children, degrees, offsets and places behind neighbours, as the functions of `make` find them in arrays, and what that says of an accepted tree.
-- Assumes nothing.
use Rattle.std.specs.Prelude.{◌≡◌, refl, ◌≢◌, Bool, true, false, not, cond, ◌&&◌, ℕ, zero, suc, ◌+◌, ◌*◌, ◌-◌, ◌≤◌, ◌<◌, set, replicate, eqb}
use Rattle.std.proofs.Math.Path.{sym, ap}
use Rattle.std.proofs.Common.{◌∙◌, subst, arith, not-suc-le-zero, add-one, length-set, length-append, get_or-set_same, get_or-set_other, eq-eqb, ne_eqb, lt-ltb, le-ltb}
use Rattle.std.proofs.Math.Logic.{⊎_elim}
use mathlib.Core.List.{List, [], ◌∷◌, ◌++◌, append-nil}
use Rattle.std.proofs.Math.ListN.{length, get_or, get_or-append}
use Rattle.std.proofs.Math.Dec.{T, ltb}
use Rattle.foundations.specs.Tests.{same?, less?}
use Rattle.foundations.specs.Lists.{below_ext, cat, cat_filter, gather, gather_places, get_d_tab}
use Rattle.foundations.specs.Members.{mem, get_d_mem, mem_occ, place, place_low, place_at, place_one, distinct_occ, mem_ne}
use Rattle.model.specs.Limits.{no_vertex, vertex_limit, width_limit, degree_limit, prefix_limit}
use Rattle.model.specs.Tree.{count}
use Rattle.model.specs.Graph.{joined, edges, neighbours, neighbour_table, in_places}
use Rattle.model.specs.Order.{children, parent, position, offset, slot, width}
use Rattle.trees.specs.Accepted.{Passed}
use Rattle.trees.specs.Directions.{seen, seen_table, seen_at}
use Rattle.trees.specs.Neighbours.{mem_adjacent, adjacent_mem, adjacent_back, few_neighbours, neighbour_at, free_at, joined_says, once_neighbours}
use Rattle.trees.specs.Rooted.{one_above, root_parent, no_self, child_of_lem}
use Rattle.trees.specs.Positions.{offset_up, offset_all, position_child, position_low}

-- ---- the taken places of a row

pub record TakenPlaces (row : List ℕ) (k : ℕ) : Type 0 where
  pub few : k ≤ degree_limit
  pub before : (i : ℕ) → i < k → get_or row i 0 ≡ no_vertex → ⊥
  pub stop : k < degree_limit → get_or row k 0 ≡ no_vertex

-- ---- an accepted tree

module _ (s : List ℕ) (K L : ℕ) (p : Passed s K L) where
  pub neighbour_low : (v i : ℕ) → i < length (neighbours s v) → get_or (neighbours s v) i 0 < count s
  neighbour_low v i l = (mem_adjacent s v (get_or (neighbours s v) i 0) (get_d_mem (neighbours s v) i l)).0

  -- as many places are taken as there are neighbours
  pub taken_neighbours : (v k : ℕ) → v < count s → TakenPlaces (get_or (neighbour_table s) v []) k → k ≡ length (neighbours s v)
  taken_neighbours v k lv t = ⊎_elim (λ l. absurd (less l)) (λ l. ⊎_elim (λ m. absurd (more m)) (λ m. omega arith) (less? (length (neighbours s v)) k)) (less? k (length (neighbours s v)))
    where
      less : k < length (neighbours s v) → ⊥
      less l =
          let few : count s ≤ vertex_limit = p.ends.few in
          let d : length (neighbours s v) ≤ degree_limit = few_neighbours s K L p v lv in
          let a : get_or (get_or (neighbour_table s) v []) k 0 ≡ get_or (neighbours s v) k 0 = neighbour_at s K L p v k lv l in
          let b : get_or (neighbours s v) k 0 < count s = neighbour_low v k l in
          let e : get_or (get_or (neighbour_table s) v []) k 0 ≡ no_vertex = t.stop (omega arith) in
          omega arith

      more : length (neighbours s v) < k → ⊥
      more l = let few : k ≤ degree_limit = t.few in t.before (length (neighbours s v)) l (free_at s K L p v (length (neighbours s v)) lv (omega arith) (omega arith))

  pub offset_small : (v : ℕ) → v ≤ count s → offset s v ≤ width_limit
  unfolding width
  offset_small v h =
      let few : count s ≤ vertex_limit = p.ends.few in
      let all : offset s (count s) ≡ 3 * count s - 2 = offset_all s p.ends p.tree in
      ⊎_elim (λ e. rw e (omega arith)) (λ n. let up = offset_up s v (count s) (omega arith) in omega arith) (same? v (count s))

-- ---- where each vertex's subproblems begin

-- up to vertex n
pub record Starts (f : List ℕ) (n : ℕ) (r : List ℕ) : Type 0 where
  pub long : length r ≡ prefix_limit
  pub offsets : (v : ℕ) → v ≤ n → get_or r v 0 ≡ offset f v
  pub small : (v : ℕ) → get_or r v 0 ≤ width_limit

pub zeros : (n v : ℕ) → get_or (replicate {A = ℕ} n 0) v 0 ≡ 0
zeros zero v = refl
zeros (suc n) zero = refl
zeros (suc n) (suc v) = zeros n v

pub starts_none : (f r : List ℕ) → length r ≡ prefix_limit → ((v : ℕ) → get_or r v 0 ≡ 0) → Starts f 0 r
unfolding offset
starts_none f r e z = record { long = e; offsets = λ v h. let q : v ≡ 0 = omega arith in rw q (z 0); small = λ v. rw (z v) (omega arith) }

pub starts_more : (f : List ℕ) (K L : ℕ) → Passed f K L → (v : ℕ) (r : List ℕ) (k x : ℕ) → v < count f → Starts f v r → TakenPlaces (get_or (neighbour_table f) v []) k → x ≡ get_or r v 0 + 1 + k → Starts f (v + 1) (set r (v + 1) x)
unfolding offset
starts_more f K L p v r k x l S t e =
    let n : length r ≡ prefix_limit = S.long in
    let few : count f ≤ vertex_limit = p.ends.few in
    let a : get_or r v 0 ≡ offset f v = S.offsets v (omega arith) in
    let b : k ≡ length (neighbours f v) = taken_neighbours f K L p v k l t in
    let g : x ≡ offset f (suc v) = omega arith in
    let m : offset f (suc v) ≤ width_limit = offset_small f K L p (suc v) l in
    record {
      long = length-set r (v + 1) x ∙ n;
      offsets = λ w h. ⊎_elim
          (λ q. rw (q, get_or-set_same r (v + 1) x 0 (omega arith)) (g ∙ rw (add-one v)))
          (λ q. get_or-set_other r (v + 1) w x 0 q ∙ S.offsets w (omega arith))
          (same? w (v + 1));
      small = λ w. ⊎_elim
          (λ q. rw (q, get_or-set_same r (v + 1) x 0 (omega arith)) (omega arith))
          (λ q. rw (get_or-set_other r (v + 1) w x 0 q) (S.small w))
          (same? w (v + 1));
    }

-- ---- children in their places

unfoldable pub place_or : List ℕ → ℕ → ℕ
place_or place w = cond (ltb w vertex_limit) (get_or place w 0) no_vertex

unfoldable pub next_of : ℕ → ℕ → ℕ → ℕ
next_of c p own = cond (ltb p own) (c + 1) c

-- w alone if it comes before `own`
unfoldable pub child_among : List ℕ → ℕ → ℕ → List ℕ
child_among place own w = cond (ltb (place_or place w) own) (w ∷ []) []

-- those of the first i places
unfoldable pub children_among : List ℕ → List ℕ → ℕ → ℕ → List ℕ
children_among row place own i = gather (child_among place own) row i

-- a child's row of the arrays comes from place `from` of the neighbours
pub record ChildAt (row edges place : List ℕ) (i : ℕ) (edge base vertex w : ℕ) : Type 0 where
  pub from : ℕ
  pub low : from < i
  pub name : w ≡ get_or row from 0
  pub is : vertex ≡ w
  pub edge_is : edge ≡ get_or edges from 0
  pub begins : base ≡ place_or place w

pub record ChildrenTo (row edges place : List ℕ) (own i c : ℕ) (edge base vertex : List ℕ) : Type 0 where
  pub used : c ≡ length (children_among row place own i)
  pub few : c ≤ i
  pub edge_long : length edge ≡ degree_limit
  pub base_long : length base ≡ degree_limit
  pub vertex_long : length vertex ≡ degree_limit
  pub get : (j : ℕ) → j < c → ChildAt row edges place i (get_or edge j 0) (get_or base j 0) (get_or vertex j 0) (get_or (children_among row place own i) j 0)

among_yes : (row place : List ℕ) (own i : ℕ) → ltb (place_or place (get_or row i 0)) own ≡ true → children_among row place own (i + 1) ≡ children_among row place own i ++ (get_or row i 0 ∷ [])
unfolding children_among gather child_among
among_yes row place own i h = rw (add-one, gather, h)

among_no : (row place : List ℕ) (own i : ℕ) → ltb (place_or place (get_or row i 0)) own ≡ false → children_among row place own (i + 1) ≡ children_among row place own i
unfolding children_among gather child_among
among_no row place own i h = rw (add-one, gather, h) (append-nil _)

pub children_none : (row edges place : List ℕ) (own : ℕ) (edge base vertex : List ℕ) → length edge ≡ degree_limit → length base ≡ degree_limit → length vertex ≡ degree_limit → ChildrenTo row edges place own 0 0 edge base vertex
unfolding children_among gather
children_none row edges place own edge base vertex a b c = record { used = refl; few = omega arith; edge_long = a; base_long = b; vertex_long = c; get = λ j h. absurd (not-suc-le-zero h) }

child_after : {row edges place : List ℕ} {i edge base vertex w : ℕ} → ChildAt row edges place i edge base vertex w → ChildAt row edges place (i + 1) edge base vertex w
child_after k = let l = k.low in record { from = k.from; low = omega arith; name = k.name; is = k.is; edge_is = k.edge_is; begins = k.begins }

-- the places below c stay
child_kept : (row edges place : List ℕ) (own i c : ℕ) (edge base vertex : List ℕ) (x y z : ℕ) → ChildrenTo row edges place own i c edge base vertex → (j : ℕ) → j < c → ChildAt row edges place (i + 1) (get_or (set edge c x) j 0) (get_or (set base c y) j 0) (get_or (set vertex c z) j 0) (get_or (children_among row place own i) j 0)
child_kept row edges place own i c edge base vertex x y z k j h =
    let n : j ≢ c = λ e. omega (arith, e) in
    rw (get_or-set_other edge c j x 0 n, get_or-set_other base c j y 0 n, get_or-set_other vertex c j z 0 n) (child_after (k.get j h))

-- one place more: what stands at c is counted or not
pub children_more : (row edges place : List ℕ) (own i c : ℕ) (edge base vertex : List ℕ) (w p y d : ℕ) → i < degree_limit → ChildrenTo row edges place own i c edge base vertex → w ≡ get_or row i 0 → p ≡ place_or place w → y ≡ p → d ≡ next_of c p own → ChildrenTo row edges place own (i + 1) d (set edge c (get_or edges i 0)) (set base c y) (set vertex c w)
unfolding next_of
children_more row edges place own i c edge base vertex w p y d h k ew ep ey ed = go (ltb p own) refl
  where
    x : ℕ
    x = get_or edges i 0

    few : c ≤ i
    few = k.few

    test : ltb (place_or place (get_or row i 0)) own ≡ ltb p own
    test = ap (λ (z : ℕ). ltb z own) (sym (ep ∙ ap (place_or place) ew))

    go : (t : Bool) → ltb p own ≡ t → ChildrenTo row edges place own (i + 1) d (set edge c x) (set base c y) (set vertex c w)
    go true e =
        let all : children_among row place own (i + 1) ≡ children_among row place own i ++ (get_or row i 0 ∷ []) = among_yes row place own i (test ∙ e) in
        let long : length (children_among row place own i ++ (get_or row i 0 ∷ [])) ≡ length (children_among row place own i) + 1 = length-append (children_among row place own i) (get_or row i 0 ∷ []) in
        let u : c ≡ length (children_among row place own i) = k.used in
        let la : length edge ≡ degree_limit = k.edge_long in
        let lb : length base ≡ degree_limit = k.base_long in
        let lv : length vertex ≡ degree_limit = k.vertex_long in
        let dd : d ≡ c + 1 = ed ∙ rw e in
        record {
          used = rw all (omega arith);
          few = omega (arith, few);
          edge_long = length-set edge c x ∙ la;
          base_long = length-set base c y ∙ lb;
          vertex_long = length-set vertex c w ∙ lv;
          get = λ j l. rw all (⊎_elim
              (λ q. let last : get_or (children_among row place own i ++ (get_or row i 0 ∷ [])) j 0 ≡ w = at_last (children_among row place own i) (get_or row i 0) j (q ∙ u) ∙ sym ew in
              record {
                from = i;
                low = omega arith;
                name = last ∙ ew;
                is = ap (λ (z : ℕ). get_or (set vertex c w) z 0) q ∙ get_or-set_same vertex c w 0 (omega (arith, few)) ∙ sym last;
                edge_is = ap (λ (z : ℕ). get_or (set edge c x) z 0) q ∙ get_or-set_same edge c x 0 (omega (arith, few));
                begins = ap (λ (z : ℕ). get_or (set base c y) z 0) q ∙ get_or-set_same base c y 0 (omega (arith, few)) ∙ ey ∙ rw (ep, last);
              })
              (λ q. rw (get_or-append (children_among row place own i) (get_or row i 0 ∷ []) 0 j (omega arith)) (child_kept row edges place own i c edge base vertex x y w k j (omega arith)))
              (same? j c));
        }
      where
        at_last : (l : List ℕ) (a j : ℕ) → j ≡ length l → get_or (l ++ (a ∷ [])) j 0 ≡ a
        at_last [] a j e = rw e
        at_last (b ∷ l) a j e = rw e (at_last l a (length l) refl)
    go false e =
        let none : children_among row place own (i + 1) ≡ children_among row place own i = among_no row place own i (test ∙ e) in
        let dd : d ≡ c = ed ∙ rw e in
        record {
          used = dd ∙ k.used ∙ ap length (sym none);
          few = omega (arith, few);
          edge_long = length-set edge c x ∙ k.edge_long;
          base_long = length-set base c y ∙ k.base_long;
          vertex_long = length-set vertex c w ∙ k.vertex_long;
          get = λ j l. rw none (child_kept row edges place own i c edge base vertex x y w k j (omega arith));
        }

-- ---- the children of u, in an accepted tree

pub record ChildIs (r : List ℕ) (u c edge base : ℕ) : Type 0 where
  pub child : T (mem c (children r u))
  pub edge_is : edge ≡ seen r u c
  pub begins : base ≡ position r c

pub record ChildrenAre (r : List ℕ) (u c : ℕ) (edge base vertex : List ℕ) : Type 0 where
  pub used : c ≡ length (children r u)
  pub few : c ≤ degree_limit
  pub names : (i : ℕ) → i < c → get_or vertex i 0 ≡ get_or (children r u) i 0
  pub get : (i : ℕ) → i < c → ChildIs r u (get_or (children r u) i 0) (get_or edge i 0) (get_or base i 0)

cat_each : (l : List ℕ) → cat (λ w. w ∷ []) l ≡ l
unfolding cat
cat_each [] = refl
cat_each (x ∷ l) = rw (cat_each l)

module _ (r : List ℕ) (K L : ℕ) (p : Passed r K L) (place : List ℕ) (placed : (u : ℕ) → u < count r → get_or place u 0 ≡ position r u) where
  place_is : (w : ℕ) → w < count r → place_or place w ≡ position r w
  unfolding place_or
  place_is w l = let few : count r ≤ vertex_limit = p.ends.few in rw (lt-ltb w vertex_limit (omega arith)) (placed w l)

  -- a neighbour is a child exactly if it comes before u
  child_first : (u w : ℕ) → u < count r → w < count r → (joined r u w && ltb (place_or place w) (position r u)) ≡ (joined r u w && not (eqb w (parent r u)))
  child_first u w lu lw = go (joined r u w) refl
    where
      before : (parent r w ≡ u) × (w ≢ 0) → position r w < position r u
      before m = subst (λ (y : ℕ). position r w < position r y) m.0 (position_child r p.ends p.tree w lw m.1)

      after : (parent r u ≡ w) × (u ≢ 0) → position r u < position r w
      after m = subst (λ (y : ℕ). position r u < position r y) m.0 (position_child r p.ends p.tree u lu m.1)

      other : (parent r w ≡ u) × (w ≢ 0) → w ≢ parent r u
      other m e = ⊎_elim
          (λ z. m.1 (e ∙ ap (parent r) z ∙ root_parent r p.ends p.tree))
          (λ z. let a = before m in let b = after (sym e, z) in omega arith)
          (same? u 0)

      go : (t : Bool) → joined r u w ≡ t → (t && ltb (place_or place w) (position r u)) ≡ (t && not (eqb w (parent r u)))
      go false e = refl
      go true e = rw (place_is w lw) (⊎_elim
          (λ m. rw (eq-eqb w (parent r u) (sym m.0), le-ltb (position r w) (position r u) (let a = after m in omega arith)))
          (λ m. rw (ne_eqb w (parent r u) (other m), lt-ltb (position r w) (position r u) (before m)))
          (one_above r p.ends p.tree u w (joined_says r (count r) u w (edges r) e)))

  among_children : (u : ℕ) → u < count r → children_among (get_or (neighbour_table r) u []) place (position r u) degree_limit ≡ children r u
  unfolding children_among child_among children neighbours neighbour_table
  among_children u l =
      let few : count r ≤ vertex_limit = p.ends.few in
      ap (λ (row : List ℕ). gather (child_among place (position r u)) row degree_limit) (get_d_tab (λ x. in_places (neighbours r x)) vertex_limit u [] (omega arith))
      ∙ gather_places (child_among place (position r u)) degree_limit no_vertex (neighbours r u) (few_neighbours r K L p u l) free
      ∙ cat_filter (λ w. w ∷ []) (λ w. joined r u w) (λ w. ltb (place_or place w) (position r u)) (count r)
      ∙ cat_each _
      ∙ below_ext _ _ (count r) (λ w lw. child_first u w l lw)
    where
      free : child_among place (position r u) no_vertex ≡ []
      free = unfold child_among in unfold place_or in (let q : position r u < count r = position_low r p.ends p.tree u l in let few : count r ≤ vertex_limit = p.ends.few in rw (le-ltb no_vertex (position r u) (omega arith)))

-- ---- behind a found vertex's neighbours

-- the first place of v in a row, or `degree_limit`
pub record At (row : List ℕ) (v k : ℕ) : Type 0 where
  pub few : k ≤ degree_limit
  pub before : (i : ℕ) → i < k → get_or row i 0 ≡ v → ⊥
  pub here : k < degree_limit → get_or row k 0 ≡ v

pub record Behind (rows : List (List ℕ)) (starts : List ℕ) (v x r : ℕ) : Type 0 where
  pub at : ℕ
  pub found : x < vertex_limit → At (get_or rows x []) v at
  pub is : x < vertex_limit → r ≡ get_or starts x 0 + 1 + at
  pub small : r ≤ no_vertex

pub record BehindTo (rows : List (List ℕ)) (starts : List ℕ) (v j : ℕ) (r : List ℕ) : Type 0 where
  pub long : length r ≡ degree_limit
  pub get : (i : ℕ) → i < j → Behind rows starts v (get_or (get_or rows v []) i 0) (get_or r i 0)

-- ---- and in an accepted tree

module _ (r : List ℕ) (K L : ℕ) (p : Passed r K L) (place : List ℕ) (placed : (u : ℕ) → u < count r → get_or place u 0 ≡ position r u) where
  pub children_are : (u c : ℕ) (edge base vertex : List ℕ) → u < count r → ChildrenTo (get_or (neighbour_table r) u []) (get_or (seen_table r) u []) place (position r u) degree_limit c edge base vertex → ChildrenAre r u c edge base vertex
  children_are u c edge base vertex lu k =
      let all : children_among (get_or (neighbour_table r) u []) place (position r u) degree_limit ≡ children r u = among_children r K L p place placed u lu in
      let used : c ≡ length (children r u) = k.used ∙ ap length all in
      record {
        used = used;
        few = k.few;
        names = λ i l. (k.get i l).is ∙ ap (λ (m : List ℕ). get_or m i 0) all;
        get = λ i l. kid (get_or (children r u) i 0) _ _ _ (get_d_mem (children r u) i (omega arith)) (subst (λ (m : List ℕ). ChildAt (get_or (neighbour_table r) u []) (get_or (seen_table r) u []) place degree_limit (get_or edge i 0) (get_or base i 0) (get_or vertex i 0) (get_or m i 0)) all (k.get i l));
      }
    where
      kid : (w a b x : ℕ) → T (mem w (children r u)) → ChildAt (get_or (neighbour_table r) u []) (get_or (seen_table r) u []) place degree_limit a b x w → ChildIs r u w a b
      kid w a b x m q =
          let low : w < count r = (child_of_lem r p.ends p.tree u w lu m).0 in
          let few : count r ≤ vertex_limit = p.ends.few in
          let in_row : q.from < degree_limit = q.low in
          let here : q.from < length (neighbours r u) = ⊎_elim (λ l. l) (λ l. let e : get_or (get_or (neighbour_table r) u []) q.from 0 ≡ no_vertex = free_at r K L p u q.from lu l in_row in let n = q.name in absurd (omega arith)) (less? q.from (length (neighbours r u))) in
          let name : w ≡ get_or (neighbours r u) q.from 0 = q.name ∙ neighbour_at r K L p u q.from lu here in
          record {
            child = m;
            edge_is = q.edge_is ∙ seen_at r K L p u q.from lu here ∙ ap (seen r u) (sym name);
            begins = q.begins ∙ place_is r K L p place placed w low;
          }

module _ (f : List ℕ) (K L : ℕ) (p : Passed f K L) (starts : List ℕ) (offsets : (v : ℕ) → v ≤ count f → get_or starts v 0 ≡ offset f v) where
  pub behind_is : (v x b : ℕ) → v < count f → T (mem x (neighbours f v)) → Behind (neighbour_table f) starts v x b → b ≡ offset f x + slot f x v
  unfolding slot place
  behind_is v x b lv m B =
      let q = mem_adjacent f v x m in
      let lx : x < count f = q.0 in
      let few : count f ≤ vertex_limit = p.ends.few in
      let back : T (mem v (neighbours f x)) = adjacent_mem f p.ends x v (adjacent_back f v x q.1) in
      let i = place v (neighbours f x) in
      let low : i < length (neighbours f x) = place_low v (neighbours f x) (mem_occ v (neighbours f x) back) in
      let at : get_or (neighbours f x) i 0 ≡ v = place_at v (neighbours f x) (mem_occ v (neighbours f x) back) in
      let d : length (neighbours f x) ≤ degree_limit = few_neighbours f K L p x lx in
      let A = B.found (omega arith) in
      let le : B.at ≤ i = ⊎_elim (λ l. absurd (A.before i l (neighbour_at f K L p x i lx low ∙ at))) (λ l. l) (less? i B.at) in
      let here : get_or (neighbours f x) B.at 0 ≡ v = sym (neighbour_at f K L p x B.at lx (omega arith)) ∙ A.here (omega arith) in
      let e : place v (neighbours f x) ≡ B.at = place_one v (neighbours f x) B.at (distinct_occ v (neighbours f x) (once_neighbours f x)) (omega arith) here in
      let ne : v ≢ x = λ g. mem_ne x v (neighbours f v) (no_self f p.ends p.tree v lv) m (sym g) in
      let o : get_or starts x 0 ≡ offset f x = offsets x (omega arith) in
      let is : b ≡ get_or starts x 0 + 1 + B.at = B.is (omega arith) in
      rw (ne_eqb v x ne, e) (omega arith)
