-- Directed edges (paper 02, [6]): an edge seen from one of its ends, label and direction in one number, which is what stands in the neighbours' places;
-- what two such numbers say of a pair of edges; a pair of edges weighs the same from its other ends. Assumes nothing.
use Rattle.std.specs.Prelude.{◌≡◌, refl, List, [], ◌≢◌, Bool, true, false, ◌&&◌, ◌||◌, not, cond, ℕ, zero, suc, ◌+◌, ◌-◌, ◌/◌, ◌%◌, ◌≤◌, ◌<◌, length, get_or, replicate, eqb, leb}
use Rattle.std.proofs.Math.Path.{sym}
use Rattle.std.proofs.Common.{ap, ◌∙◌, inl, inr, arith, eq-eqb, ne_eqb, leb-true, leb-false, le-leb}
use Rattle.std.proofs.Math.ListN.{get_or-append}
use Rattle.std.proofs.lemmas.Bool.{lt-leb}
use Rattle.foundations.specs.Tests.{and_comm, or_comm, eqb_same}
use Rattle.foundations.specs.Lists.{tab, get_d_tab, places_fit}
use Rattle.foundations.specs.Members.{get_d_mem}
use Rattle.model.specs.Edges.{Joins, component}
use Rattle.model.specs.Limits.{edge_label_limit, directed_from, vertex_limit, degree_limit, no_vertex}
use Rattle.model.specs.Tree.{count, end_a, end_b, edge_label_at, acyclic}
use Rattle.model.specs.Graph.{edges, joins, neighbours, edge_before, edge_of, edge_label, directed, upstream, in_places}
use Rattle.model.specs.Pairs.{same_direction, directions_agree, edge_pair}
use Rattle.trees.specs.Accepted.{Passed, Sound, acyclic_fresh, edge_known}
use Rattle.trees.specs.Neighbours.{Adjacent, edge_joins, edge_is, few_neighbours, mem_adjacent}

-- ---- an edge is the same from both ends, and a pair of edges weighs the same

joins_swap : (a b v w : ℕ) → joins a b v w ≡ joins a b w v
unfolding joins
joins_swap a b v w = or_comm (eqb a v && eqb b w) (eqb b v && eqb a w) ∙ ap (λ (t : Bool). t || (eqb a v && eqb b w)) (and_comm (eqb b v) (eqb a w)) ∙ ap (λ (t : Bool). (eqb a w && eqb b v) || t) (and_comm (eqb a v) (eqb b w))

edge_swap : (s : List ℕ) (n v w k : ℕ) → edge_before s n v w k ≡ edge_before s n w v k
unfolding edge_before
edge_swap s n v w zero = refl
edge_swap s n v w (suc k) = rw (joins_swap (end_a s n k) (end_b s n k) v w, edge_swap s n v w k)

label_swap : (s : List ℕ) (v w : ℕ) → edge_label s v w ≡ edge_label s w v
unfolding edge_label
label_swap s v w = rw (edge_swap s (count s) v w (edges s))

-- whatever the numbers, joined or not
pub agree_swap : (r f : List ℕ) (u u' v v' : ℕ) → directions_agree r f u u' v v' ≡ directions_agree r f u' u v' v
unfolding directions_agree same_direction
agree_swap r f u u' v v' = rw (label_swap r u u', label_swap f v v', or_comm (upstream r u u' && upstream f v v') (upstream r u' u && upstream f v' v))

pub pair_swap : (table r f : List ℕ) (u u' v v' : ℕ) → edge_pair table r f u u' v v' ≡ edge_pair table r f u' u v' v
unfolding edge_pair
pair_swap table r f u u' v v' = rw (agree_swap r f u u' v v', label_swap r u u', label_swap f v v')

-- ---- seen from an end

-- an edge with label l seen from its second end: a directed one is a number that is no label
unfoldable pub from_second : ℕ → ℕ
from_second l = cond (directed l) (l + edge_label_limit) l

pub second_plain : (l : ℕ) → l < directed_from → from_second l ≡ l
unfolding from_second directed
second_plain l h = rw (lt-leb directed_from l h)

pub second_directed : (l : ℕ) → directed_from ≤ l → from_second l ≡ l + edge_label_limit
unfolding from_second directed
second_directed l h = rw (le-leb directed_from l h)

-- the edge that joins v and w, seen from v: its label, and where it is directed also which of its ends v is
unfoldable pub seen : List ℕ → ℕ → ℕ → ℕ
seen s v w = cond (upstream s v w) (edge_label s v w) (from_second (edge_label s v w))

-- in the neighbours' places the edge to that neighbour, and 255 in a free place
unfoldable pub seen_in_place : List ℕ → ℕ → ℕ → ℕ
seen_in_place s v w = cond (eqb w no_vertex) no_vertex (seen s v w)

unfoldable pub seen_table : List ℕ → List (List ℕ)
seen_table s = tab (λ v. tab (λ i. seen_in_place s v (get_or (in_places (neighbours s v)) i 0)) degree_limit) vertex_limit

-- what such a number tells: the label, and which way the edge runs: 0 for none, 1 from here, 3 to here
abbrev pub label_seen : ℕ → ℕ
label_seen c = c % edge_label_limit

abbrev pub way_seen : ℕ → ℕ
way_seen c = c / directed_from

label_first : (l : ℕ) → l < edge_label_limit → label_seen l ≡ l
label_first l h = omega arith

label_second : (l : ℕ) → l < edge_label_limit → label_seen (l + edge_label_limit) ≡ l
label_second l h = omega arith

seen_label : (l : ℕ) → l < edge_label_limit → (first : Bool) → label_seen (cond first l (from_second l)) ≡ l
unfolding from_second
seen_label l h true = label_first l h
seen_label l h false = go (directed l)
  where
    go : (d : Bool) → label_seen (cond d (l + edge_label_limit) l) ≡ l
    go true = label_second l h
    go false = label_first l h

abbrev way_of : Bool → Bool → ℕ
way_of d first = cond d (cond first 1 3) 0

seen_way : (l : ℕ) → l < edge_label_limit → (first : Bool) → way_seen (cond first l (from_second l)) ≡ way_of (directed l) first
unfolding from_second directed
seen_way l h first = go (leb directed_from l) refl first
  where
    none : l < directed_from → way_seen l ≡ 0
    none a = omega arith

    go : (d : Bool) → leb directed_from l ≡ d → (first : Bool) → way_seen (cond first l (cond d (l + edge_label_limit) l)) ≡ way_of d first
    go true e true = let a = leb-true directed_from l e in let g : way_seen l ≡ 1 = omega arith in g
    go true e false = let a = leb-true directed_from l e in let g : way_seen (l + edge_label_limit) ≡ 3 = omega arith in g
    go false e true = none (leb-false directed_from l e)
    go false e false = none (leb-false directed_from l e)

-- two directed edges run the same way, or neither is directed
ways_agree : (d e p q : Bool) → eqb (way_of d p) (way_of e q) ≡ cond d (e && ((p && q) || (not p && not q))) (not e)
ways_agree true true true true = refl
ways_agree true true true false = refl
ways_agree true true false true = refl
ways_agree true true false false = refl
ways_agree true false true q = refl
ways_agree true false false q = refl
ways_agree false true p true = refl
ways_agree false true p false = refl
ways_agree false false p q = refl

-- ---- an edge of an accepted tree

-- c is what is seen from v of the edge that joins v and w
pub record EdgeSeen (s : List ℕ) (v w c : ℕ) : Type 0 where
  pub is : c ≡ seen s v w
  pub label : edge_label s v w < edge_label_limit
  pub other : upstream s w v ≡ not (upstream s v w)

module _ {s : List ℕ} {v w c : ℕ} (e : EdgeSeen s v w c) where
  pub label_seen_lem : label_seen c ≡ edge_label s v w
  unfolding seen
  label_seen_lem = rw e.is (seen_label (edge_label s v w) e.label (upstream s v w))

  way_seen_lem : way_seen c ≡ way_of (directed (edge_label s v w)) (upstream s v w)
  unfolding seen
  way_seen_lem = rw e.is (seen_way (edge_label s v w) e.label (upstream s v w))

-- the two numbers of a pair of edges tell whether their directions agree
pub agree_seen : (r f : List ℕ) (u u' v v' i j : ℕ) → EdgeSeen r u u' i → EdgeSeen f v v' j → directions_agree r f u u' v v' ≡ eqb (way_seen i) (way_seen j)
unfolding directions_agree same_direction
agree_seen r f u u' v v' i j a b = rw (a.other, b.other, way_seen_lem a, way_seen_lem b) (sym (ways_agree (directed (edge_label r u u')) (directed (edge_label f v v')) (upstream r u u') (upstream f v v')))

-- its label is one of the table's
pub label_known : (s : List ℕ) (K L : ℕ) → Passed s K L → (v w : ℕ) → Adjacent s v w → edge_label s v w < L
unfolding edge_label
label_known s K L p v w a = edge_known s K L (edge_of s v w) p (edge_joins s v w a).0

pub known_seen : {s : List ℕ} {K L v w c : ℕ} → Passed s K L → Adjacent s v w → EdgeSeen s v w c → label_seen c < L
known_seen p a e = rw (label_seen_lem e) (label_known _ _ _ p _ _ a)

-- one end of the edge of two neighbours is upstream, and not the other
module _ (s : List ℕ) (S : Sound s) (v w : ℕ) (a : Adjacent s v w) where
  pub one_upstream : upstream s w v ≡ not (upstream s v w)
  unfolding upstream
  one_upstream = rw (edge_swap s (count s) w v (edges s)) (go (edge_joins s v w a).1)
    where
      apart : v ≢ w
      apart e = acyclic_fresh s (count s) S.passed.tree (edge_of s v w) (edge_joins s v w a).0 (ap (component (end_a s (count s)) (end_b s (count s)) (edge_of s v w)) (same e (edge_joins s v w a).1))
        where
          same : v ≡ w → Joins (end_a s (count s)) (end_b s (count s)) (edge_of s v w) v w → end_a s (count s) (edge_of s v w) ≡ end_b s (count s) (edge_of s v w)
          same e (inl q) = q.0 ∙ e ∙ sym q.1
          same e (inr q) = q.0 ∙ sym e ∙ sym q.1

      go : Joins (end_a s (count s)) (end_b s (count s)) (edge_of s v w) v w → eqb (end_a s (count s) (edge_of s v w)) w ≡ not (eqb (end_a s (count s) (edge_of s v w)) v)
      go (inl q) = rw (eq-eqb _ v q.0, ne_eqb _ w (λ e. apart (sym q.0 ∙ e)))
      go (inr q) = rw (eq-eqb _ w q.0, ne_eqb _ v (λ e. apart (sym e ∙ q.0)))

  pub edge_seen : (c : ℕ) → c ≡ seen s v w → EdgeSeen s v w c
  edge_seen c e = record { is = e; label = omega (arith, label_known s _ _ S.passed v w a, S.few_labels); other = one_upstream }

-- from the end written first it is the label
pub seen_first : (s : List ℕ) → acyclic s (count s) ≡ true → (j : ℕ) → j < edges s → seen s (end_a s (count s) j) (end_b s (count s) j) ≡ edge_label_at s (count s) j
unfolding seen upstream edge_label
seen_first s t j l = rw (edge_is s t j (end_a s (count s) j) (end_b s (count s) j) l (inl (refl, refl)), eqb_same (end_a s (count s) j))

-- ---- in the neighbours' places

pub seen_at : (s : List ℕ) (K L : ℕ) → Passed s K L → (v i : ℕ) → v < count s → i < length (neighbours s v) → get_or (get_or (seen_table s) v []) i 0 ≡ seen s v (get_or (neighbours s v) i 0)
unfolding seen_table seen_in_place
seen_at s K L p v i lv l =
    let few : length (neighbours s v) ≤ degree_limit = few_neighbours s K L p v lv in
    let f : count s ≤ vertex_limit = p.ends.few in
    let w : get_or (in_places (neighbours s v)) i 0 ≡ get_or (neighbours s v) i 0 = rw (places_fit degree_limit no_vertex (neighbours s v) few) (get_or-append (neighbours s v) (replicate (degree_limit - length (neighbours s v)) no_vertex) 0 i l) in
    let m : get_or (neighbours s v) i 0 < count s = (mem_adjacent s v (get_or (neighbours s v) i 0) (get_d_mem (neighbours s v) i l)).0 in
    ap (λ (y : List ℕ). get_or y i 0) (get_d_tab (λ x. tab (λ k. seen_in_place s x (get_or (in_places (neighbours s x)) k 0)) degree_limit) vertex_limit v [] (omega arith))
    ∙ get_d_tab (λ k. seen_in_place s v (get_or (in_places (neighbours s v)) k 0)) degree_limit i 0 (omega arith)
    ∙ ap (λ (y : ℕ). seen_in_place s v y) w
    ∙ rw (ne_eqb (get_or (neighbours s v) i 0) no_vertex (λ e. off m e))
  where
    off : {x : ℕ} → x < count s → x ≡ no_vertex → ⊥
    off l e = let f : count s ≤ vertex_limit = p.ends.few in omega arith
