-- The tests of a mapping as code does them, against the model's `mapping_ok`. Assumes nothing.
use Rattle.std.specs.Prelude.{◌≡◌, refl, ◌≢◌, Bool, true, false, ◌&&◌, cond, List, ℕ, ◌-◌, ◌≤◌, ◌<◌, length, take, eqb, leb, ℤ}
use Rattle.std.proofs.Common.{sym, ◌∙◌, subst, ⊎_elim, true≢false, arith, length-take-le, get_or-take}
use Rattle.std.proofs.Math.Path.{ap}
use Rattle.std.proofs.Math.Bool.{not}
use borrow.Author.Tests.{eq-eqb, ne_eqb, lt-ltb, le-ltb}
use Rattle.foundations.specs.Lists.{every, every_ext}
use Rattle.foundations.specs.Counting.{cnt, cnt_ext}
use Rattle.foundations.specs.Tests.{same?, is_false, and_split, passed}
use Rattle.model.specs.Limits.{no_vertex, vertex_limit}
use Rattle.model.specs.Weights.{Weight, none, some, weighed, is_forbidden}
use Rattle.model.specs.Table.{edge_labels}
use Rattle.model.specs.Tree.{count}
use Rattle.model.specs.Graph.{edges, joined}
use Rattle.model.specs.Order.{parent}
use Rattle.model.specs.Pairs.{vertex_pair, edge_pair}
use Rattle.model.specs.Mapping.{partner, mapped, allowed, parent_mapped, vertex_ok, edge_ok, is_top, mapping_ok}
use Rattle.trees.specs.Accepted.{Sound}
use Rattle.trees.specs.Directions.{label_seen, EdgeSeen, edge_seen, known_seen, pair_swap}
use Rattle.trees.specs.Neighbours.{Adjacent, adjacent_low, adjacent_back, joined_says, says_joined}
use Rattle.trees.specs.Rooted.{up_edge, parent_low, root_parent}
use Rattle.formats.specs.Inputs.{Accepted}
use Rattle.plan.specs.Plan.{parent_in, parent_edge_in, neighbour_edge_in, Ready}
use Rattle.plan.specs.Numbers.{SlotAt, ready_accepted, ready_recorded}
use Rattle.plan.specs.Pairs.{EdgePair}
use Rattle.mappings.specs.Slots.{slot_some, slot_adjacent, slot_edge}

-- ---- weights

pub allowed_weighed : (z : ℤ) → allowed (weighed z) ≡ not (is_forbidden z)
unfolding allowed weighed
allowed_weighed z = go (is_forbidden z)
  where
    go : (b : Bool) → allowed (cond b none (some z)) ≡ not b
    go true = refl
    go false = refl

pub pair_allowed : (w : Weight) (z : ℤ) (b : Bool) → w ≡ weighed z → b ≡ is_forbidden z → not b ≡ allowed w
pair_allowed w z b e h = ap not h ∙ sym (allowed_weighed z) ∙ ap allowed (sym e)

-- ---- vertices

-- no vertex before u has its partner
unfoldable pub is_new : List ℕ → ℕ → Bool
is_new p u = every (λ x. not (eqb (partner p x) (partner p u))) u

-- v is the partner of u
module _ (table r f p : List ℕ) (u v : ℕ) (e : v ≡ partner p u) where
  pub vertex_free : v ≡ no_vertex → true ≡ vertex_ok table r f p u
  unfolding vertex_ok mapped
  vertex_free q = rw (eq-eqb (partner p u) no_vertex (sym e ∙ q))

  pub vertex_out : v ≢ no_vertex → count f ≤ v → false ≡ vertex_ok table r f p u
  unfolding vertex_ok mapped
  vertex_out n h = rw (ne_eqb (partner p u) no_vertex (λ q. n (e ∙ q)), le-ltb (partner p u) (count f) (omega arith))

  pub vertex_in : (a b : Bool) → v ≢ no_vertex → v < count f → a ≡ is_new p u → b ≡ allowed (vertex_pair table r f u v) → (a && b) ≡ vertex_ok table r f p u
  unfolding vertex_ok mapped is_new
  vertex_in a b n h k g = rw (ne_eqb (partner p u) no_vertex (λ q. n (e ∙ q)), lt-ltb (partner p u) (count f) (omega arith), k, g ∙ ap (λ (x : ℕ). allowed (vertex_pair table r f u x)) e)

-- ---- parents

pub up_low : {s : List ℕ} → Sound s → (u : ℕ) → u < count s → parent s u < count s
up_low {s} S u l =
    let p = S.passed in
    ⊎_elim
    (λ e. let some : 1 ≤ count s = p.ends.some in let z : parent s u ≡ 0 = ap (parent s) e ∙ root_parent s p.ends p.tree in omega arith)
    (λ n. parent_low s p.ends p.tree u l n)
    (same? u 0)

-- a tree whose vertices' parents the plan has
pub record Above (r : List ℕ) (plan : List (List ℕ)) : Type 0 where
  pub sound : Sound r
  pub is : (u : ℕ) → u < count r → parent_in plan u ≡ parent r u

pub above : {table r f : List ℕ} {plan : List (List ℕ)} → Ready table r f plan → Above r plan
above N = record { sound = ready_recorded N; is = λ u l. (N.planned.recorded u l).above }

-- what the code asks of u and its parent w
pub above_low : {r : List ℕ} {plan : List (List ℕ)} → Above r plan → (u w : ℕ) → u < count r → w ≡ parent_in plan u → (u < vertex_limit) × (w < vertex_limit) × (w ≡ parent r u)
above_low {r} P u w l e =
    let few : count r ≤ vertex_limit = P.sound.passed.ends.few in
    let is : w ≡ parent r u = e ∙ P.is u l in
    let low : parent r u < count r = up_low P.sound u l in
    (omega arith, omega arith, is)

-- ---- edges

-- u is a recorded vertex but the root; a and b are to be the partners of its parent and of u
module _ {table r f : List ℕ} {plan : List (List ℕ)} (N : Ready table r f plan) (u a b : ℕ) where
  abbrev A : Accepted table r f
  A = ready_accepted N

  abbrev between? : Bool
  between? = joined f a b && allowed (edge_pair table r f (parent r u) u a b)

  back_says : joined f a b ≡ true → Adjacent f b a
  back_says t = adjacent_back f a b (joined_says f (count f) a b (edges f) t)

  -- an end of no vertex is joined to none
  pub between_out : count f ≤ b → false ≡ between?
  between_out h = rw (is_false (joined f a b) (λ t. let l : b < count f = (adjacent_low f A.found.ends b a (back_says t)).0 in absurd (omega arith)))

  module _ (lb : b < count f) where
    module _ (c : ℕ) (S : SlotAt plan b a c) where
      pub between_none : c < 1 → false ≡ between?
      between_none z = rw (is_false (joined f a b) (λ t. let h : 1 ≤ c = slot_some N lb S (back_says t) in absurd (omega arith)))

      module _ (lu : u < count r) (nu : u ≢ 0) (h : 1 ≤ c) where
        adjacent : Adjacent f b a
        adjacent = slot_adjacent N lb S h

        joined_above : Adjacent r u (parent r u)
        joined_above = up_edge r A.recorded.ends A.recorded.tree u lu nu

        above_seen : EdgeSeen r u (parent r u) (parent_edge_in plan u)
        above_seen = edge_seen r (ready_recorded N) u (parent r u) joined_above (parent_edge_in plan u) ((N.planned.recorded u lu).above_edge nu)

        pub between_known : (label_seen (parent_edge_in plan u) < edge_labels table) × (label_seen (neighbour_edge_in plan b (c - 1)) < edge_labels table)
        between_known = (known_seen A.recorded joined_above above_seen, known_seen A.found adjacent (slot_edge N lb S h))

        pub between_some : (w : ℤ) (t : Bool) → EdgePair table (parent_edge_in plan u) (neighbour_edge_in plan b (c - 1)) w → t ≡ is_forbidden w → not t ≡ between?
        between_some w t E e =
            let p : edge_pair table r f (parent r u) u a b ≡ weighed w = pair_swap table r f (parent r u) u a b ∙ E.is r f u (parent r u) b a above_seen (slot_edge N lb S h) in
            pair_allowed _ w t p e ∙ sym (ap (λ (x : Bool). x && allowed (edge_pair table r f (parent r u) u a b)) (says_joined f (count f) a b (edges f) (adjacent_back f b a adjacent)))

-- the test of u and its parent w: h and a say whether they are mapped
module _ (table r f p : List ℕ) (u w : ℕ) (h a : Bool) (ew : w ≡ parent r u) (eh : h ≡ mapped p u) (ea : a ≡ mapped p w) where
  test_is : (h && (not (eqb u 0) && a)) ≡ (mapped p u && parent_mapped r p u)
  unfolding parent_mapped
  test_is = rw (eh, ea, ew)

  pub edge_off : not (h && (not (eqb u 0) && a)) ≡ true → true ≡ edge_ok table r f p u (parent r u)
  unfolding edge_ok
  edge_off e = rw (ap not (sym test_is) ∙ e)

  pub edge_on : (t : Bool) → not (h && (not (eqb u 0) && a)) ≡ false → t ≡ (joined f (partner p w) (partner p u) && allowed (edge_pair table r f (parent r u) u (partner p w) (partner p u))) → t ≡ edge_ok table r f p u (parent r u)
  unfolding edge_ok
  edge_on t e q = rw (ap not (sym test_is) ∙ e) (subst (λ (x : ℕ). t ≡ (joined f (partner p x) (partner p u) && allowed (edge_pair table r f (parent r u) u (partner p x) (partner p u)))) ew q)

  -- u is not the root
  pub edge_below : not (h && (not (eqb u 0) && a)) ≡ false → u ≢ 0
  edge_below e z =
      let q = and_split h _ (passed (h && (not (eqb u 0) && a)) _ refl e) in
      true≢false (sym (and_split (not (eqb u 0)) a q.1).0 ∙ ap not (eq-eqb u 0 z))

-- ---- tops

pub top_is : (r p : List ℕ) (u w : ℕ) (h a : Bool) → w ≡ parent r u → h ≡ mapped p u → a ≡ mapped p w → (h && not (not (eqb u 0) && a)) ≡ is_top r p u
unfolding is_top parent_mapped
top_is r p u w h a ew eh ea = rw (eh, ea, ew)

-- ---- the whole: the tests see only the first n bytes

module _ (table r f p q : List ℕ) (S : Sound r) (same : (x : ℕ) → x < count r → partner p x ≡ partner q x) where
  mapped_same : (u : ℕ) → u < count r → mapped p u ≡ mapped q u
  unfolding mapped
  mapped_same u l = rw (same u l)

  vertex_same : (u : ℕ) → u < count r → vertex_ok table r f p u ≡ vertex_ok table r f q u
  unfolding vertex_ok
  vertex_same u l = rw (mapped_same u l, same u l, every_ext (λ x. not (eqb (partner p x) (partner q u))) (λ x. not (eqb (partner q x) (partner q u))) u (λ x h. rw (same x (omega arith))))

  edge_same : (u : ℕ) → u < count r → edge_ok table r f p u (parent r u) ≡ edge_ok table r f q u (parent r u)
  unfolding edge_ok parent_mapped
  edge_same u l = let m = up_low S u l in rw (mapped_same u l, same u l, mapped_same (parent r u) m, same (parent r u) m)

  top_same : (u : ℕ) → u < count r → is_top r p u ≡ is_top r q u
  unfolding is_top parent_mapped
  top_same u l = rw (mapped_same u l, mapped_same (parent r u) (up_low S u l))

pub tested : {table r f : List ℕ} {plan : List (List ℕ)} → Ready table r f plan → (m : List ℕ) → count r ≤ length m → (v e : Bool) (k : ℕ) → v ≡ every (vertex_ok table r f m) (count r) → e ≡ every (λ u. edge_ok table r f m u (parent r u)) (count r) → k ≡ cnt (is_top r m) (count r) → (v && (e && leb k 1)) ≡ mapping_ok table r f (take (count r) m)
unfolding mapping_ok
tested {table} {r} {f} N m l v e k ev ee ek =
    let same : (x : ℕ) → x < count r → partner (take (count r) m) x ≡ partner m x = λ x h. get_or-take (count r) m x 0 h in
    let S = ready_recorded N in
    rw (
      eq-eqb (length (take (count r) m)) (count r) (length-take-le (count r) m l),
      every_ext (vertex_ok table r f (take (count r) m)) (vertex_ok table r f m) (count r) (vertex_same table r f (take (count r) m) m S same),
      every_ext (λ u. edge_ok table r f (take (count r) m) u (parent r u)) (λ u. edge_ok table r f m u (parent r u)) (count r) (edge_same table r f (take (count r) m) m S same),
      cnt_ext (is_top r (take (count r) m)) (is_top r m) (count r) (top_same table r f (take (count r) m) m S same),
      ev,
      ee,
      ek,
    )
