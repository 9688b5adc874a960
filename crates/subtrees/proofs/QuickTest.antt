-- The test of a mapping that code can afford, `mapping_ok`, says exactly what the paper says. Assumes nothing.
use Rattle.std.specs.Prelude.{◌≡◌, ◌≢◌, ◌↔◌, ◌&&◌, List, ℕ, ◌<◌, eqb, ltb, length}
use Rattle.std.proofs.Math.Path.{refl, subst}
use Rattle.std.proofs.Common.{sym, true≢false}
use Rattle.std.proofs.Math.Bool.{true, not}
use native.Mathlib.Omega.{arith}
use Rattle.std.proofs.Math.Decide.{dec_lt}
use Rattle.std.proofs.Math.Dec.{T}
use borrow.Author.Tests.{eqb-true, eqb-false, eq-eqb, ne_eqb, ltb-true, lt-ltb, leb-true, le-leb}
use Rattle.foundations.specs.Counting.{cnt}
use Rattle.foundations.specs.Lists.{every, every_at, every_all}
use Rattle.foundations.specs.Tests.{implies, implied}
use Rattle.foundations.specs.Counting.{cnt_few, few_cnt}
use Rattle.foundations.specs.Tests.{not_says, and_split, and_both}
use Rattle.model.specs.Graph.{joined}
use Rattle.model.specs.Limits.{no_vertex}
use Rattle.model.specs.Mapping.{partner, mapped, IsMapping, allowed, parent_mapped, vertex_ok, edge_ok, is_top, mapping_ok}
use Rattle.model.specs.Order.{parent, depth}
use Rattle.model.specs.Pairs.{vertex_pair, edge_pair}
use Rattle.model.specs.Tree.{count}
use Rattle.model.specs.Weights.{Weight, none, some}
use Rattle.subtrees.specs.Connected.{OneTop}
use Rattle.subtrees.proofs.Mappings.{agree_self, problem, to_theory, of_theory}
use Rattle.subtrees.specs.Quick.{mapping_is_quick}
use Rattle.subtrees.proofs.QuickMapping.{quick_is_mapping}
use Rattle.subtrees.specs.Rooted.{inner, top}
use Rattle.subtrees.specs.Trees.{IsTree, joined_mem, mem_joined, found_rooting}
use Rattle.subtrees.specs.WeightLaws.{none≢some}

says_allowed : (x : Weight) → allowed x ≡ true → x ≢ none
unfolding allowed
says_allowed none h e = true≢false (sym h)
says_allowed (some z) h e = none≢some z (sym e)

allowed_says : (x : Weight) → x ≢ none → allowed x ≡ true
unfolding allowed
allowed_says none h = absurd (h refl)
allowed_says (some z) h = refl

module _ (table r f : List ℕ) (tr : IsTree r) (tf : IsTree f) (p : List ℕ) where
  -- ---- what each part of the test says

  record VertexSays (u : ℕ) : Type 0 where
    inside : partner p u < count f
    new : every (λ x. not (eqb (partner p x) (partner p u))) u ≡ true
    allows : vertex_pair table r f u (partner p u) ≢ none

  vertex_says : (u : ℕ) → vertex_ok table r f p u ≡ true → T (mapped p u) → VertexSays u
  unfolding vertex_ok
  vertex_says u h o =
      let a = and_split (ltb (partner p u) (count f)) _ (implies (mapped p u) _ h o) in
      let b = and_split (every (λ x. not (eqb (partner p x) (partner p u))) u) _ a.1 in
      record { inside = ltb-true (partner p u) (count f) a.0; new = b.0; allows = says_allowed _ b.1 }

  says_vertex : (u : ℕ) → (T (mapped p u) → VertexSays u) → vertex_ok table r f p u ≡ true
  unfolding vertex_ok
  says_vertex u h = implied (mapped p u) (ltb (partner p u) (count f) && (every (λ x. not (eqb (partner p x) (partner p u))) u && allowed (vertex_pair table r f u (partner p u))))
      (λ o. let v = h o in and_both _ _ (lt-ltb (partner p u) (count f) v.inside) (and_both _ _ v.new (allowed_says _ v.allows)))

  record EdgeSays (c : ℕ) : Type 0 where
    near : joined f (partner p (parent r c)) (partner p c) ≡ true
    allows : edge_pair table r f (parent r c) c (partner p (parent r c)) (partner p c) ≢ none

  edge_says : (c : ℕ) → edge_ok table r f p c (parent r c) ≡ true → T (inner (parent r) (mapped p) c) → EdgeSays c
  unfolding edge_ok parent_mapped inner
  edge_says c h i =
      let a = and_split (joined f (partner p (parent r c)) (partner p c)) _ (implies (mapped p c && (not (eqb c 0) && mapped p (parent r c))) _ h i) in
      record { near = a.0; allows = says_allowed _ a.1 }

  says_edge : (c : ℕ) → (T (inner (parent r) (mapped p) c) → EdgeSays c) → edge_ok table r f p c (parent r c) ≡ true
  unfolding edge_ok parent_mapped inner
  says_edge c h = implied (mapped p c && (not (eqb c 0) && mapped p (parent r c))) (joined f (partner p (parent r c)) (partner p c) && allowed (edge_pair table r f (parent r c) c (partner p (parent r c)) (partner p c)))
      (λ i. let e = h i in and_both _ _ e.near (allowed_says _ e.allows))

  tops : cnt (is_top r p) (count r) ≡ cnt (top (parent r) (mapped p)) (count r)
  unfolding is_top parent_mapped top
  tops = refl

  -- ---- from the test to the mapping

  module _ (v : (u : ℕ) → u < count r → T (mapped p u) → VertexSays u) where
    earlier : (x u : ℕ) → x < u → u < count r → T (mapped p u) → partner p x ≢ partner p u
    earlier x u m l o = eqb-false (partner p x) (partner p u) (not_says _ (every_at (λ x. not (eqb (partner p x) (partner p u))) x u (v u l o).new m))

    apart : (u x : ℕ) → u < count r → x < count r → T (mapped p u) → T (mapped p x) → partner p u ≡ partner p x → u ≡ x
    apart u x l k o q e = choose (dec_lt u x) (dec_lt x u)
      where
        choose : Dec (u < x) → Dec (x < u) → u ≡ x
        choose (yes m) d = absurd (earlier u x m k q e)
        choose (no m) (yes d) = absurd (earlier x u d l o (sym e))
        choose (no m) (no d) = omega arith

  ok_mapping : mapping_ok table r f p ≡ true → IsMapping table r f p
  unfolding mapping_ok OneTop
  ok_mapping h =
      let a = and_split (eqb (length p) (count r)) _ h in
      let b = and_split (every (vertex_ok table r f p) (count r)) _ a.1 in
      let c = and_split (every (λ u. edge_ok table r f p u (parent r u)) (count r)) _ b.1 in
      let v : (u : ℕ) → u < count r → T (mapped p u) → VertexSays u = λ u l o. vertex_says u (every_at (vertex_ok table r f p) u (count r) b.0 l) o in
      let e : (u : ℕ) → u < count r → T (inner (parent r) (mapped p) u) → EdgeSays u = λ u l i. edge_says u (every_at (λ u. edge_ok table r f p u (parent r u)) u (count r) c.0 l) i in
      of_theory table r f tr tf p (mapped p) (λ u. partner p u) (agree_self (count r) p) (eqb-true (length p) (count r) a.0)
      (quick_is_mapping (problem table r f tr tf) (parent f) (depth f) (found_rooting r f tr tf (vertex_pair table r f) (edge_pair table r f)) (mapped p) (λ u. partner p u) (record {
        inside = λ u l o. (v u l o).inside;
        apart = apart v;
        near = λ u l i. joined_mem f tf (partner p (parent r u)) (partner p u) (e u l i).near;
        vertices = λ u l o. (v u l o).allows;
        edges = λ u l i. (e u l i).allows;
        one = few_cnt (top (parent r) (mapped p)) (count r) (rw tops at (leb-true (cnt (is_top r p) (count r)) 1 c.1));
      }))

  -- ---- and back

  mapping_ok_lem : IsMapping table r f p → mapping_ok table r f p ≡ true
  unfolding mapping_ok OneTop
  mapping_ok_lem M =
      let Q = mapping_is_quick (problem table r f tr tf) (mapped p) (λ u. partner p u) (to_theory table r f tr tf p M) in
      and_both (eqb (length p) (count r)) _ (eq-eqb (length p) (count r) M.long)
      (and_both (every (vertex_ok table r f p) (count r)) _ (every_all (vertex_ok table r f p) (count r)
      (λ u l. says_vertex u (λ o. record { inside = M.inside u (l, o); new = every_all _ u (λ x m. other u x l o m); allows = M.vertex_allowed u (l, o) })))
      (and_both (every (λ u. edge_ok table r f p u (parent r u)) (count r)) _ (every_all (λ u. edge_ok table r f p u (parent r u)) (count r)
      (λ u l. says_edge u (λ i. record { near = (mem_joined f tf (partner p (parent r u)) (partner p u) (Q.near u l i)).1; allows = Q.edges u l i })))
      (le-leb (cnt (is_top r p) (count r)) 1 (rw tops (cnt_few (top (parent r) (mapped p)) (count r) Q.one)))))
    where
      other : (u x : ℕ) → u < count r → T (mapped p u) → x < u → not (eqb (partner p x) (partner p u)) ≡ true
      other u x l o m = rw (ne_eqb (partner p x) (partner p u) (λ e. off (M.different x u (omega arith, on_too e) (l, o) e)))
        where
          off : x ≡ u → ⊥
          off q = omega arith

          on_too : partner p x ≡ partner p u → T (mapped p x)
          on_too e = unfold mapped in subst (λ (z : ℕ). T (not (eqb z no_vertex))) (sym e) o

  pub quick_test : (mapping_ok table r f p ≡ true) ↔ IsMapping table r f p
  quick_test = (ok_mapping, mapping_ok_lem)
