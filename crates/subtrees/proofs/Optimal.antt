-- For two trees that pass: values that bound give a bound on every mapping, the paper's values are such, and some mapping attains them.
-- Assumes nothing.
use Rattle.std.specs.Prelude.{◌≡◌, refl, ◌≢◌, ◌↔◌, Bool, true, false, not, List, ℕ, ◌-◌, ◌≤◌, ◌<◌, ℤ, pos, T, eqb, ◌≤ℤ◌, get_or, replicate}
use Rattle.std.proofs.Common.{sym, ◌∙◌, subst, ne_eqb}
use Rattle.std.proofs.Math.Path.{ap}
use Rattle.std.proofs.Math.Bool.{cond}
use native.Mathlib.Omega.{arith}
use Rattle.std.proofs.lemmas.List.{length-replicate, get_or-replicate}
use Rattle.foundations.specs.Int.{≤ℤ_antisym}
use Rattle.foundations.specs.Lists.{tab, length_tab, get_d_tab, below}
use Rattle.foundations.specs.Tests.{T→true}
use Rattle.model.specs.Duals.{AllCover}
use Rattle.model.specs.Limits.{vertex_limit, no_vertex}
use Rattle.model.specs.Mapping.{partner, mapped, IsMapping, num, weight, Heaviest}
use Rattle.model.specs.Order.{parent, depth}
use Rattle.model.specs.Pairs.{vertex_pair, edge_pair}
use Rattle.model.specs.Tree.{count}
use Rattle.model.specs.Values.{greatest, value_from, Solves, value_to, value, largest, answer}
use Rattle.model.specs.Weights.{Weight, none, some, ◌⊑◌}
use Rattle.trees.specs.Rooted.{depth_count}
use Rattle.subtrees.proofs.Bound.{solved_bounding}
use Rattle.subtrees.specs.Duals.{duals_bounding}
use Rattle.subtrees.proofs.Largest.{largest_w, largest_bounds, empty, empty_weight, largest_attained}
use Rattle.subtrees.proofs.Mappings.{Agree, agree_self, problem, to_theory, of_theory, weight_is}
use Rattle.subtrees.specs.Problem.{Instance, Mapping, weight_of, Choice, Solved, Bounding}
use Rattle.subtrees.specs.Quick.{FoundRooting}
use Rattle.subtrees.specs.Recursion.{run_solved}
use Rattle.subtrees.specs.Trees.{IsTree, falls, tree_is_rooted, found_rooting}
use Rattle.subtrees.specs.WeightLaws.{above_some, some_inj, greatest_default}

-- ---- bytes for `on` and `to`

unfoldable pub bytes_of : ℕ → (ℕ → Bool) → (ℕ → ℕ) → List ℕ
bytes_of n on to = tab (λ u. cond (on u) (to u) no_vertex) n

pub bytes_agree : (n : ℕ) (on : ℕ → Bool) (to : ℕ → ℕ) → ((u : ℕ) → u < n → T (on u) → to u ≢ no_vertex) → Agree n (bytes_of n on to) on to
unfolding bytes_of mapped
bytes_agree n on to h = record {
  on_is = λ u l. ap (λ (z : ℕ). not (eqb z no_vertex)) (at u l) ∙ go u (on u) (h u l);
  to_is = λ u l o. at u l ∙ ap (λ (b : Bool). cond b (to u) no_vertex) (T→true (on u) o);
}
  where
    at : (u : ℕ) → u < n → get_or (tab (λ u. cond (on u) (to u) no_vertex) n) u 0 ≡ cond (on u) (to u) no_vertex
    at u l = get_d_tab (λ u. cond (on u) (to u) no_vertex) n u 0 l

    go : (u : ℕ) (b : Bool) → (T b → to u ≢ no_vertex) → not (eqb (cond b (to u) no_vertex) no_vertex) ≡ b
    go u true k = rw (ne_eqb (to u) no_vertex (k tt))
    go u false k = refl

pub none_agree : (n : ℕ) → Agree n (replicate n no_vertex) (λ u. false) (λ u. 0)
unfolding mapped
none_agree n = record { on_is = λ u l. ap (λ (z : ℕ). not (eqb z no_vertex)) (get_or-replicate n u no_vertex 0 l); to_is = λ u l o. absurd o }

-- a mapping that weighs z
pub record Weighing (table r f : List ℕ) (z : ℤ) : Type 0 where
  pub bytes : List ℕ
  pub mapping : IsMapping table r f bytes
  pub weighs : weight table r f bytes ≡ z

module _ (table r f : List ℕ) (tr : IsTree r) (tf : IsTree f) where
  abbrev P : Instance
  P = problem table r f tr tf

  pub rooting : FoundRooting P (parent f) (depth f)
  rooting = found_rooting r f tr tf (vertex_pair table r f) (edge_pair table r f)

  -- a found vertex is not `no_vertex`
  pub no_no_vertex : (v : ℕ) → v < count f → v ≢ no_vertex
  no_no_vertex v l e = let few : count f ≤ vertex_limit = tf.ends.few in omega arith

  -- ---- the paper's values solve the theory's subproblems

  -- values that solve the paper's subproblems
  pub solves_solved : (val : ℕ → ℕ → ℕ → Weight) → Solves table r f val → Solved P val
  unfolding Choice value_from
  solves_solved val h = record { is = λ u v s lu lv t. h u v s (record { u_low = lu; v_low = lv; s_in = t }) }

  pub value_solves : Solves table r f (value table r f)
  unfolding value value_to value_from Choice
  value_solves u v s q =
      (run_solved P (value_to table r f) (λ k u v s. refl) (λ u. count r - 1 - depth r u)
      (λ u c l m. let k = (tree_is_rooted r tr).child u c l m in lower u c (falls r tr c k.0 k.1).1 (ap (depth r) k.2) (depth_count r tr.ends tr.loopless c k.0))
      vertex_limit (λ u l. let few : count r ≤ vertex_limit = tr.ends.few in omega arith)).is u v s q.u_low q.v_low q.s_in
    where
      lower : (u c : ℕ) → depth r (parent r c) < depth r c → depth r (parent r c) ≡ depth r u → depth r c < count r → count r - 1 - depth r c < count r - 1 - depth r u
      lower u c a e b = omega arith

  pub value_solved : Solved P (value table r f)
  value_solved = solves_solved (value table r f) value_solves

  -- ---- the bound

  largest_is : (val : ℕ → ℕ → ℕ → Weight) → largest_w P val ≡ some (largest r f val)
  unfolding largest largest_w num
  largest_is val =
      let q = above_some (pos 0) (largest_w P val) (greatest_default (below (λ u. true) (count r)) (λ u. greatest (below (λ v. true) (count f)) (λ v. val u v v) none) (some (pos 0))) in
      q.1 ∙ ap some (sym (ap num q.1))

  pub bounding_bounds : (val : ℕ → ℕ → ℕ → Weight) → Bounding P val → (p : List ℕ) → IsMapping table r f p → weight table r f p ≤ℤ largest r f val
  bounding_bounds val B p M =
      let a : some (weight_of P (mapped p) (λ u. partner p u)) ⊑ some (largest r f val) = rw (largest_is val) at (largest_bounds P val B (mapped p) (λ u. partner p u) (to_theory table r f tr tf p M)) in
      rw (weight_is table r f tr tf p (mapped p) (λ u. partner p u) (agree_self (count r) p)) a

  pub solves_bounds : (val : ℕ → ℕ → ℕ → Weight) → Solves table r f val → (p : List ℕ) → IsMapping table r f p → weight table r f p ≤ℤ largest r f val
  solves_bounds val h = bounding_bounds val (solved_bounding P val (solves_solved val h))

  -- ---- and a mapping that attains it

  -- a mapping of the theory as bytes
  pub bytes_of_lem : (on : ℕ → Bool) (to : ℕ → ℕ) → Mapping P on to → Weighing table r f (weight_of P on to)
  unfolding bytes_of
  bytes_of_lem on to M =
      let G = bytes_agree (count r) on to (λ u l o. no_no_vertex (to u) (M.inside u l o)) in
      record {
        bytes = bytes_of (count r) on to;
        mapping = of_theory table r f tr tf (bytes_of (count r) on to) on to G (length_tab (λ u. cond (on u) (to u) no_vertex) (count r)) M;
        weighs = weight_is table r f tr tf (bytes_of (count r) on to) on to G;
      }

  pub solves_attained : (val : ℕ → ℕ → ℕ → Weight) → Solves table r f val → Weighing table r f (largest r f val)
  solves_attained val h =
      let a = largest_attained P val (solves_solved val h) (parent f) (depth f) rooting in
      subst (Weighing table r f) (some_inj _ _ (sym a.3 ∙ largest_is val)) (bytes_of_lem a.0 a.1 a.2)

  pub solves_heaviest : (val : ℕ → ℕ → ℕ → Weight) → Solves table r f val → (p : List ℕ) → Heaviest table r f p ↔ (IsMapping table r f p × (weight table r f p ≡ largest r f val))
  solves_heaviest val h p =
      let a = solves_attained val h in (
        λ H. (H.mapping, ≤ℤ_antisym (solves_bounds val h p H.mapping) (rw a.weighs at (H.most a.bytes a.mapping))),
        λ q. record { mapping = q.0; most = λ b N. rw q.1 (solves_bounds val h b N) },
      )

  -- all values that solve have one largest
  pub solves_largest : (val : ℕ → ℕ → ℕ → Weight) → Solves table r f val → largest r f val ≡ answer table r f
  unfolding answer
  solves_largest val h =
      let a = solves_attained val h in
      let b = solves_attained (value table r f) value_solves in
      ≤ℤ_antisym
      (rw a.weighs at (solves_bounds (value table r f) value_solves a.bytes a.mapping))
      (rw b.weighs at (solves_bounds val h b.bytes b.mapping))

  -- ---- the empty mapping

  pub empty_is_mapping : IsMapping table r f (replicate (count r) no_vertex)
  empty_is_mapping = of_theory table r f tr tf (replicate (count r) no_vertex) (λ u. false) (λ u. 0) (none_agree (count r)) (length-replicate (count r) no_vertex) (empty P)

  pub empty_weighs : weight table r f (replicate (count r) no_vertex) ≡ pos 0
  empty_weighs = weight_is table r f tr tf (replicate (count r) no_vertex) (λ u. false) (λ u. 0) (none_agree (count r)) ∙ empty_weight P

  -- ---- duals that cover

  pub covered_bounding : (val : ℕ → ℕ → ℕ → Weight) → AllCover table r f val → Bounding P val
  unfolding Choice
  covered_bounding val C = duals_bounding P val (λ u v s lu lv t w e.
      let c = C u v s (record { u_low = lu; v_low = lv; s_in = t }) w e in
      record { child_dual = c.child_dual; neighbour_dual = c.neighbour_dual; child_nonneg = c.child_nonneg; neighbour_nonneg = c.neighbour_nonneg; cover = c.cover; sum = c.sum })
