-- The values lie between the least weight and the ceiling, or are forbidden with their pair. Assumes nothing.
use Rattle.std.specs.Prelude.{◌≡◌, ◌↔◌, Bool, true, false, ◌||◌, ◌&&◌, cond, List, ℕ, suc, ◌+◌, ◌*◌, ◌-◌, ◌≤◌, ◌<◌, ℤ, negsuc, ◌+ℤ◌, neg_ℤ, ◌≤ℤ◌}
use Rattle.std.proofs.Math.Path.{refl, ap}
use Rattle.std.proofs.Common.{sym, ◌∙◌, subst, arith, le→leb, ne_eqb}
use Rattle.std.proofs.Math.IntN.{pos}
use Rattle.std.specs.Int.Signed.{≤ℤ_refl, le_z, le_z_yes}
use Rattle.foundations.specs.Int.{canon, int, ≤ℤ_trans, +ℤ_mono}
use Rattle.foundations.specs.Members.{del}
use Rattle.foundations.specs.Sums.{size}
use Rattle.foundations.specs.Tests.{true→T, and_split}
use Rattle.model.specs.Bytes.{int32_at}
use Rattle.model.specs.Graph.{neighbours, edge_label}
use Rattle.model.specs.Limits.{weight_limit, forbidden_rank, ceiling, vertex_limit}
use Rattle.model.specs.Mapping.{partner, mapped, IsMapping, weight}
use Rattle.model.specs.Order.{parent, depth, children}
use Rattle.model.specs.Pairs.{apart, directions_agree, vertex_pair, edge_pair}
use Rattle.model.specs.Table.{vertex_row, edge_row, column, vertex_weight, edge_weight}
use Rattle.model.specs.Tree.{count, vertex_label, serial}
use Rattle.model.specs.Values.{best, branch, value_from, Subproblem, value}
use Rattle.model.specs.Weights.{is_forbidden, in_range, weight_ok, Weight, none, some, weighed, plus_w}
use Rattle.trees.specs.Accepted.{vertex_known}
use Rattle.trees.specs.Directions.{label_known}
use Rattle.trees.specs.Neighbours.{Adjacent, adjacent_back, mem_adjacent}
use Rattle.trees.specs.Rooted.{up_edge}
use Rattle.formats.specs.Inputs.{Accepted}
use Rattle.subtrees.specs.Accepted.{recorded_tree, found_tree}
use Rattle.subtrees.proofs.Mappings.{agree_self, problem, to_theory, weight_is}
use Rattle.subtrees.specs.Matching.{best_some, best_nonneg}
use Rattle.subtrees.proofs.Optimal.{rooting, value_solves, value_solved}
use Rattle.subtrees.specs.Problem.{Instance, Choice}
use Rattle.subtrees.proofs.Range.{Small, weight_size, value_high}
use Rattle.subtrees.specs.Trees.{IsTree}
use Rattle.subtrees.specs.WeightLaws.{none≢some, plus_some, some_inj}

-- a weight of the table that is allowed is in range
weighed_range : (z y : ℤ) → weight_ok z ≡ true → weighed z ≡ some y → (neg_ℤ (pos weight_limit) ≤ℤ y) × (y ≤ℤ pos weight_limit)
unfolding weighed weight_ok in_range
weighed_range z y h e = go (is_forbidden z) refl e h
  where
    go : (b : Bool) → is_forbidden z ≡ b → cond b none (some z) ≡ some y → (b || (le_z (neg_ℤ (pos weight_limit)) z && le_z z (pos weight_limit))) ≡ true → (neg_ℤ (pos weight_limit) ≤ℤ y) × (y ≤ℤ pos weight_limit)
    go true q e h = absurd (none≢some y e)
    go false q e h =
        let s = and_split (le_z (neg_ℤ (pos weight_limit)) z) (le_z z (pos weight_limit)) h in
        subst (λ (y : ℤ). (neg_ℤ (pos weight_limit) ≤ℤ y) × (y ≤ℤ pos weight_limit)) (some_inj z y e) (le_z_yes (true→T s.0), le_z_yes (true→T s.1))

-- what is at least the least weight is not the forbidden number
pub not_forbidden : (z : ℤ) → neg_ℤ (pos weight_limit) ≤ℤ z → is_forbidden z ≡ false
unfolding is_forbidden
not_forbidden (pos n) h = refl
not_forbidden (negsuc n) h = ne_eqb n forbidden_rank (λ e. omega int)

pos_le : (a b : ℕ) → a ≤ b → pos a ≤ℤ pos b
pos_le a b h = le_z_yes (le→leb a b h)

-- a number that is given unless it is forbidden
unless_none : (t : Bool) (w : Weight) (z : ℤ) → cond t none w ≡ some z → w ≡ some z
unless_none true w z e = absurd (none≢some z e)
unless_none false w z e = e

if_some : (t : Bool) (w : Weight) (z : ℤ) → cond t w none ≡ some z → w ≡ some z
if_some true w z e = e
if_some false w z e = absurd (none≢some z e)

module _ (table r f : List ℕ) (A : Accepted table r f) where
  abbrev tr : IsTree r
  tr = recorded_tree A

  abbrev tf : IsTree f
  tf = found_tree A

  abbrev P : Instance
  P = problem table r f tr tf

  pub vertex_range : (u v : ℕ) → u < count r → v < count f → (z : ℤ) → vertex_pair table r f u v ≡ some z → (neg_ℤ (pos weight_limit) ≤ℤ z) × (z ≤ℤ pos weight_limit)
  unfolding vertex_pair vertex_weight
  vertex_range u v lu lv z e = weighed_range (int32_at table (column (vertex_row table (vertex_label r u)) (vertex_label f v))) z
      (A.weights.vertex_ok_lem (vertex_label r u) (vertex_label f v) (vertex_known r _ _ u A.recorded lu) (vertex_known f _ _ v A.found lv))
      (unless_none (apart (serial r u) (serial f v)) _ z e)

  pub edge_range : (u c v x : ℕ) → Adjacent r u c → Adjacent f v x → (z : ℤ) → edge_pair table r f u c v x ≡ some z → (neg_ℤ (pos weight_limit) ≤ℤ z) × (z ≤ℤ pos weight_limit)
  unfolding edge_pair edge_weight
  edge_range u c v x a b z e = weighed_range (int32_at table (column (edge_row table (edge_label r u c)) (edge_label f v x))) z
      (A.weights.edge_ok_lem (edge_label r u c) (edge_label f v x) (label_known r _ _ A.recorded u c a) (label_known f _ _ A.found v x b))
      (if_some (directions_agree r f u c v x) _ z e)

  range_size : (z : ℤ) → (neg_ℤ (pos weight_limit) ≤ℤ z) × (z ≤ℤ pos weight_limit) → size z ≤ weight_limit
  range_size z h = omega (int, canon z, h.0, h.1)

  small : Small P weight_limit
  small = record {
    vertex = λ u v lu lv z e. range_size z (vertex_range u v lu lv z e);
    edge = λ c v x lc zc lv t z e. range_size z (edge_range (parent r c) c v x (adjacent_back r c (parent r c) (up_edge r tr.ends tr.loopless c lc zc)) (mem_adjacent f v x t).1 z e);
  }

  value_most : (u v s : ℕ) → Subproblem r f u v s → (z : ℤ) → value table r f u v s ≡ some z → z ≤ℤ pos ceiling
  value_most u v s q z e =
      let one : 1 ≤ count r = tr.ends.some in
      let few : count r ≤ vertex_limit = tr.ends.few in
      ≤ℤ_trans (value_high P (value table r f) (value_solved table r f tr tf) (parent f) (depth f) (rooting table r f tr tf)
      weight_limit (count r - 1) (omega arith) small u v s q.u_low q.v_low (unfold Choice in q.s_in) z e)
      (pos_le (suc (count r - 1) * weight_limit + (count r - 1) * weight_limit) ceiling (omega arith))

  -- the matching adds what is not negative
  value_least : (u v s : ℕ) → Subproblem r f u v s → (z : ℤ) → value table r f u v s ≡ some z → neg_ℤ (pos weight_limit) ≤ℤ z
  unfolding value_from
  value_least u v s q z e =
      let w = branch table r f (value table r f) u v in
      let a = plus_some (vertex_pair table r f u v) (best w (children r u) (del s (neighbours f v))) z (sym (value_solves table r f tr tf u v s q) ∙ e) in
      let least = (vertex_range u v q.u_low q.v_low a.0 a.2).0 in
      let more : pos 0 ≤ℤ a.1 = rw a.3 at (best_nonneg w (children r u) (del s (neighbours f v))) in
      rw a.4 (≤ℤ_trans (≤ℤ_refl (neg_ℤ (pos weight_limit))) (+ℤ_mono least more))

  pub value_range : (u v s : ℕ) → Subproblem r f u v s → (z : ℤ) → value table r f u v s ≡ some z → (neg_ℤ (pos weight_limit) ≤ℤ z) × (z ≤ℤ pos ceiling)
  value_range u v s q z e = (value_least u v s q z e, value_most u v s q z e)

  -- a value is forbidden exactly if its pair is
  pub value_forbidden : (u v s : ℕ) → Subproblem r f u v s → (value table r f u v s ≡ none) ↔ (vertex_pair table r f u v ≡ none)
  unfolding value_from
  value_forbidden u v s q =
      let b = best_some (branch table r f (value table r f) u v) (children r u) (del s (neighbours f v)) in
      let e : value table r f u v s ≡ plus_w (vertex_pair table r f u v) (some b.0) = value_solves table r f tr tf u v s q ∙ ap (plus_w (vertex_pair table r f u v)) b.1 in
      (λ h. plus_none (vertex_pair table r f u v) b.0 (sym e ∙ h), λ h. e ∙ ap (λ (x : Weight). plus_w x (some b.0)) h)
    where
      plus_none : (x : Weight) (z : ℤ) → plus_w x (some z) ≡ none → x ≡ none
      plus_none none z h = refl
      plus_none (some a) z h = absurd (none≢some (a +ℤ z) (sym h))

  -- a mapping's weight fits
  pub weight_in_range : (p : List ℕ) → IsMapping table r f p → (neg_ℤ (pos ceiling) ≤ℤ weight table r f p) × (weight table r f p ≤ℤ pos ceiling)
  weight_in_range p M =
      let one : 1 ≤ count r = tr.ends.some in
      let few : count r ≤ vertex_limit = tr.ends.few in
      let s : size (weight table r f p) ≤ suc (count r - 1) * weight_limit + (count r - 1) * weight_limit
      = rw (weight_is table r f tr tf p (mapped p) (λ u. partner p u) (agree_self (count r) p)) (weight_size P weight_limit (count r - 1) (omega arith) small (mapped p) (λ u. partner p u) (to_theory table r f tr tf p M)) in
      (omega int, omega int)
