-- A certificate that passes the check shows a heaviest mapping and its weight: for all bytes. Assumes nothing.
use Rattle.std.specs.Prelude.{◌≡◌, refl, List, ℕ, ◌<◌, T, get_or, ℤ, neg_ℤ, ◌+ℤ◌, ◌≤ℤ◌}
use Rattle.std.proofs.Common.{sym, ◌∙◌}
use Rattle.std.proofs.Math.Path.{ap}
use Rattle.std.proofs.Math.Bool.{true}
use Rattle.std.proofs.Math.ListN.{length}
use Rattle.std.proofs.Math.IntN.{pos}
use Rattle.std.specs.Int.Signed.{≤ℤ_refl, le_z, le_z_yes}
use Rattle.foundations.specs.Int.{≤ℤ_trans, +ℤ_mono}
use Rattle.foundations.specs.Lists.{every, every_at}
use Rattle.foundations.specs.Members.{mem, distinct_del, mem_occ, place, place_low, place_at, lsum_place}
use Rattle.foundations.specs.Sums.{sumℤ, sumℤ_nonneg, lsum}
use Rattle.foundations.specs.Tests.{true→T, and_split}
use Rattle.model.specs.Certificate.{others, weight_in, mapping_in, value_in, child_dual, other_dual, value_of, cover_ok, duals_ok, pair_ok, subproblem_ok, check_of}
use Rattle.model.specs.Duals.{Covers, AllCover}
use Rattle.model.specs.Graph.{neighbours}
use Rattle.model.specs.Limits.{weight_limit}
use Rattle.model.specs.Mapping.{weight, Heaviest}
use Rattle.model.specs.Order.{children, subproblems, index, u_at, v_at, s_at}
use Rattle.model.specs.Pairs.{vertex_pair}
use Rattle.model.specs.Values.{branch}
use Rattle.model.specs.Weights.{some, weighed}
use Rattle.trees.specs.Neighbours.{once_neighbours}
use Rattle.trees.specs.Positions.{Sub, index_once}
use Rattle.trees.specs.Rooted.{once_children}
use Rattle.formats.specs.Inputs.{Accepted, input_accepted}
use Rattle.subtrees.specs.Accepted.{recorded_tree, found_tree}
use Rattle.subtrees.proofs.Filling.{sub_here, index_low_at}
use Rattle.subtrees.proofs.Theorems.{quick_mapping, covered_heaviest}
use Rattle.subtrees.proofs.ValueRange.{vertex_range}
use Rattle.certificate.specs.Items.{check_passed}
use Rattle.certificate.specs.Rules.{eq_z_says, at_most_says, weighed_some}

module _ (table r f z : List ℕ) where
  -- the duals of record k by child and by neighbour
  abbrev dual_of : ℕ → ℕ → ℕ → ℤ
  dual_of k u c = child_dual r f z k (place c (children r u))

  abbrev dual_across : ℕ → ℕ → ℕ → ℕ → ℤ
  dual_across k v s x = other_dual r f z k (place x (others f v s))

  sums_at : (k u v s : ℕ) → lsum (children r u) (dual_of k u) +ℤ lsum (others f v s) (dual_across k v s) ≡ sumℤ (length (children r u)) (child_dual r f z k) +ℤ sumℤ (length (others f v s)) (other_dual r f z k)
  sums_at k u v s =
      ap (λ (y : ℤ). y +ℤ lsum (others f v s) (dual_across k v s)) (lsum_place (children r u) (child_dual r f z k) (once_children r u))
      ∙ ap (λ (y : ℤ). sumℤ (length (children r u)) (child_dual r f z k) +ℤ y) (lsum_place (others f v s) (other_dual r f z k) (distinct_del s (neighbours f v) (once_neighbours f v)))

  cover_at : (k u v s : ℕ) → every (λ i. every (cover_ok table r f z k u v s i) (length (others f v s))) (length (children r u)) ≡ true →
      (c x : ℕ) → T (mem c (children r u)) → T (mem x (others f v s)) → (y : ℤ) → branch table r f (value_of r f z) u v c x ≡ some y → y ≤ℤ (dual_of k u c +ℤ dual_across k v s x)
  unfolding cover_ok
  cover_at k u v s h c x tc tx y q =
      let i = place c (children r u) in
      let j = place x (others f v s) in
      let oc = mem_occ c (children r u) tc in
      let ox = mem_occ x (others f v s) tx in
      let row = every_at (λ i. every (cover_ok table r f z k u v s i) (length (others f v s))) i (length (children r u)) h (place_low c (children r u) oc) in
      let one = every_at (cover_ok table r f z k u v s i) j (length (others f v s)) row (place_low x (others f v s) ox) in
      at_most_says (branch table r f (value_of r f z) u v (get_or (children r u) i 0) (get_or (others f v s) j 0)) y (child_dual r f z k i +ℤ other_dual r f z k j) one
      (ap (λ (d : ℕ). branch table r f (value_of r f z) u v d (get_or (others f v s) j 0)) (place_at c (children r u) oc) ∙ ap (λ (y : ℕ). branch table r f (value_of r f z) u v c y) (place_at x (others f v s) ox) ∙ q)

  module _ (A : Accepted table r f) where
    -- one record
    covers : (k u v s : ℕ) → Sub r f k u v s → (w : ℤ) → vertex_pair table r f u v ≡ some w → duals_ok table r f z k u v s w ≡ true → Covers table r f (value_of r f z) u v s w
    unfolding duals_ok value_of
    covers k u v s S w e h =
        let a = and_split (every (λ i. le_z (pos 0) (child_dual r f z k i)) (length (children r u))) _ h in
        let b = and_split (every (λ j. le_z (pos 0) (other_dual r f z k j)) (length (others f v s))) _ a.1 in
        let d = and_split (every (λ i. every (cover_ok table r f z k u v s i) (length (others f v s))) (length (children r u))) _ b.1 in
        let an : (i : ℕ) → i < length (children r u) → pos 0 ≤ℤ child_dual r f z k i = λ i l. le_z_yes (true→T (every_at (λ i. le_z (pos 0) (child_dual r f z k i)) i (length (children r u)) a.0 l)) in
        let bn : (j : ℕ) → j < length (others f v s) → pos 0 ≤ℤ other_dual r f z k j = λ j l. le_z_yes (true→T (every_at (λ j. le_z (pos 0) (other_dual r f z k j)) j (length (others f v s)) b.0 l)) in
        let total : value_in r f z k ≡ w +ℤ (sumℤ (length (children r u)) (child_dual r f z k) +ℤ sumℤ (length (others f v s)) (other_dual r f z k)) = eq_z_says _ _ d.1 in
        let least = (vertex_range table r f A u v S.u_low S.v_low w e).0 in
        let more = +ℤ_mono (sumℤ_nonneg (length (children r u)) (child_dual r f z k) an) (sumℤ_nonneg (length (others f v s)) (other_dual r f z k) bn) in
        record {
          child_dual = dual_of k u;
          neighbour_dual = dual_across k v s;
          child_nonneg = λ c t. an (place c (children r u)) (place_low c (children r u) (mem_occ c (children r u) t));
          neighbour_nonneg = λ x t. bn (place x (others f v s)) (place_low x (others f v s) (mem_occ x (others f v s) t));
          cover = cover_at k u v s d.0;
          sum = ap weighed (ap (value_in r f z) S.here ∙ total)
              ∙ weighed_some _ (≤ℤ_trans (≤ℤ_refl (neg_ℤ (pos weight_limit))) (+ℤ_mono least (≤ℤ_trans (≤ℤ_refl (pos 0)) more)))
              ∙ ap (λ (y : ℤ). some (w +ℤ y)) (sym (sums_at k u v s));
        }

    -- rule 23 at every subproblem
    pub all_cover : every (subproblem_ok table r f z) (subproblems r f) ≡ true → AllCover table r f (value_of r f z)
    unfolding subproblem_ok pair_ok
    all_cover h u v s q w e =
        let tr = recorded_tree A in
        let tf = found_tree A in
        let k = index r f u v s in
        let S : Sub r f k u v s = record { here = refl; u_low = q.u_low; v_low = q.v_low; s_in = q.s_in } in
        let l = index_low_at table r f A u v s q in
        let o = index_once r f tr.ends tr.loopless tf.ends tf.loopless k (u_at r f k) (v_at f k) (s_at f k) u v s (sub_here table r f A k l) S in
        covers k u v s S w e (rw e at (moved k o.0 o.1 o.2 (every_at (subproblem_ok table r f z) k (subproblems r f) h l)))
      where
        moved : (k : ℕ) {u v s u' v' s' : ℕ} → u ≡ u' → v ≡ v' → s ≡ s' → pair_ok table r f z k u v s (vertex_pair table r f u v) ≡ true → pair_ok table r f z k u' v' s' (vertex_pair table r f u' v') ≡ true
        moved k a b c h = rw (← a, ← b, ← c) h

-- "accepted" says: the mapping in the certificate is heaviest, and the weight in it is that mapping's
pub certificate_sound : (table r f z : List ℕ) → check_of table r f z ≡ 0 → Heaviest table r f (mapping_in r z) × (weight table r f (mapping_in r z) ≡ weight_in z)
certificate_sound table r f z h =
    let p = check_passed table r f z h in
    let A = input_accepted table r f p.input in
    let w : weight_in z ≡ weight table r f (mapping_in r z) = eq_z_says _ _ p.weighs in
    let M = (quick_mapping table r f p.input (mapping_in r z)).0 p.maps in (
      covered_heaviest table r f p.input (value_of r f z) (all_cover table r f z A p.covers) (mapping_in r z) M (sym w ∙ eq_z_says _ _ p.greatest),
      sym w,
    )
