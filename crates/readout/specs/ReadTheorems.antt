-- What was read out is a mapping, over any work numbers that are forbidden where the pair is; over work numbers that solve it weighs the
-- value of its top. Assumes nothing.
use Rattle.std.specs.Prelude.{◌≡◌, ◌⊎◌, ◌≢◌, Bool, List, ℕ, ◌<◌, ◌≤◌, replicate, eqb, ℤ, ◌+ℤ◌}
use Rattle.std.proofs.Math.Path.{sym, ap, subst}
use Rattle.std.proofs.Common.{◌∙◌, inl, inr, ⊎_elim, arith, ne_eqb}
use Rattle.std.proofs.Math.Bool.{not}
use Rattle.std.proofs.lemmas.List.{length-replicate, get_or-replicate}
use Rattle.std.proofs.Math.Dec.{T}
use Rattle.std.proofs.Math.IntN.{pos}
use Rattle.foundations.specs.Members.{mem, del, del_mem, mem_here, mem_there, lsum_ext}
use Rattle.foundations.specs.Sums.{lsum, pick}
use Rattle.model.specs.Calls.{input_item}
use Rattle.model.specs.Graph.{neighbours}
use Rattle.model.specs.Limits.{no_vertex}
use Rattle.model.specs.Mapping.{partner, mapped, IsMapping, num, weight, Heaviest}
use Rattle.model.specs.Order.{parent, depth, children}
use Rattle.model.specs.Pairs.{vertex_pair, edge_pair}
use Rattle.model.specs.Tree.{count}
use Rattle.model.specs.Values.{best, branch, recalled, value_from, Subproblem, Solves, largest}
use Rattle.model.specs.Weights.{Weight, none, some, plus_w}
use Rattle.formats.specs.Inputs.{input_accepted}
use Rattle.subtrees.specs.Accepted.{recorded_tree, found_tree}
use Rattle.subtrees.proofs.Bound.{own_s, own_cases}
use Rattle.subtrees.specs.Connected.{climb_cases, inner_of, of_inner, under_deep}
use Rattle.subtrees.proofs.Mappings.{agree_self, problem, of_theory, weight_is}
use Rattle.subtrees.specs.Onward.{under?}
use Rattle.subtrees.proofs.Optimal.{rooting, no_no_vertex, solves_heaviest}
use Rattle.subtrees.specs.Problem.{Instance, weight_of}
use Rattle.subtrees.proofs.Readout.{Readout, Chosen, Reads, reads_tight, readout_is_mapping, readout_value}
use Rattle.subtrees.specs.Rooted.{inner}
use Rattle.subtrees.specs.Trees.{IsTree, falls, joined_mem, mem_joined, joined_swap}
use Rattle.subtrees.specs.WeightLaws.{none≢some, plus_some, some_num, some_inj}
use Rattle.trees.specs.Rooted.{child_of_lem, of_child_lem}
use Rattle.solver.specs.Choice.{mate_in, has_mate}
use Rattle.readout.specs.Read.{Lies, Row, Read, WorkFits}

module _ (table r f : List ℕ) (tr : IsTree r) (tf : IsTree f) (work : List ℤ) (t v : ℕ) (q : List ℕ) (lt : t < count r) (lv : v < count f) (R : Read table r f work t v v (replicate (count r) no_vertex) q) where
  abbrev P : Instance
  P = problem table r f tr tf

  abbrev on : ℕ → Bool
  on x = mapped q x

  abbrev to : ℕ → ℕ
  to x = partner q x

  abbrev In : ℕ → Type 0
  In x = T (inner (parent r) on x)

  -- a byte that is a partner
  of_byte : (x : ℕ) → to x ≢ no_vertex → T (on x)
  unfolding mapped
  of_byte x n = rw (ne_eqb (to x) no_vertex n) tt

  not_none : (x : ℕ) → to x ≡ no_vertex → ¬ (T (on x))
  unfolding mapped
  not_none x e o = subst (λ (z : ℕ). T (not (eqb z no_vertex))) e o

  -- only the top's subtree has partners
  outside : (x : ℕ) → x < count r → ¬ (Lies r t x) → ¬ (T (on x))
  outside x l n = not_none x (R.away x n ∙ get_or-replicate (count r) x no_vertex 0 l)

  lies : (x : ℕ) → x < count r → T (on x) → Lies r t x
  lies x l o = ⊎_elim (λ c. c) (λ n. absurd (outside x l n o)) (under? (count r) (parent r) (depth r) (falls r tr) t x l)

  top_on : T (on t)
  top_on = of_byte t (λ e. no_no_vertex table r f tr tf v lv (sym R.top ∙ e))

  top_not_inner : ¬ (In t)
  top_not_inner i =
      let h = of_inner (parent r) on t i in
      let d = falls r tr t lt h.1 in
      off (under_deep (count r) (parent r) (depth r) (λ x l z. (falls r tr x l z).1) (lies (parent r t) d.0 h.2)) d.1
    where
      off : depth r t ≤ depth r (parent r t) → depth r (parent r t) < depth r t → ⊥
      off a b = omega arith

  inside : (x : ℕ) → x < count r → T (on x) → x ≢ t → T (on (parent r x)) → In x
  inside x l o n p = inner_of (parent r) on x o (⊎_elim (λ e. absurd (n e)) (λ h. h.0.1) (climb_cases (lies x l o))) p

  only : (x : ℕ) → x < count r → T (on x) → (x ≡ t) ⊎ In x
  only x l o = ⊎_elim (λ h. inl h.0) (λ h. inr (inside x l o h.0 h.1)) (R.settled x (lies x l o) o)

  -- each vertex with a partner chose a row, with its own s
  row : (x : ℕ) → x < count r → T (on x) → Row table r f work q x (to x) (own_s (parent r) on to x)
  row x l o = ⊎_elim
      (λ h. ⊎_elim
      (λ k. absurd (top_not_inner (subst In h.0 k.0)))
      (λ k. subst (Row table r f work q x (to x)) (sym (k.1 ∙ ap to h.0 ∙ R.top)) h.1)
      (own_cases (parent r) on to x))
      (λ h. ⊎_elim
      (λ k. subst (Row table r f work q x (to x)) (sym k.1) h.2)
      (λ k. absurd (k.0 (inside x l o h.0 h.1)))
      (own_cases (parent r) on to x))
      (R.settled x (lies x l o) o)

  module _ (u : ℕ) (lu : u < count r) (o : T (on u)) where
    abbrev W : Row table r f work q u (to u) (own_s (parent r) on to u)
    W = row u lu o

    has : (c : ℕ) → T (mem c (children r u)) → has_mate (children r u) W.mates c ≡ on c
    unfolding has_mate mapped
    has c m = ap (λ (z : ℕ). not (eqb z no_vertex)) (sym (W.branches c m))

    mate : (c : ℕ) → T (mem c (children r u)) → mate_in (children r u) W.mates c ≡ to c
    mate c m = sym (W.branches c m)

    free : (c : ℕ) → T (mem c (children r u)) → T (on c) → T (mem (to c) (del (own_s (parent r) on to u) (neighbours f (to u))))
    free c m p = subst (λ (z : ℕ). T (mem z (del (own_s (parent r) on to u) (neighbours f (to u))))) (mate c m) (W.choice.free c m (subst T (sym (has c m)) p))

    apart : (c d : ℕ) → T (mem c (children r u)) → T (mem d (children r u)) → T (on c) → T (on d) → to c ≡ to d → c ≡ d
    apart c d m n p k e = W.choice.apart c d m n (subst T (sym (has c m)) p) (subst T (sym (has d n)) k) (mate c m ∙ e ∙ sym (mate d n))

    branches : (c : ℕ) → T (mem c (children r u)) → T (on c) → branch table r f (recalled r f work) u (to u) c (to c) ≡ some (pos (W.choice.gain c))
    branches c m p = subst (λ (z : ℕ). branch table r f (recalled r f work) u (to u) c z ≡ some (pos (W.choice.gain c))) (mate c m) (W.choice.branches c m (subst T (sym (has c m)) p))

    heaviest : best (branch table r f (recalled r f work) u (to u)) (children r u) (del (own_s (parent r) on to u) (neighbours f (to u))) ≡ some (lsum (children r u) (λ c. pick (on c) (pos (W.choice.gain c))))
    heaviest = W.choice.heaviest ∙ ap some (lsum_ext (children r u) _ _ (λ c m. ap (λ (b : Bool). pick b (pos (W.choice.gain c))) (has c m)))

    -- the child's subproblem
    below : (c : ℕ) → T (mem c (children r u)) → T (on c) → Subproblem r f c (to c) (to u)
    below c m p =
        let h = mem_joined f tf (to u) (to c) (del_mem (to c) (own_s (parent r) on to u) (neighbours f (to u)) (free c m p)).0 in
        record {
          u_low = (child_of_lem r tr.ends tr.loopless u c lu m).0;
          v_low = h.0;
          s_in = mem_there (to u) (to c) (neighbours f (to c)) (joined_mem f tf (to c) (to u) (joined_swap f tf (to u) (to c) h.1));
        }

  -- c, of the set, with its parent
  at_parent : (c : ℕ) → c < count r → In c → (parent r c < count r) × T (on (parent r c)) × T (mem c (children r (parent r c))) × T (on c)
  at_parent c l i = let h = of_inner (parent r) on c i in ((falls r tr c l h.1).0, h.2, of_child_lem r tr.ends tr.loopless c l h.1, h.0)

  -- the weight of its edge pair and its value
  split : (c : ℕ) (l : parent r c < count r) (o : T (on (parent r c))) (m : T (mem c (children r (parent r c)))) (p : T (on c)) →
      (a : ℤ) × (b : ℤ) × (edge_pair table r f (parent r c) c (to (parent r c)) (to c) ≡ some a) × (recalled r f work c (to c) (to (parent r c)) ≡ some b) × (pos ((W (parent r c) l o).choice.gain c) ≡ a +ℤ b)
  split c l o m p = plus_some (edge_pair table r f (parent r c) c (to (parent r c)) (to c)) (recalled r f work c (to c) (to (parent r c))) _ (branches (parent r c) l o c m p)

  module _ (fits : WorkFits table r f work) (allowed : vertex_pair table r f t v ≢ none) where
    vertices : (u : ℕ) → u < count r → T (on u) → vertex_pair table r f u (to u) ≢ none
    vertices u l o e = ⊎_elim
        (λ h. allowed (subst (λ (x : ℕ). vertex_pair table r f t x ≡ none) R.top (subst (λ (x : ℕ). vertex_pair table r f x (to x) ≡ none) h e)))
        (λ i. let h = at_parent u l i in
        let b = split u h.0 h.1 h.2 h.3 in
        none≢some b.1 (sym (fits u (to u) (to (parent r u)) (below (parent r u) h.0 h.1 u h.2 h.3) e) ∙ b.3))
        (only u l o)

    readout : Readout P t on to
    readout = record {
      root = (lt, top_on, subst (λ (x : ℕ). x < count f) (sym R.top) lv, top_not_inner);
      only = only;
      free = λ c l i. let h = at_parent c l i in free (parent r c) h.0 h.1 c h.2 h.3;
      apart = λ c d l k i j e. let h = at_parent c l i in let g = at_parent d k j in
          apart (parent r c) h.0 h.1 c d h.2 (subst (λ (x : ℕ). T (mem d (children r x))) (sym e) g.2) h.3 g.3;
      vertices = vertices;
      edges = λ c l i e. let h = at_parent c l i in
          let b = split c h.0 h.1 h.2 h.3 in
          none≢some b.0 (sym e ∙ b.2);
    }

    pub is_mapping : IsMapping table r f q
    is_mapping = of_theory table r f tr tf q on to (agree_self (count r) q) (R.size ∙ length-replicate (count r) no_vertex)
        (readout_is_mapping P (parent f) (depth f) (rooting table r f tr tf) t on to readout)

    pub weighs : Solves table r f (recalled r f work) → (z : ℤ) → recalled r f work t v v ≡ some z → weight table r f q ≡ z
    unfolding value_from
    weighs S z e = weight_is table r f tr tf q on to (agree_self (count r) q)
        ∙ sym (some_inj z (weight_of P on to) (sym e ∙ ap (λ (x : ℕ). recalled r f work t x x) (sym R.top)
        ∙ readout_value P (parent f) (depth f) (rooting table r f tr tf) t on to readout (recalled r f work) (reads_tight P (recalled r f work) t on to reads)))
      where
        chosen : (u : ℕ) → u < count r → T (on u) → Chosen P (recalled r f work) on to u
        chosen u l o =
            let a = some_num (vertex_pair table r f u (to u)) (vertices u l o) in
            record {
              z = num (vertex_pair table r f u (to u));
              g = λ c. pos ((W u l o).choice.gain c);
              vertex = a;
              assign = record { free = free u l o; apart = apart u l o; weighs = branches u l o };
              value = S u (to u) (own_s (parent r) on to u) (W u l o).subproblem ∙ ap (plus_w (vertex_pair table r f u (to u))) (heaviest u l o)
                  ∙ ap (λ (w : Weight). plus_w w (some (lsum (children r u) (λ c. pick (on c) (pos ((W u l o).choice.gain c)))))) a;
            }

        reads : Reads P (recalled r f work) t on to
        reads = record { root = readout.root; only = only; chosen = chosen }

-- work numbers that solve are forbidden where the pair is
pub solves_fits : (table r f : List ℕ) (work : List ℤ) → Solves table r f (recalled r f work) → WorkFits table r f work
unfolding value_from
solves_fits table r f work S u v s h e = S u v s h ∙ ap (λ (w : Weight). plus_w w (best (branch table r f (recalled r f work) u v) (children r u) (del s (neighbours f v)))) e

-- ---- for inputs that items 1 to 12, 25 and 26 let pass

module _ (table r f : List ℕ) (passes : input_item table r f ≡ 0) (work : List ℤ) (u v : ℕ) (p : List ℕ) (lu : u < count r) (lv : v < count f) (R : Read table r f work u v v (replicate (count r) no_vertex) p) where
  -- what is read out is a mapping, whatever the numbers at allowed pairs
  pub read_mapping : WorkFits table r f work → vertex_pair table r f u v ≢ none → IsMapping table r f p
  read_mapping = is_mapping table r f (recorded_tree (input_accepted table r f passes)) (found_tree (input_accepted table r f passes)) work u v p lu lv R

  -- a pair whose work number is a number is allowed
  pub top_allowed : WorkFits table r f work → (z : ℤ) → recalled r f work u v v ≡ some z → vertex_pair table r f u v ≢ none
  top_allowed fits z e n = none≢some z (sym (fits u v v (record { u_low = lu; v_low = lv; s_in = mem_here v (neighbours f v) }) n) ∙ e)

  -- over right numbers it weighs the value of (u, v)
  pub read_weighs : Solves table r f (recalled r f work) → (z : ℤ) → recalled r f work u v v ≡ some z → weight table r f p ≡ z
  read_weighs S z e =
      let fits = solves_fits table r f work S in
      weighs table r f (recorded_tree (input_accepted table r f passes)) (found_tree (input_accepted table r f passes)) work u v p lu lv R fits (top_allowed fits z e) S z e

  -- so with the largest value at (u, v) it is a heaviest one
  pub read_heaviest : Solves table r f (recalled r f work) → recalled r f work u v v ≡ some (largest r f (recalled r f work)) → Heaviest table r f p
  read_heaviest S e =
      let fits = solves_fits table r f work S in
      (solves_heaviest table r f (recorded_tree (input_accepted table r f passes)) (found_tree (input_accepted table r f passes)) (recalled r f work) S p).1
      (read_mapping fits (top_allowed fits _ e), read_weighs S (largest r f (recalled r f work)) e)
