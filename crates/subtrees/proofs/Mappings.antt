-- The paper's mapping over bytes is the theory's, and its weight too. Assumes nothing.
use Rattle.std.specs.Prelude.{◌≡◌, refl, ◌≢◌, Bool, true, not, ◌&&◌, List, ℕ, ◌<◌, ℤ, ◌+ℤ◌, T, eqb, length}
use Rattle.std.proofs.Common.{sym, ◌∙◌, inl, inr, ne_eqb}
use Rattle.std.proofs.Math.Path.{ap, subst}
use Rattle.std.proofs.Math.Logic.{⊎_elim}
use Rattle.std.proofs.Math.IntN.{pos}
use Rattle.foundations.specs.Tests.{and_comm}
use Rattle.foundations.specs.Sums.{pick_same, sumℤ_reindex}
use Rattle.foundations.specs.Sums.{pick, sumℤ, sumℤ_ext}
use Rattle.foundations.specs.Tests.{same_test}
use Rattle.model.specs.Edges.{Joins}
use Rattle.model.specs.Graph.{edges, joined}
use Rattle.model.specs.Mapping.{partner, mapped, Mapped, Taken, WalkIn, stay, move, IsMapping, num, vertex_pairs, edge_term, edge_pairs, weight}
use Rattle.model.specs.Order.{parent}
use Rattle.model.specs.Pairs.{vertex_pair, edge_pair}
use Rattle.model.specs.Tree.{count, end_a, end_b}
use Rattle.model.specs.Weights.{Weight, none}
use Rattle.trees.specs.Directions.{pair_swap}
use Rattle.subtrees.specs.Connected.{Way, stop, onward, way_keeps, inner_of, of_inner, root_not_inner, Joined, Step, ConnectedSet}
use Rattle.subtrees.specs.Problem.{Instance, Mapping, vertex_w, edge_w, weight_of}
use Rattle.subtrees.specs.Rooted.{inner, total}
use Rattle.subtrees.specs.Trees.{IsTree, joined_swap, joined_mem, mem_joined, up_joined, above_of, of_above, falls, Hangs, lower_end, lower_hangs, lower_once, lower_all, instance_of}

-- ---- bytes that say what `on` and `to` say

pub record Agree (n : ℕ) (p : List ℕ) (on : ℕ → Bool) (to : ℕ → ℕ) : Type 0 where
  pub on_is : (u : ℕ) → u < n → mapped p u ≡ on u
  pub to_is : (u : ℕ) → u < n → T (on u) → partner p u ≡ to u

pub agree_self : (n : ℕ) (p : List ℕ) → Agree n p (mapped p) (λ u. partner p u)
agree_self n p = record { on_is = λ u l. refl; to_is = λ u l o. refl }

path_end : {s : List ℕ} {S : ℕ → Type 0} {x y : ℕ} → WalkIn s S x y → S y
path_end (stay h) = h
path_end (move p e h) = h

module _ (table r f : List ℕ) (tr : IsTree r) (tf : IsTree f) where
  -- the two trees with the paper's weights
  abbrev pub problem : Instance
  problem = instance_of r f tr tf (vertex_pair table r f) (edge_pair table r f)

  -- ---- from the paper's mapping to the theory's

  module _ (p : List ℕ) (M : IsMapping table r f p) where
    way_of : {x y : ℕ} → WalkIn r (Mapped r p) x y → Way (Step (count r) (parent r) (mapped p)) x y
    way_of (stay h) = stop
    way_of (move {y} {z} w e h) = onward (way_of w) (record { from = path_end w; to = h; edge = above_of r tr y z e })

    pub to_theory : Mapping problem (mapped p) (λ u. partner p u)
    unfolding ConnectedSet
    to_theory = record {
      inside = λ u l o. M.inside u (l, o);
      apart = λ u x l k o q. M.different u x (l, o) (k, q);
      joins = λ u x l k o q. (
        λ j. joined_mem f tf (partner p u) (partner p x) (sym (M.joined_alike u x (l, o) (k, q)) ∙ of_above r tr u x l k j),
        λ m. above_of r tr u x (M.joined_alike u x (l, o) (k, q) ∙ (mem_joined f tf (partner p u) (partner p x) m).1),
      );
      vertices = λ u l o. M.vertex_allowed u (l, o);
      edges = λ c l i. let q = of_inner (parent r) (mapped p) c i in
          M.edge_allowed (parent r c) c ((falls r tr c l q.1).0, q.2) (l, q.0) (joined_swap r tr c (parent r c) (up_joined r tr c l q.1));
      connected = λ x y l o k q. way_of (M.recorded_connected x y (l, o) (k, q));
    }

  -- ---- and back

  module _ (p : List ℕ) (on : ℕ → Bool) (to : ℕ → ℕ) (G : Agree (count r) p on to) where
    on_of : (u : ℕ) → Mapped r p u → T (on u)
    on_of u h = subst T (G.on_is u h.0) h.1

    of_on : (u : ℕ) → u < count r → T (on u) → Mapped r p u
    of_on u l o = (l, subst T (sym (G.on_is u l)) o)

    to_of : (u : ℕ) → Mapped r p u → partner p u ≡ to u
    to_of u h = G.to_is u h.0 (on_of u h)

    module _ (long : length p ≡ count r) (M : Mapping problem on to) where
      joined_alike_lem : (u x : ℕ) → Mapped r p u → Mapped r p x → joined r u x ≡ joined f (partner p u) (partner p x)
      joined_alike_lem u x h k = rw (to_of u h, to_of x k) (same_test (joined r u x) (joined f (to u) (to x))
          (λ e. (mem_joined f tf (to u) (to x) ((M.joins u x h.0 k.0 (on_of u h) (on_of x k)).0 (above_of r tr u x e))).1)
          (λ e. of_above r tr u x h.0 k.0 ((M.joins u x h.0 k.0 (on_of u h) (on_of x k)).1 (joined_mem f tf (to u) (to x) e))))

      -- the pair of the edge from c to its parent
      edge_up : (c : ℕ) → Mapped r p c → c ≢ 0 → Mapped r p (parent r c) → edge_pair table r f (parent r c) c (partner p (parent r c)) (partner p c) ≢ none
      edge_up c h z k = rw (to_of c h, to_of (parent r c) k) (M.edges c h.0 (inner_of (parent r) on c (on_of c h) z (on_of (parent r c) k)))

      edge_allowed_lem : (u x : ℕ) → Mapped r p u → Mapped r p x → joined r u x ≡ true → edge_pair table r f u x (partner p u) (partner p x) ≢ none
      unfolding Joined
      edge_allowed_lem u x h k e = ⊎_elim
          (λ j. subst (λ (y : ℕ). edge_pair table r f y x (partner p y) (partner p x) ≢ none) j.1 (edge_up x k j.0 (subst (λ (y : ℕ). Mapped r p y) (sym j.1) h)))
          (λ j. subst (λ (y : ℕ). edge_pair table r f u y (partner p u) (partner p y) ≢ none) j.1
          (λ q. edge_up u h j.0 (subst (λ (y : ℕ). Mapped r p y) (sym j.1) k) (pair_swap table r f (parent r u) u (partner p (parent r u)) (partner p u) ∙ q)))
          (above_of r tr u x e)

      path_of : (x y : ℕ) → Mapped r p x → Way (Step (count r) (parent r) on) x y → WalkIn r (Mapped r p) x y
      path_of x y h w = way_keeps (λ (z : ℕ). WalkIn r (Mapped r p) x z) w
          (λ y z s q. move q (of_above r tr y z s.from.0 s.to.0 s.edge) (of_on z s.to.0 s.to.1)) (stay h)

      found_path : (x y : ℕ) → Mapped r p x → Way (Step (count r) (parent r) on) x y → WalkIn f (Taken r p) (partner p x) (partner p y)
      found_path x y h w = way_keeps (λ (z : ℕ). WalkIn f (Taken r p) (partner p x) (partner p z)) w
          (λ y z s q. let a = of_on y s.from.0 s.from.1 in let b = of_on z s.to.0 s.to.1 in
          move q (sym (joined_alike_lem y z a b) ∙ of_above r tr y z s.from.0 s.to.0 s.edge) (z, b, refl))
          (stay (x, h, refl))

      pub of_theory : IsMapping table r f p
      unfolding ConnectedSet
      of_theory = record {
        long = long;
        inside = λ u h. rw (to_of u h) (M.inside u h.0 (on_of u h));
        different = λ u x h k e. M.apart u x h.0 k.0 (on_of u h) (on_of x k) (sym (to_of u h) ∙ e ∙ to_of x k);
        recorded_connected = λ x y h k. path_of x y h (M.connected x y h.0 (on_of x h) k.0 (on_of y k));
        found_connected = λ v y a b.
            subst (λ (z : ℕ). WalkIn f (Taken r p) z y) a.2 (subst (λ (z : ℕ). WalkIn f (Taken r p) (partner p a.0) z) b.2
            (found_path a.0 b.0 a.1 (M.connected a.0 b.0 a.1.0 (on_of a.0 a.1) b.1.0 (on_of b.0 b.1))));
        joined_alike = joined_alike_lem;
        vertex_allowed = λ u h. rw (to_of u h) (M.vertices u h.0 (on_of u h));
        edge_allowed = edge_allowed_lem;
      }

    -- ---- the weight: the edges one by one are the vertices but the root

    -- the edge between x and y with that between their partners
    abbrev between : ℕ → ℕ → Weight
    between x y = edge_pair table r f x y (partner p x) (partner p y)

    edge_term_lem : (j c : ℕ) → Hangs r j c → edge_term table r f p (end_a r (count r) j) (end_b r (count r) j) ≡ pick (inner (parent r) on c) (edge_w problem to c)
    unfolding inner edge_w
    edge_term_lem j c h = go h.joins
      where
        lp : parent r c < count r
        lp = (falls r tr c h.low h.not_root).0

        up : pick (mapped p (parent r c) && mapped p c) (num (between (parent r c) c)) ≡ pick (on c && (not (eqb c 0) && on (parent r c))) (num (edge_pair table r f (parent r c) c (to (parent r c)) (to c)))
        up = pick_same (mapped p (parent r c) && mapped p c) (on c && (not (eqb c 0) && on (parent r c))) _ _
            (rw (G.on_is c h.low, G.on_is (parent r c) lp, ne_eqb c 0 h.not_root) (and_comm (on (parent r c)) (on c)))
            (λ t. let q = of_inner (parent r) on c (unfold inner in t) in
            ap (λ (z : ℕ). num (edge_pair table r f (parent r c) c z (partner p c))) (G.to_is (parent r c) lp q.2)
            ∙ ap (λ (z : ℕ). num (edge_pair table r f (parent r c) c (to (parent r c)) z)) (G.to_is c h.low q.0))

        go : Joins (end_a r (count r)) (end_b r (count r)) j c (parent r c) → edge_term table r f p (end_a r (count r) j) (end_b r (count r) j) ≡ pick (on c && (not (eqb c 0) && on (parent r c))) (num (edge_pair table r f (parent r c) c (to (parent r c)) (to c)))
        go (inl m) = rw (m.0, m.1) (ap (λ (b : Bool). pick b (num (between c (parent r c)))) (and_comm (mapped p c) (mapped p (parent r c)))
            ∙ ap (λ (w : Weight). pick (mapped p (parent r c) && mapped p c) (num w)) (pair_swap table r f c (parent r c) (partner p c) (partner p (parent r c))) ∙ up)
        go (inr m) = rw (m.0, m.1) up

    pub weight_is : weight table r f p ≡ weight_of problem on to
    unfolding weight vertex_pairs edge_pairs weight_of total vertex_w
    weight_is =
        ap (λ (z : ℤ). z +ℤ sumℤ (edges r) (λ j. edge_term table r f p (end_a r (count r) j) (end_b r (count r) j)))
        (sumℤ_ext (count r) (λ u. pick (mapped p u) (num (vertex_pair table r f u (partner p u)))) (λ u. pick (on u) (vertex_w problem to u))
        (λ u l. pick_same (mapped p u) (on u) _ _ (G.on_is u l) (λ o. ap (λ (z : ℕ). num (vertex_pair table r f u z)) (G.to_is u l o))))
        ∙ ap (λ (z : ℤ). sumℤ (count r) (λ u. pick (on u) (vertex_w problem to u)) +ℤ z)
        (sumℤ_ext (edges r) (λ j. edge_term table r f p (end_a r (count r) j) (end_b r (count r) j)) (λ j. pick (inner (parent r) on (lower_end r j)) (edge_w problem to (lower_end r j)))
        (λ j l. edge_term_lem j (lower_end r j) (lower_hangs r tr j l))
        ∙ sumℤ_reindex (count r) (edges r) (lower_end r) (λ c. pick (inner (parent r) on c) (edge_w problem to c)) at_root
        (λ j l. (lower_hangs r tr j l).low) (lower_once r tr) (lower_all r tr))
      where
        at_root : pick (inner (parent r) on 0) (edge_w problem to 0) ≡ pos 0
        at_root = ap (λ (b : Bool). pick b (edge_w problem to 0)) (root_not_inner (parent r) on)
