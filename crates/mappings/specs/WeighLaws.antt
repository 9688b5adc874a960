-- The mapping's exact sum, term by term: what each term is, and that it is small. Assumes nothing.
use Rattle.std.specs.Prelude.{◌≡◌, refl, ◌⊎◌, ◌≢◌, Bool, true, false, ◌&&◌, cond, List, ℕ, ◌+◌, ◌*◌, ◌≤◌, ◌<◌, get_or, length, take, T, eqb, ℤ, pos, neg_ℤ, ◌+ℤ◌, ◌≤ℤ◌}
use Rattle.std.proofs.Common.{sym, ◌∙◌, subst, inl, ⊎_elim, arith, get_or-take, eq-eqb, ne_eqb}
use Rattle.std.proofs.Math.Path.{ap}
use Rattle.std.proofs.Math.Bool.{not}
use Rattle.foundations.specs.Int.{up, dn, int, plus, canon}
use Rattle.foundations.specs.Sums.{sumℤ, sumℤ_more, pick}
use Rattle.foundations.specs.Tests.{and_both, and_false}
use Rattle.model.specs.Graph.{edges, joined}
use Rattle.model.specs.Limits.{no_vertex, weight_limit, part_limit, ceiling}
use Rattle.model.specs.Mapping.{partner, mapped, IsMapping, num, vertex_pairs, edge_term, edge_pairs, weight}
use Rattle.model.specs.Pairs.{vertex_pair, edge_pair}
use Rattle.model.specs.Table.{edge_labels}
use Rattle.model.specs.Tree.{count, end_a, end_b, edge_label_at}
use Rattle.model.specs.Weights.{is_forbidden, Weight, none, some, weighed}
use Rattle.trees.specs.Directions.{label_seen, EdgeSeen, edge_seen, known_seen, seen_first}
use Rattle.trees.specs.Neighbours.{Adjacent, joined_says, says_joined}
use Rattle.formats.specs.Inputs.{Accepted, accepted_sound}
use Rattle.subtrees.proofs.ValueRange.{vertex_range, edge_range}
use Rattle.plan.specs.Pairs.{VertexPair, EdgePair}

-- what the sum is taken over: inputs that pass, and bytes that begin with a mapping
pub record Ground (table r f p : List ℕ) : Type 0 where
  pub accepted : Accepted table r f
  pub long : count r ≤ length p
  pub mapping : IsMapping table r f (take (count r) p)

-- ---- numbers that are added up

-- r is z, and at most k weights' worth
pub record SumTo (k : ℕ) (z r : ℤ) : Type 0 where
  pub is : r ≡ z
  pub high : up r ≤ k * weight_limit
  pub low : dn r ≤ k * weight_limit

-- together at most what a whole mapping can weigh, above 0 and below
pub record SmallSum (s t : ℤ) : Type 0 where
  pub high : up s + up t ≤ ceiling
  pub low : dn s + dn t ≤ ceiling

pub small_sum : {j k : ℕ} {x y s t : ℤ} → j + k ≤ part_limit → SumTo j x s → SumTo k y t → SmallSum s t
small_sum h S R = let a = S.high in let b = S.low in let c = R.high in let d = R.low in record { high = omega arith; low = omega arith }

pub sum_none : (F : ℕ → ℤ) → SumTo 0 (sumℤ 0 F) (pos 0)
unfolding sumℤ
sum_none F = record { is = refl; high = omega arith; low = omega arith }

-- two sums
pub sum_both : (j k : ℕ) (x y s t r : ℤ) → SumTo j x s → SumTo k y t → r ≡ s +ℤ t → SumTo (j + k) (x +ℤ y) r
sum_both j k x y s t r S R e =
    let a = S.high in
    let b = S.low in
    let c = R.high in
    let d = R.low in
    record { is = rw (e, S.is, R.is); high = rw e (omega (arith, plus s t, canon (s +ℤ t))); low = rw e (omega (arith, plus s t, canon (s +ℤ t))) }

-- one term more
pub sum_more : (i : ℕ) (F : ℕ → ℤ) (s t r : ℤ) → SumTo i (sumℤ i F) s → SumTo 1 (F i) t → r ≡ s +ℤ t → SumTo (i + 1) (sumℤ (i + 1) F) r
sum_more i F s t r S R e = subst (λ (z : ℤ). SumTo (i + 1) z r) (sym (sumℤ_more i F)) (sum_both i 1 (sumℤ i F) (F i) s t r S R e)

-- a loop's turn: the sum and one term more are together small
pub sum_turn : (F : ℕ → ℤ) {i n : ℕ} {s t : ℤ} → SumTo i (sumℤ i F) s → SumTo 1 (F i) t → i < n → n ≤ part_limit → SmallSum s t
sum_turn F S R l h = small_sum {k = 1} (omega arith) S R

-- and its end
pub sum_end : (F : ℕ → ℤ) {i n : ℕ} {s : ℤ} → i ≡ n → SumTo i (sumℤ i F) s → SumTo n (sumℤ n F) s
sum_end F e S = rw (← e) S

-- a weight in range is one term
term : (w : Weight) (z : ℤ) → w ≡ some z → (neg_ℤ (pos weight_limit) ≤ℤ z) × (z ≤ℤ pos weight_limit) → SumTo 1 (num w) z
unfolding num
term w z e h = let a = h.0 in let b = h.1 in record { is = rw e; high = omega (int, canon z); low = omega (int, canon z) }

pub term_none : (b : Bool) (w : Weight) → b ≡ false → SumTo 1 (pick b (num w)) (pos 0)
term_none b w e = rw e (record { is = refl; high = omega arith; low = omega arith })

-- a weight that is not forbidden is the number read
number : {w : Weight} {z : ℤ} → w ≡ weighed z → w ≢ none → w ≡ some z
unfolding weighed
number {w} {z} e n = go (is_forbidden z) e
  where
    go : (b : Bool) → w ≡ cond b none (some z) → w ≡ some z
    go true h = absurd (n h)
    go false h = h

-- ---- vertices

-- the term of u
abbrev pub vertex_term : List ℕ → List ℕ → List ℕ → List ℕ → ℕ → ℤ
vertex_term table r f p u = pick (mapped p u) (num (vertex_pair table r f u (partner p u)))

module _ (table r f p : List ℕ) (G : Ground table r f p) where
  abbrev A : Accepted table r f
  A = G.accepted

  abbrev front : List ℕ
  front = take (count r) p

  pub byte_is : (u : ℕ) → u < count r → get_or p u 0 ≡ partner front u
  byte_is u l = sym (get_or-take (count r) p u 0 l)

  mapped_is : (u v : ℕ) → u < count r → v ≡ get_or p u 0 → mapped front u ≡ not (eqb v no_vertex)
  unfolding mapped
  mapped_is u v l e = ap (λ (z : ℕ). not (eqb z no_vertex)) (sym (e ∙ byte_is u l))

  is_mapped : (u v : ℕ) → u < count r → v ≡ get_or p u 0 → v ≢ no_vertex → mapped front u ≡ true
  is_mapped u v l e n = mapped_is u v l e ∙ rw (ne_eqb v no_vertex n)

  on : (u v : ℕ) → u < count r → v ≡ get_or p u 0 → v ≢ no_vertex → (u < count r) × T (mapped front u)
  on u v l e n = (l, rw (is_mapped u v l e n) tt)

  pub inside : (u v : ℕ) → u < count r → v ≡ get_or p u 0 → v ≢ no_vertex → v < count f
  inside u v l e n = rw (e ∙ byte_is u l) (G.mapping.inside u (on u v l e n))

  pub vertex_none : (u v : ℕ) → u < count r → v ≡ get_or p u 0 → v ≡ no_vertex → SumTo 1 (vertex_term table r f front u) (pos 0)
  vertex_none u v l e n = term_none (mapped front u) (vertex_pair table r f u (partner front u)) (mapped_is u v l e ∙ rw (eq-eqb v no_vertex n))

  pub vertex_some : (u v : ℕ) (z : ℤ) → u < count r → v ≡ get_or p u 0 → v ≢ no_vertex → VertexPair table r f u v z → SumTo 1 (vertex_term table r f front u) z
  vertex_some u v z l e n W =
      let g : v ≡ partner front u = e ∙ byte_is u l in
      let k : vertex_pair table r f u v ≡ some z = number W.is (λ h. G.mapping.vertex_allowed u (on u v l e n) (subst (λ (x : ℕ). vertex_pair table r f u x ≡ none) g h)) in
      subst (λ (b : Bool). SumTo 1 (pick b (num (vertex_pair table r f u (partner front u)))) z) (sym (is_mapped u v l e n))
      (subst (λ (x : ℕ). SumTo 1 (num (vertex_pair table r f u x)) z) g
      (term _ z k (vertex_range table r f A u v l (inside u v l e n) z k)))

  -- ---- edges

  -- what stands at the ends u and w of edge j of a tree of n vertices
  pub record EndsAt (j u w : ℕ) : Type 0 where
    pub low : (u < length p) × (w < length p)
    pub first : get_or p u 0 ≡ get_or p (end_a r (count r) j) 0
    pub second : get_or p w 0 ≡ get_or p (end_b r (count r) j) 0

  pub ends_at : {n j u w : ℕ} → n ≡ count r → j + 1 < count r → u ≡ end_a r n j → w ≡ end_b r n j → EndsAt j u w
  ends_at {n} {j} {u} {w} en lj eu ew =
      let hu : u ≡ end_a r (count r) j = rw en at eu in
      let hw : w ≡ end_b r (count r) j = rw en at ew in
      let low = A.recorded.ends.low j (omega arith) in
      let long = G.long in
      record { low = (rw hu (omega (arith, low.0)), rw hw (omega (arith, low.1))); first = rw hu; second = rw hw }

  -- edge j with ends x and y, whose partners are a and b
  module _ (j a b : ℕ) (lj : j + 1 < count r) (ea : a ≡ get_or p (end_a r (count r) j) 0) (eb : b ≡ get_or p (end_b r (count r) j) 0) where
    abbrev x : ℕ
    x = end_a r (count r) j

    abbrev y : ℕ
    y = end_b r (count r) j

    low : (x < count r) × (y < count r)
    low = A.recorded.ends.low j (omega arith)

    pub edge_none : (a ≡ no_vertex) ⊎ (b ≡ no_vertex) → SumTo 1 (edge_term table r f front x y) (pos 0)
    edge_none h = term_none (mapped front x && mapped front y) (edge_pair table r f x y (partner front x) (partner front y))
        (rw (mapped_is x a low.0 ea, mapped_is y b low.1 eb) (⊎_elim (λ e. rw (eq-eqb a no_vertex e)) (λ e. rw (eq-eqb b no_vertex e) (and_false (not (eqb a no_vertex)))) h))

    module _ (na : a ≢ no_vertex) (nb : b ≢ no_vertex) where
      pub adjacent : Adjacent f a b
      adjacent = joined_says f (count f) a b (edges f)
          (ap (λ (z : ℕ). joined f z b) (ea ∙ byte_is x low.0) ∙ ap (λ (z : ℕ). joined f (partner front x) z) (eb ∙ byte_is y low.1)
          ∙ sym (G.mapping.joined_alike x y (on x a low.0 ea na) (on y b low.1 eb nb)) ∙ says_joined r (count r) x y (edges r) (j, omega arith, inl (refl, refl)))

      pub a_low : a < count f
      a_low = inside x a low.0 ea na

      joins_ends : Adjacent r x y
      joins_ends = (j, omega arith, inl (refl, refl))

      label_seen_lem : EdgeSeen r x y (edge_label_at r (count r) j)
      label_seen_lem = edge_seen r (accepted_sound A).0 x y joins_ends (edge_label_at r (count r) j) (sym (seen_first r A.recorded.tree j (omega arith)))

      pub edge_labels_lem : (k : ℕ) → EdgeSeen f a b k → (label_seen (edge_label_at r (count r) j) < edge_labels table) × (label_seen k < edge_labels table)
      edge_labels_lem k e = (known_seen A.recorded joins_ends label_seen_lem, known_seen A.found adjacent e)

      pub edge_some : (k : ℕ) (z : ℤ) → EdgeSeen f a b k → EdgePair table (edge_label_at r (count r) j) k z → SumTo 1 (edge_term table r f front x y) z
      edge_some k z e E =
          let oa = on x a low.0 ea na in
          let ob = on y b low.1 eb nb in
          let g : a ≡ partner front x = ea ∙ byte_is x low.0 in
          let h : b ≡ partner front y = eb ∙ byte_is y low.1 in
          let m : edge_pair table r f x y a b ≡ some z = number (E.is r f x y a b label_seen_lem e)
          (λ n. G.mapping.edge_allowed x y oa ob (says_joined r (count r) x y (edges r) joins_ends)
          (subst (λ (i : ℕ). edge_pair table r f x y i (partner front y) ≡ none) g (subst (λ (i : ℕ). edge_pair table r f x y a i ≡ none) h n))) in
          subst (λ (c : Bool). SumTo 1 (pick c (num (edge_pair table r f x y (partner front x) (partner front y)))) z) (sym (and_both (mapped front x) (mapped front y) (is_mapped x a low.0 ea na) (is_mapped y b low.1 eb nb)))
          (subst (λ (i : ℕ). SumTo 1 (num (edge_pair table r f x y i (partner front y))) z) g (subst (λ (i : ℕ). SumTo 1 (num (edge_pair table r f x y a i)) z) h
          (term _ z m (edge_range table r f A x y a b joins_ends adjacent z m))))

-- ---- the whole

pub weighs_all : (table r f p : List ℕ) (s t z : ℤ) → s ≡ vertex_pairs table r f p → t ≡ edge_pairs table r f p → z ≡ s +ℤ t → z ≡ weight table r f p
unfolding weight
weighs_all table r f p s t z a b e = rw (e, a, b)
