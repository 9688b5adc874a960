-- The weights of pairs of vertices and of edges, the gains of branches, and what the plan says of a pair of vertices. Assumes nothing.
use Rattle.std.specs.Prelude.{◌≡◌, ◌≢◌, Bool, true, false, List, ℕ, ◌+◌, ◌*◌, ◌≤◌, ◌<◌, length, get_or, set, T, ℤ, pos, negsuc, ◌+ℤ◌}
use Rattle.std.proofs.Math.Path.{refl}
use Rattle.std.proofs.Common.{sym, ap, ◌∙◌, subst, ⊎_elim, true≢false, arith, not-suc-le-zero, length-set, get_or-set_same, get_or-set_other, eqb-true, eq-eqb, ne_eqb, SFits}
use Rattle.std.specs.Int.{w32}
use Rattle.foundations.specs.Tests.{same?}
use Rattle.foundations.specs.Int.{up, ints, plus, canon}
use Rattle.foundations.specs.Members.{mem, mem_there, get_d_mem}
use Rattle.model.specs.Bytes.{int32_at}
use Rattle.model.specs.Limits.{forbidden, forbidden_rank, vertex_limit, degree_limit, pair_limit}
use Rattle.model.specs.Weights.{Weight, none, some, weighed, plus_w, is_forbidden, weight_ok}
use Rattle.model.specs.Table.{vertex_labels, edge_labels, edge_weight, vertex_weight, vertex_row, edge_row, column}
use Rattle.model.specs.Tree.{count, serial}
use Rattle.model.specs.Graph.{neighbours}
use Rattle.model.specs.Order.{children, choices, width, index, subproblems}
use Rattle.model.specs.Pairs.{apart, vertex_pair, edge_pair}
use Rattle.model.specs.Values.{branch}
use Rattle.trees.specs.Accepted.{Passed, vertex_known}
use Rattle.trees.specs.Directions.{label_seen, way_seen, EdgeSeen, label_seen_lem, agree_seen, edge_seen, known_seen}
use Rattle.trees.specs.Neighbours.{Adjacent, mem_adjacent, adjacent_mem, adjacent_back, few_neighbours}
use Rattle.trees.specs.Rooted.{child_of_lem, up_edge}
use Rattle.trees.specs.Positions.{index_low, position_low}
use Rattle.formats.specs.Table.{TablePassed, row_inside}
use Rattle.integers.specs.Results.{gain_most, Gain}
use Rattle.plan.specs.Plan.{recorded_vertices, found_vertices, label_in, serial_in, VertexIn, child_count_in, child_edge_in, child_place_in, degree_in, neighbour_edge_in, behind_in, Ready, Pair}
use Rattle.plan.specs.Numbers.{ready_accepted, ready_sound, ready_recorded}

-- ---- the pair of vertices

pub record VertexPair (table r f : List ℕ) (u v : ℕ) (w : ℤ) : Type 0 where
  pub is : vertex_pair table r f u v ≡ weighed w
  pub ok : weight_ok w ≡ true

-- w is the weight of the pair in all inputs of which this is the plan
pub record PairWeighs (table : List ℕ) (plan : List (List ℕ)) (u v : ℕ) (w : ℤ) : Type 0 where
  pub is : (r f : List ℕ) → Ready table r f plan → Pair r f u v → VertexPair table r f u v w

-- there are such inputs, with such a pair
pub record Weighable (table : List ℕ) (plan : List (List ℕ)) (u v : ℕ) : Type 0 where
  pub r : List ℕ
  pub f : List ℕ
  pub ready : Ready table r f plan
  pub pair : Pair r f u v

-- there are such inputs, with such a recorded vertex
pub record Recorded (table : List ℕ) (plan : List (List ℕ)) (u : ℕ) : Type 0 where
  pub r : List ℕ
  pub f : List ℕ
  pub ready : Ready table r f plan
  pub u_low : u < count r

-- where the weights of u's label begin, and u's serial
pub record RowOf (table : List ℕ) (plan : List (List ℕ)) (u start serial : ℕ) : Type 0 where
  pub begins : start ≡ vertex_row table (label_in plan recorded_vertices u)
  pub own : serial ≡ serial_in plan recorded_vertices u

-- there is such a pair, of which this is the row
pub record RowWeighable (table : List ℕ) (plan : List (List ℕ)) (start serial v : ℕ) : Type 0 where
  pub u : ℕ
  pub pair : Weighable table plan u v
  pub row : RowOf table plan u start serial

-- w is the weight of each pair with v of which this is the row
pub record RowWeighs (table : List ℕ) (plan : List (List ℕ)) (start serial v : ℕ) (w : ℤ) : Type 0 where
  pub is : (u : ℕ) → RowOf table plan u start serial → PairWeighs table plan u v w

pub recorded : {table r f : List ℕ} {plan : List (List ℕ)} {u : ℕ} → Ready table r f plan → u < count r → Recorded table plan u
recorded N a = record { r = _; f = _; ready = N; u_low = a }

pub weighable_recorded : {table : List ℕ} {plan : List (List ℕ)} {u v : ℕ} → Weighable table plan u v → Recorded table plan u
weighable_recorded W = recorded W.ready W.pair.u_low

pub row_weighable : {table : List ℕ} {plan : List (List ℕ)} {u v start serial : ℕ} → Weighable table plan u v → RowOf table plan u start serial → RowWeighable table plan start serial v
row_weighable W R = record { u = _; pair = W; row = R }

pub weighable : {table r f : List ℕ} {plan : List (List ℕ)} {u v : ℕ} → Ready table r f plan → u < count r → v < count f → Weighable table plan u v
weighable N a b = record { r = _; f = _; ready = N; pair = record { u_low = a; v_low = b } }

pub pair_weighs : {table r f : List ℕ} {plan : List (List ℕ)} {u v : ℕ} {w : ℤ} → Ready table r f plan → u < count r → v < count f → PairWeighs table plan u v w → VertexPair table r f u v w
pair_weighs N a b P = P.is _ _ N (record { u_low = a; v_low = b })

-- what the plan says of a recorded vertex
pub label_recorded : {table : List ℕ} {plan : List (List ℕ)} {u : ℕ} → Recorded table plan u → label_in plan recorded_vertices u < vertex_labels table
label_recorded R = rw (R.ready.planned.recorded_vertex _ R.u_low).label (vertex_known R.r _ _ _ (ready_accepted R.ready).recorded R.u_low)

pub low_recorded : {table : List ℕ} {plan : List (List ℕ)} {u : ℕ} → Recorded table plan u → u < vertex_limit
low_recorded R =
    let a : count R.r ≤ vertex_limit = (ready_accepted R.ready).recorded.ends.few in
    let x = R.u_low in
    omega arith

-- what the plan says of the two vertices is what their trees say
module _ {table r f : List ℕ} {plan : List (List ℕ)} (N : Ready table r f plan) {u v : ℕ} (Q : Pair r f u v) where
  ru : VertexIn r plan recorded_vertices u
  ru = N.planned.recorded_vertex u Q.u_low

  fv : VertexIn f plan found_vertices v
  fv = N.planned.found_vertex v Q.v_low

  apart_is : apart (serial_in plan recorded_vertices u) (serial_in plan found_vertices v) ≡ apart (serial r u) (serial f v)
  apart_is = rw (ru.own, fv.own)

  labels_low : (label_in plan recorded_vertices u < vertex_labels table) × (label_in plan found_vertices v < vertex_labels table)
  labels_low = (label_recorded (recorded N Q.u_low), rw fv.label (vertex_known f _ _ v (ready_accepted N).found Q.v_low))

pub low_weighable : {table : List ℕ} {plan : List (List ℕ)} {u v : ℕ} → Weighable table plan u v → v < vertex_limit
low_weighable W =
    let b : count W.f ≤ vertex_limit = (ready_accepted W.ready).found.ends.few in
    let y = W.pair.v_low in
    omega arith

-- by u's row: its weight with v stands in the table; forbidden for serials that are apart; that of the labels, where they are not
module _ {table : List ℕ} {plan : List (List ℕ)} {u start own : ℕ} (R : RowOf table plan u start own) (v : ℕ) where
  pub column_weighable : Weighable table plan u v → column start (label_in plan found_vertices v + 1) ≤ length table
  column_weighable W =
      let l = labels_low W.ready W.pair in
      rw R.begins (row_inside (ready_accepted W.ready).weights.sized _ _ l.0 l.1)

  pub pair_apart : apart own (serial_in plan found_vertices v) ≡ true → PairWeighs table plan u v forbidden
  unfolding vertex_pair weighed is_forbidden weight_ok
  pair_apart e = let e' = rw R.own at e in record { is = λ r f N Q. record { is = rw (sym (apart_is N Q) ∙ e'); ok = refl } }

  pub pair_labels : (w : ℤ) → apart own (serial_in plan found_vertices v) ≡ false → w ≡ int32_at table (column start (label_in plan found_vertices v)) → PairWeighs table plan u v w
  unfolding vertex_pair vertex_weight
  pair_labels w e h = record {
    is = λ r f N Q.
        let l = labels_low N Q in
        let e' = rw R.own at e in
        let h' = rw R.begins at h in
        record {
          is = rw (sym (apart_is N Q) ∙ e', h', (ru N Q).label, (fv N Q).label);
          ok = rw h' ((ready_accepted N).weights.vertex_ok_lem _ _ l.0 l.1);
        };
  }

pub weighed_number : (w : ℤ) → is_forbidden w ≡ false → weighed w ≡ some w
unfolding weighed
weighed_number w e = rw e

pub weighed_none : (w : ℤ) → is_forbidden w ≡ true → weighed w ≡ none
unfolding weighed
weighed_none w e = rw e

-- ---- the pair of edges

-- w is the weight of each pair of edges of which i and j are seen from two ends that are partners
pub record EdgePair (table : List ℕ) (i j : ℕ) (w : ℤ) : Type 0 where
  pub is : (r f : List ℕ) (u u' v v' : ℕ) → EdgeSeen r u u' i → EdgeSeen f v v' j → edge_pair table r f u u' v v' ≡ weighed w
  pub ok : weight_ok w ≡ true

pub pair_along : (table : List ℕ) → TablePassed table → (i j : ℕ) (w : ℤ) → label_seen i < edge_labels table → label_seen j < edge_labels table → way_seen i ≡ way_seen j
    → w ≡ int32_at table (column (edge_row table (label_seen i)) (label_seen j)) → EdgePair table i j w
unfolding edge_pair edge_weight
pair_along table T i j w hi hj e h = record {
  is = λ r f u u' v v' a b. rw (agree_seen r f u u' v v' i j a b, eq-eqb (way_seen i) (way_seen j) e, h, label_seen_lem a, label_seen_lem b);
  ok = rw h (T.edge_ok_lem (label_seen i) (label_seen j) hi hj);
}

pub pair_against : (table : List ℕ) (i j : ℕ) → way_seen i ≢ way_seen j → EdgePair table i j forbidden
unfolding edge_pair weighed is_forbidden weight_ok
pair_against table i j e = record { is = λ r f u u' v v' a b. rw (agree_seen r f u u' v v' i j a b, ne_eqb (way_seen i) (way_seen j) e); ok = refl }

-- w is the weight of the labels of such a pair, in any table, and r that of the pair
pub record Agreed (i j : ℕ) (w r : ℤ) : Type 0 where
  pub is : (table : List ℕ) → TablePassed table → label_seen i < edge_labels table → label_seen j < edge_labels table → w ≡ int32_at table (column (edge_row table (label_seen i)) (label_seen j)) → EdgePair table i j r

-- ---- gains

-- the greater of 0 and a weight, and 0 where it is forbidden
unfoldable pub up_w : Weight → ℕ
up_w none = 0
up_w (some z) = up z

-- what an edge weight and a value gain
pub record GainIs (edge value : ℤ) (r : ℕ) : Type 0 where
  pub is : r ≡ up_w (plus_w (weighed edge) (weighed value))
  pub small : r ≤ gain_most

-- the forbidden number is so low that its sum with any number of 32 bits is below 0
forbidden_low : (a b : ℤ) → SFits w32 b → is_forbidden a ≡ true → (up (a +ℤ b) ≡ 0) × (up (b +ℤ a) ≡ 0)
unfolding is_forbidden
forbidden_low (pos n) b f e = absurd (true≢false (sym e))
forbidden_low (negsuc n) b f e = let q : n ≡ forbidden_rank = eqb-true n forbidden_rank e in (omega (ints, q, canon (negsuc n +ℤ b), plus (negsuc n) b), omega (ints, q, canon (b +ℤ negsuc n), plus b (negsuc n)))

pub gain_any : (edge value : ℤ) (r : ℕ) → SFits w32 edge → SFits w32 value → Gain edge value r → GainIs edge value r
unfolding up_w weighed
gain_any edge value r fe fv G = go (is_forbidden edge) (is_forbidden value) refl refl
  where
    go : (x y : Bool) → is_forbidden edge ≡ x → is_forbidden value ≡ y → GainIs edge value r
    go true y e h = record { is = rw e (G.is ∙ (forbidden_low edge value fv e).0); small = G.small }
    go false true e h = record { is = rw (e, h) (G.is ∙ (forbidden_low value edge fe h).1); small = G.small }
    go false false e h = record { is = rw (e, h) G.is; small = G.small }

-- the gain of u's i-th child with v's j-th neighbour, where `given` are the values
unfoldable pub gain_at : List ℕ → List ℕ → List ℕ → (ℕ → ℕ → ℕ → Weight) → ℕ → ℕ → ℕ → ℕ → ℕ
gain_at table r f given u v i j = up_w (branch table r f given u v (get_or (children r u) i 0) (get_or (neighbours f v) j 0))

-- ---- a table of gains, row after row

abbrev pub cell : List ℕ → ℕ → ℕ → ℕ
cell g i j = get_or g (i * degree_limit + j) 0

-- the first n of row i are F's, the other rows are as before
pub record RowFilled (n i : ℕ) (F : ℕ → ℕ) (g r : List ℕ) : Type 0 where
  pub long : length r ≡ pair_limit
  pub here : (j : ℕ) → j < n → (cell r i j ≡ F j) × (cell r i j ≤ gain_most)
  pub other : (q j : ℕ) → q ≢ i → j < degree_limit → cell r q j ≡ cell g q j

pub row_none : (i : ℕ) (F : ℕ → ℕ) (g : List ℕ) → length g ≡ pair_limit → RowFilled 0 i F g g
row_none i F g e = record { long = e; here = λ j h. absurd (not-suc-le-zero h); other = λ q j n h. refl }

pub row_more : (j i v : ℕ) (F : ℕ → ℕ) (g r : List ℕ) → i < degree_limit → j < degree_limit → RowFilled j i F g r → v ≡ F j → v ≤ gain_most → RowFilled (j + 1) i F g (set r (i * degree_limit + j) v)
row_more j i v F g r hi hj R e b =
    let n : length r ≡ pair_limit = R.long in
    record {
      long = length-set r (i * degree_limit + j) v ∙ n;
      here = λ x l. ⊎_elim
          (λ q. let c : cell (set r (i * degree_limit + j) v) i x ≡ v = ap (λ (y : ℕ). get_or (set r (i * degree_limit + j) v) (i * degree_limit + y) 0) q ∙ get_or-set_same r (i * degree_limit + j) v 0 (omega arith) in (c ∙ e ∙ ap F (sym q), omega arith))
          (λ q. let c : cell (set r (i * degree_limit + j) v) i x ≡ cell r i x = get_or-set_other r (i * degree_limit + j) (i * degree_limit + x) v 0 (λ p. q (omega arith)) in let h = R.here x (omega arith) in (c ∙ h.0, omega (arith, h.1)))
          (same? x j);
      other = λ q x ne h. get_or-set_other r (i * degree_limit + j) (q * degree_limit + x) v 0 (λ p. ne (omega arith)) ∙ R.other q x ne h;
    }

-- the first n rows are F's
pub record Filled (n l : ℕ) (F : ℕ → ℕ → ℕ) (r : List ℕ) : Type 0 where
  pub long : length r ≡ pair_limit
  pub get : (i j : ℕ) → i < n → j < l → (cell r i j ≡ F i j) × (cell r i j ≤ gain_most)

pub filled_none : (l : ℕ) (F : ℕ → ℕ → ℕ) (r : List ℕ) → length r ≡ pair_limit → Filled 0 l F r
filled_none l F r e = record { long = e; get = λ i j h. absurd (not-suc-le-zero h) }

pub filled_more : (n l : ℕ) (F : ℕ → ℕ → ℕ) (g r : List ℕ) → l ≤ degree_limit → Filled n l F g → RowFilled l n (F n) g r → Filled (n + 1) l F r
filled_more n l F g r hl D R = record {
  long = R.long;
  get = λ i j hi hj. ⊎_elim
      (λ e. subst (λ (q : ℕ). (cell r q j ≡ F q j) × (cell r q j ≤ gain_most)) (sym e) (R.here j hj))
      (λ e. let o : cell r i j ≡ cell g i j = R.other i j e (omega arith) in let p = D.get i j (lower hi e) hj in (o ∙ p.0, omega (arith, p.1)))
      (same? i n);
}
  where
    lower : {i : ℕ} → i < n + 1 → i ≢ n → i < n
    lower a b = omega arith

-- ---- in accepted trees

child_adjacent : (s : List ℕ) (K L : ℕ) → Passed s K L → (u c : ℕ) → u < count s → T (mem c (children s u)) → Adjacent s u c
child_adjacent s K L p u c l m =
    let q = child_of_lem s p.ends p.tree u c l m in
    adjacent_back s c u (subst (λ (y : ℕ). Adjacent s c y) q.2 (up_edge s p.ends p.tree c q.0 q.1))

-- what the plan says of a pair of vertices
module _ {table r f : List ℕ} {plan : List (List ℕ)} (N : Ready table r f plan) where
  pr : Passed r (vertex_labels table) (edge_labels table)
  pr = (ready_accepted N).recorded

  pf : Passed f (vertex_labels table) (edge_labels table)
  pf = (ready_accepted N).found

  module _ {u v : ℕ} (Q : Pair r f u v) where
    pub pair_low : (u < vertex_limit) × (v < vertex_limit)
    pair_low =
        let a : count r ≤ vertex_limit = pr.ends.few in
        let b : count f ≤ vertex_limit = pf.ends.few in
        let x = Q.u_low in
        let y = Q.v_low in
        (omega arith, omega arith)

    pub children_is : child_count_in plan u ≡ length (children r u)
    children_is = (N.planned.recorded u Q.u_low).child_count

    pub degree_is : degree_in plan v ≡ length (neighbours f v)
    degree_is = (N.planned.found v Q.v_low).degree

    pub children_few : length (children r u) ≤ degree_limit
    children_few = (N.planned.recorded u Q.u_low).few

    pub degree_few : length (neighbours f v) ≤ degree_limit
    degree_few = few_neighbours f _ _ pf v Q.v_low

    module _ (i : ℕ) (hi : i < length (children r u)) where
      child_in_lem : T (mem (get_or (children r u) i 0) (children r u))
      child_in_lem = get_d_mem (children r u) i hi

      pub child_low : get_or (children r u) i 0 < count r
      child_low = (child_of_lem r pr.ends pr.tree u (get_or (children r u) i 0) Q.u_low child_in_lem).0

      child_joined : Adjacent r u (get_or (children r u) i 0)
      child_joined = child_adjacent r _ _ pr u (get_or (children r u) i 0) Q.u_low child_in_lem

      pub child_edge_seen : EdgeSeen r u (get_or (children r u) i 0) (child_edge_in plan u i)
      child_edge_seen = edge_seen r (ready_recorded N) u (get_or (children r u) i 0) child_joined (child_edge_in plan u i) ((N.planned.recorded u Q.u_low).child_edge i hi)

      pub child_edge_low : label_seen (child_edge_in plan u i) < edge_labels table
      child_edge_low = known_seen pr child_joined child_edge_seen

      pub child_place_low : child_place_in plan u i < count r
      child_place_low = rw ((N.planned.recorded u Q.u_low).child_place i hi) (position_low r pr.ends pr.tree (get_or (children r u) i 0) child_low)

      module _ (j : ℕ) (hj : j < length (neighbours f v)) where
        neighbour_in_lem : T (mem (get_or (neighbours f v) j 0) (neighbours f v))
        neighbour_in_lem = get_d_mem (neighbours f v) j hj

        neighbour_joined : Adjacent f v (get_or (neighbours f v) j 0)
        neighbour_joined = (mem_adjacent f v (get_or (neighbours f v) j 0) neighbour_in_lem).1

        neighbour_edge_seen : EdgeSeen f v (get_or (neighbours f v) j 0) (neighbour_edge_in plan v j)
        neighbour_edge_seen = edge_seen f (ready_sound N) v (get_or (neighbours f v) j 0) neighbour_joined (neighbour_edge_in plan v j) ((N.planned.found v Q.v_low).edge j hj)

        pub edge_low : label_seen (neighbour_edge_in plan v j) < edge_labels table
        edge_low = known_seen pf neighbour_joined neighbour_edge_seen

        -- v is one of the neighbour's choices of s
        pub back_in : T (mem v (choices f (get_or (neighbours f v) j 0)))
        back_in =
            let x = get_or (neighbours f v) j 0 in
            mem_there v x (neighbours f x) (adjacent_mem f pf.ends x v (adjacent_back f v x (mem_adjacent f v x neighbour_in_lem).1))

        -- the number behind a branch is that of its subproblem
        pub branch_index : child_place_in plan u i * width f + behind_in plan v j ≡ index r f (get_or (children r u) i 0) (get_or (neighbours f v) j 0) v
        unfolding index
        branch_index = rw ((N.planned.recorded u Q.u_low).child_place i hi, (N.planned.found v Q.v_low).behind j hj)

        pub branch_low : child_place_in plan u i * width f + behind_in plan v j < subproblems r f
        branch_low = rw branch_index (index_low r f pr.ends pr.tree pf.ends pf.tree (get_or (children r u) i 0) (get_or (neighbours f v) j 0) v child_low (mem_adjacent f v (get_or (neighbours f v) j 0) neighbour_in_lem).0 back_in)

        -- the branch's gain, where y is the value behind it
        pub gain_is : (given : ℕ → ℕ → ℕ → Weight) (edge y : ℤ) (g : ℕ) → EdgePair table (child_edge_in plan u i) (neighbour_edge_in plan v j) edge → given (get_or (children r u) i 0) (get_or (neighbours f v) j 0) v ≡ weighed y → GainIs edge y g → g ≡ gain_at table r f given u v i j
        unfolding gain_at
        gain_is given edge y g e h G = rw (E, h) G.is
          where
            E : edge_pair table r f u (get_or (children r u) i 0) v (get_or (neighbours f v) j 0) ≡ weighed edge
            E = e.is r f u (get_or (children r u) i 0) v (get_or (neighbours f v) j 0) child_edge_seen neighbour_edge_seen
