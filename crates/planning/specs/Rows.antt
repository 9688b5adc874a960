-- How the plan's rows come about: what was read of either tree, a vertex's four rows stored, and its own row with label and serial. Assumes nothing.
use Rattle.std.specs.Prelude.{◌≡◌, refl, ◌≢◌, List, [], ℕ, ◌+◌, ◌*◌, ◌≤◌, ◌<◌, length, get_or, set}
use Rattle.std.proofs.Common.{◌∙◌, inl, ⊎_elim, arith, not-suc-le-zero, length-set, get_or-set_same, get_or-set_other}
use Rattle.foundations.specs.Tests.{same?}
use Rattle.foundations.specs.Members.{get_d_mem}
use Rattle.model.specs.Limits.{width_limit, degree_limit, vertex_limit}
use Rattle.model.specs.Bytes.{word_at, put_word}
use Rattle.model.specs.Tree.{count, vertex_label, serial}
use Rattle.model.specs.Graph.{neighbours, neighbour_table}
use Rattle.model.specs.Order.{children, postorder, position, offset}
use Rattle.integers.specs.Laws.{word_other, word_put}
use Rattle.trees.specs.Accepted.{Sound}
use Rattle.trees.specs.Directions.{seen_table, seen_at}
use Rattle.trees.specs.Neighbours.{few_neighbours, neighbour_at}
use Rattle.trees.specs.Visits.{OrderOf, Ordered, ordered, ordered_different, Different, Placed, placed_position}
use Rattle.plan.specs.Plan.{plan_rows, found_row, recorded_vertices, found_vertices, RecordedIn, FoundIn, VertexIn, Planned}
use Rattle.planning.specs.Parents.{LaterAt, at_or, parent_at, parent_edge_at}
use Rattle.planning.specs.Making.{TakenPlaces, taken_neighbours, Starts, ChildrenTo, ChildrenAre, children_are, BehindTo, behind_is}

-- ---- what was read

pub record RecordedRead (r : List ℕ) (rows edges : List (List ℕ)) (order place : List ℕ) : Type 0 where
  pub sound : Sound r
  pub neighbours : rows ≡ neighbour_table r
  pub edges_seen : edges ≡ seen_table r
  pub ordered : (i : ℕ) → i < count r → get_or order i 0 ≡ get_or (postorder r) i 0
  pub placed : (u : ℕ) → u < count r → get_or place u 0 ≡ position r u

pub record FoundRead (f : List ℕ) (rows edges : List (List ℕ)) (starts : List ℕ) : Type 0 where
  pub sound : Sound f
  pub neighbours : rows ≡ neighbour_table f
  pub edges_seen : edges ≡ seen_table f
  pub offsets : (v : ℕ) → v ≤ count f → get_or starts v 0 ≡ offset f v
  pub small : (v : ℕ) → get_or starts v 0 ≤ width_limit

-- ---- a vertex's four rows, one in each block; the first is row h

abbrev pub stored : ℕ → ℕ → ℕ → List (List ℕ) → List ℕ → List ℕ → List ℕ → List ℕ → List (List ℕ)
stored h a u plan w x y z = set (set (set (set plan h w) (a + vertex_limit + u) x) (a + 2 * vertex_limit + u) y) (a + 3 * vertex_limit + u) z

module _ (h a u : ℕ) (plan : List (List ℕ)) (w x y z : List ℕ) where
  pub stored_long : length (stored h a u plan w x y z) ≡ length plan
  stored_long =
      length-set (set (set (set plan h w) (a + vertex_limit + u) x) (a + 2 * vertex_limit + u) y) (a + 3 * vertex_limit + u) z
      ∙ length-set (set (set plan h w) (a + vertex_limit + u) x) (a + 2 * vertex_limit + u) y
      ∙ length-set (set plan h w) (a + vertex_limit + u) x
      ∙ length-set plan h w

  -- what is none of the four stays
  pub stored_other : (i : ℕ) → i ≢ h → i ≢ a + vertex_limit + u → i ≢ a + 2 * vertex_limit + u → i ≢ a + 3 * vertex_limit + u → get_or (stored h a u plan w x y z) i [] ≡ get_or plan i []
  stored_other i p q r s =
      get_or-set_other (set (set (set plan h w) (a + vertex_limit + u) x) (a + 2 * vertex_limit + u) y) (a + 3 * vertex_limit + u) i z [] s
      ∙ get_or-set_other (set (set plan h w) (a + vertex_limit + u) x) (a + 2 * vertex_limit + u) i y [] r
      ∙ get_or-set_other (set plan h w) (a + vertex_limit + u) i x [] q
      ∙ get_or-set_other plan h i w [] p

  module _ (first : h ≡ a + u) (room : a + 3 * vertex_limit + u < length plan) where
    pub stored_1 : get_or (stored h a u plan w x y z) h [] ≡ w
    stored_1 =
        get_or-set_other (set (set (set plan h w) (a + vertex_limit + u) x) (a + 2 * vertex_limit + u) y) (a + 3 * vertex_limit + u) h z [] (λ e. omega arith)
        ∙ get_or-set_other (set (set plan h w) (a + vertex_limit + u) x) (a + 2 * vertex_limit + u) h y [] (λ e. omega arith)
        ∙ get_or-set_other (set plan h w) (a + vertex_limit + u) h x [] (λ e. omega arith)
        ∙ get_or-set_same plan h w [] (omega arith)

    pub stored_2 : get_or (stored h a u plan w x y z) (a + vertex_limit + u) [] ≡ x
    stored_2 =
        let n : length (set plan h w) ≡ length plan = length-set plan h w in
        get_or-set_other (set (set (set plan h w) (a + vertex_limit + u) x) (a + 2 * vertex_limit + u) y) (a + 3 * vertex_limit + u) (a + vertex_limit + u) z [] (λ e. omega arith)
        ∙ get_or-set_other (set (set plan h w) (a + vertex_limit + u) x) (a + 2 * vertex_limit + u) (a + vertex_limit + u) y [] (λ e. omega arith)
        ∙ get_or-set_same (set plan h w) (a + vertex_limit + u) x [] (omega arith)

    pub stored_3 : get_or (stored h a u plan w x y z) (a + 2 * vertex_limit + u) [] ≡ y
    stored_3 =
        let n : length (set (set plan h w) (a + vertex_limit + u) x) ≡ length plan = length-set (set plan h w) (a + vertex_limit + u) x ∙ length-set plan h w in
        get_or-set_other (set (set (set plan h w) (a + vertex_limit + u) x) (a + 2 * vertex_limit + u) y) (a + 3 * vertex_limit + u) (a + 2 * vertex_limit + u) z [] (λ e. omega arith)
        ∙ get_or-set_same (set (set plan h w) (a + vertex_limit + u) x) (a + 2 * vertex_limit + u) y [] (omega arith)

    pub stored_4 : get_or (stored h a u plan w x y z) (a + 3 * vertex_limit + u) [] ≡ z
    stored_4 =
        let n : length (set (set (set plan h w) (a + vertex_limit + u) x) (a + 2 * vertex_limit + u) y) ≡ length plan = length-set (set (set plan h w) (a + vertex_limit + u) x) (a + 2 * vertex_limit + u) y ∙ length-set (set plan h w) (a + vertex_limit + u) x ∙ length-set plan h w in
        get_or-set_same (set (set (set plan h w) (a + vertex_limit + u) x) (a + 2 * vertex_limit + u) y) (a + 3 * vertex_limit + u) z [] (omega arith)

-- ---- the recorded tree's

-- the laws of u read its four rows alone
recorded_same : (r : List ℕ) (plan plan' : List (List ℕ)) (u : ℕ) → get_or plan' u [] ≡ get_or plan u [] → get_or plan' (vertex_limit + u) [] ≡ get_or plan (vertex_limit + u) [] → get_or plan' (2 * vertex_limit + u) [] ≡ get_or plan (2 * vertex_limit + u) [] → get_or plan' (3 * vertex_limit + u) [] ≡ get_or plan (3 * vertex_limit + u) [] → RecordedIn r plan u → RecordedIn r plan' u
recorded_same r plan plan' u a b c d R = record {
  child_count = rw a R.child_count;
  few = R.few;
  place = rw a R.place;
  order = rw a R.order;
  above = rw a R.above;
  above_edge = λ z. rw a (R.above_edge z);
  child = λ i h. rw b (R.child i h);
  child_edge = λ i h. rw c (R.child_edge i h);
  child_place = λ i h. rw d (R.child_place i h);
}

-- the first row of u
pub record Head (row : List ℕ) (c own at up edge : ℕ) : Type 0 where
  pub number : get_or row 0 0 ≡ c
  pub place : get_or row 1 0 ≡ own
  pub order : get_or row 2 0 ≡ at
  pub above : get_or row 3 0 ≡ up
  pub edge_is : get_or row 4 0 ≡ edge

-- the first u vertices' rows, and the found half as it was
pub record RecordedHalf (r : List ℕ) (old plan : List (List ℕ)) (u : ℕ) : Type 0 where
  pub long : length plan ≡ plan_rows
  pub get : (x : ℕ) → x < u → RecordedIn r plan x
  pub kept : (x : ℕ) → found_row ≤ x → get_or plan x [] ≡ get_or old x []

pub recorded_none : (r : List ℕ) (plan : List (List ℕ)) → length plan ≡ plan_rows → RecordedHalf r plan plan 0
recorded_none r plan e = record { long = e; get = λ x h. absurd (not-suc-le-zero h); kept = λ x h. refl }

pub recorded_more : {r : List ℕ} {rows edges : List (List ℕ)} {order place : List ℕ} → RecordedRead r rows edges order place → (old plan : List (List ℕ)) (u : ℕ) → u < count r → RecordedHalf r old plan u
    → (c : ℕ) (edge at vertex head : List ℕ) (k : ℕ) → ChildrenTo (get_or rows u []) (get_or edges u []) place (get_or place u 0) degree_limit c edge at vertex → LaterAt (get_or rows u []) place (get_or place u 0) k
    → Head head c (get_or place u 0) (get_or order u 0) (at_or (get_or rows u []) k) (at_or (get_or edges u []) k)
    → RecordedHalf r old (set (set (set (set plan u head) (vertex_limit + u) vertex) (2 * vertex_limit + u) edge) (3 * vertex_limit + u) at) (u + 1)
recorded_more {r} {rows} {edges} {order} {place} N old plan u lu P c edge at vertex head k C F H =
    let p = N.sound.passed in
    let few : count r ≤ vertex_limit = p.ends.few in
    let n : length plan ≡ plan_rows = P.long in
    let K : ChildrenAre r u c edge at vertex = children_are r _ _ p place N.placed u c edge at vertex lu (rw (N.neighbours, N.edges_seen, N.placed u lu) at C) in
    let G : LaterAt (get_or (neighbour_table r) u []) place (position r u) k = rw (N.neighbours, N.placed u lu) at F in
    let used : c ≡ length (children r u) = K.used in
    let a1 = stored_1 u 0 u plan head vertex edge at (omega arith) (omega arith) in
    let a2 = stored_2 u 0 u plan head vertex edge at (omega arith) (omega arith) in
    let a3 = stored_3 u 0 u plan head vertex edge at (omega arith) (omega arith) in
    let a4 = stored_4 u 0 u plan head vertex edge at (omega arith) (omega arith) in
    let o = stored_other u 0 u plan head vertex edge at in
    record {
      long = stored_long u 0 u plan head vertex edge at ∙ n;
      get = λ x h. ⊎_elim
          (λ e. rw e (record {
            child_count = rw a1 (H.number ∙ used);
            few = let b : c ≤ degree_limit = K.few in omega arith;
            place = rw a1 (H.place ∙ N.placed u lu);
            order = rw a1 (H.order ∙ N.ordered u lu);
            above = rw a1 (H.above ∙ rw N.neighbours (parent_at r _ _ p place N.placed u k lu G));
            above_edge = λ z. rw a1 (H.edge_is ∙ rw N.edges_seen (parent_edge_at r _ _ p place N.placed u k lu G z));
            child = λ i l. rw a2 (K.names i (omega arith));
            child_edge = λ i l. rw a3 (K.get i (omega arith)).edge_is;
            child_place = λ i l. rw a4 (K.get i (omega arith)).begins;
          }))
          (λ e. recorded_same r plan _ x
          (o x (λ q. omega arith) (λ q. omega arith) (λ q. omega arith) (λ q. omega arith))
          (o (vertex_limit + x) (λ q. omega arith) (λ q. omega arith) (λ q. omega arith) (λ q. omega arith))
          (o (2 * vertex_limit + x) (λ q. omega arith) (λ q. omega arith) (λ q. omega arith) (λ q. omega arith))
          (o (3 * vertex_limit + x) (λ q. omega arith) (λ q. omega arith) (λ q. omega arith) (λ q. omega arith))
          (P.get x (omega arith)))
          (same? x u);
      kept = λ x h. o x (λ q. omega arith) (λ q. omega arith) (λ q. omega arith) (λ q. omega arith) ∙ P.kept x h;
    }

-- ---- the found tree's

found_same : (f : List ℕ) (plan plan' : List (List ℕ)) (v : ℕ) → get_or plan' (found_row + v) [] ≡ get_or plan (found_row + v) [] → get_or plan' (6 * vertex_limit + v) [] ≡ get_or plan (6 * vertex_limit + v) [] → get_or plan' (7 * vertex_limit + v) [] ≡ get_or plan (7 * vertex_limit + v) [] → get_or plan' (8 * vertex_limit + v) [] ≡ get_or plan (8 * vertex_limit + v) [] → FoundIn f plan v → FoundIn f plan' v
found_same f plan plan' v a b c d F = record {
  degree = rw a F.degree;
  begins = rw a F.begins;
  neighbour = λ j h. rw b (F.neighbour j h);
  edge = λ j h. rw c (F.edge j h);
  behind = λ j h. rw d (F.behind j h);
}

-- the first v vertices' rows, and the recorded half as it was
pub record FoundHalf (f : List ℕ) (old plan : List (List ℕ)) (v : ℕ) : Type 0 where
  pub long : length plan ≡ plan_rows
  pub get : (x : ℕ) → x < v → FoundIn f plan x
  pub kept : (x : ℕ) → x < found_row → get_or plan x [] ≡ get_or old x []

pub found_none : (f : List ℕ) (plan : List (List ℕ)) → length plan ≡ plan_rows → FoundHalf f plan plan 0
found_none f plan e = record { long = e; get = λ x h. absurd (not-suc-le-zero h); kept = λ x h. refl }

pub found_more : {f : List ℕ} {rows edges : List (List ℕ)} {starts : List ℕ} → FoundRead f rows edges starts → (old plan : List (List ℕ)) (v : ℕ) → v < count f → FoundHalf f old plan v
    → (k : ℕ) (back head : List ℕ) → TakenPlaces (get_or rows v []) k → BehindTo rows starts v degree_limit back → get_or head 0 0 ≡ k → get_or head 1 0 ≡ get_or starts v 0
    → FoundHalf f old (set (set (set (set plan (found_row + v) head) (6 * vertex_limit + v) (get_or rows v [])) (7 * vertex_limit + v) (get_or edges v [])) (8 * vertex_limit + v) back) (v + 1)
found_more {f} {rows} {edges} {starts} N old plan v lv P k back head t B e0 e1 =
    let p = N.sound.passed in
    let few : count f ≤ vertex_limit = p.ends.few in
    let n : length plan ≡ plan_rows = P.long in
    let used : k ≡ length (neighbours f v) = taken_neighbours f _ _ p v k lv (rw N.neighbours at t) in
    let d : length (neighbours f v) ≤ degree_limit = few_neighbours f _ _ p v lv in
    let a1 = stored_1 (found_row + v) found_row v plan head (get_or rows v []) (get_or edges v []) back refl (omega arith) in
    let a2 = stored_2 (found_row + v) found_row v plan head (get_or rows v []) (get_or edges v []) back refl (omega arith) in
    let a3 = stored_3 (found_row + v) found_row v plan head (get_or rows v []) (get_or edges v []) back refl (omega arith) in
    let a4 = stored_4 (found_row + v) found_row v plan head (get_or rows v []) (get_or edges v []) back refl (omega arith) in
    let o = stored_other (found_row + v) found_row v plan head (get_or rows v []) (get_or edges v []) back in
    record {
      long = stored_long (found_row + v) found_row v plan head (get_or rows v []) (get_or edges v []) back ∙ n;
      get = λ x h. ⊎_elim
          (λ e. rw e (record {
            degree = rw a1 (e0 ∙ used);
            begins = rw a1 (e1 ∙ N.offsets v (omega arith));
            neighbour = λ j l. rw a2 (named j l);
            edge = λ j l. rw (a3, N.edges_seen) (seen_at f _ _ p v j lv l);
            behind = λ j l. rw a4 (behind_is f _ _ p starts N.offsets v (get_or (neighbours f v) j 0) (get_or back j 0) lv (get_d_mem (neighbours f v) j l) (rw (named j l, N.neighbours) at (B.get j (omega arith))));
          }))
          (λ e. found_same f plan _ x
          (o (found_row + x) (λ q. omega arith) (λ q. omega arith) (λ q. omega arith) (λ q. omega arith))
          (o (6 * vertex_limit + x) (λ q. omega arith) (λ q. omega arith) (λ q. omega arith) (λ q. omega arith))
          (o (7 * vertex_limit + x) (λ q. omega arith) (λ q. omega arith) (λ q. omega arith) (λ q. omega arith))
          (o (8 * vertex_limit + x) (λ q. omega arith) (λ q. omega arith) (λ q. omega arith) (λ q. omega arith))
          (P.get x (omega arith)))
          (same? x v);
      kept = λ x h. o x (λ q. omega arith) (λ q. omega arith) (λ q. omega arith) (λ q. omega arith) ∙ P.kept x h;
    }
  where
    named : (j : ℕ) → j < length (neighbours f v) → get_or (get_or rows v []) j 0 ≡ get_or (neighbours f v) j 0
    named j l = rw N.neighbours (neighbour_at f _ _ N.sound.passed v j lv l)

-- ---- the vertices' own rows, of either tree

-- the row of a label and a serial
pub record VertexRow (label own : ℕ) (row : List ℕ) : Type 0 where
  pub label_is : get_or row 0 0 ≡ label
  pub serial_is : word_at row 4 ≡ own

pub vertex_row_lem : (row : List ℕ) (label own : ℕ) → length row ≡ degree_limit → VertexRow label own (put_word (set row 0 label) 4 own)
vertex_row_lem row label own e =
    let n : length (set row 0 label) ≡ degree_limit = length-set row 0 label ∙ e in
    record {
      label_is = word_other (set row 0 label) 4 own 0 (inl (omega arith)) ∙ get_or-set_same row 0 label 0 (omega arith);
      serial_is = word_put (set row 0 label) 4 own (omega arith);
    }

vertex_same : (s : List ℕ) (plan plan' : List (List ℕ)) (first x : ℕ) → get_or plan' (first + x) [] ≡ get_or plan (first + x) [] → VertexIn s plan first x → VertexIn s plan' first x
vertex_same s plan plan' first x e I = record { label = rw e I.label; own = rw e I.own }

-- the rows of the first v vertices from row `first` on, and what stands before and behind a block as it was
pub record VerticesHere (s : List ℕ) (first : ℕ) (old plan : List (List ℕ)) (v : ℕ) : Type 0 where
  pub long : length plan ≡ plan_rows
  pub get : (x : ℕ) → x < v → VertexIn s plan first x
  pub before : (i : ℕ) → i < first → get_or plan i [] ≡ get_or old i []
  pub behind : (i : ℕ) → first + vertex_limit ≤ i → get_or plan i [] ≡ get_or old i []
  pub few : v ≤ vertex_limit

pub vertices_none : (s : List ℕ) (first : ℕ) (plan : List (List ℕ)) → length plan ≡ plan_rows → VerticesHere s first plan plan 0
vertices_none s first plan e = record { long = e; get = λ x h. absurd (not-suc-le-zero h); before = λ i h. refl; behind = λ i h. refl; few = omega arith }

pub vertices_more : {s : List ℕ} {first : ℕ} {old plan : List (List ℕ)} {v : ℕ} {row : List ℕ} → first + vertex_limit ≤ plan_rows → v < vertex_limit → VerticesHere s first old plan v → VertexRow (vertex_label s v) (serial s v) row → VerticesHere s first old (set plan (first + v) row) (v + 1)
vertices_more {s} {first} {old} {plan} {v} {row} room low H R =
    let n : length plan ≡ plan_rows = H.long in
    let a : get_or (set plan (first + v) row) (first + v) [] ≡ row = get_or-set_same plan (first + v) row [] (omega arith) in
    record {
      long = length-set plan (first + v) row ∙ n;
      get = λ x h. ⊎_elim
          (λ e. rw e (record { label = rw a R.label_is; own = rw a R.serial_is }))
          (λ e. vertex_same s plan _ first x (get_or-set_other plan (first + v) (first + x) row [] (λ q. e (omega arith))) (H.get x (omega arith)))
          (same? x v);
      before = λ i h. get_or-set_other plan (first + v) i row [] (λ q. omega arith) ∙ H.before i h;
      behind = λ i h. get_or-set_other plan (first + v) i row [] (λ q. omega arith) ∙ H.behind i h;
      few = omega arith;
    }

-- ---- each half with them

pub record RecordedMade (r : List ℕ) (old plan : List (List ℕ)) : Type 0 where
  pub rows : RecordedHalf r old plan (count r)
  pub own : (u : ℕ) → u < count r → VertexIn r plan recorded_vertices u

pub recorded_made : {r : List ℕ} {old mid plan : List (List ℕ)} → RecordedHalf r old mid (count r) → VerticesHere r recorded_vertices mid plan (count r) → RecordedMade r old plan
recorded_made {r} {old} {mid} {plan} R H =
    let b = H.before in
    let few : count r ≤ vertex_limit = H.few in
    record {
      rows = record {
        long = H.long;
        get = λ x h. recorded_same r mid plan x (b x (omega arith)) (b (vertex_limit + x) (omega arith)) (b (2 * vertex_limit + x) (omega arith)) (b (3 * vertex_limit + x) (omega arith)) (R.get x h);
        kept = λ x h. H.behind x (omega arith) ∙ R.kept x h;
      };
      own = H.get;
    }

pub record FoundMade (f : List ℕ) (old plan : List (List ℕ)) : Type 0 where
  pub rows : FoundHalf f old plan (count f)
  pub own : (v : ℕ) → v < count f → VertexIn f plan found_vertices v

pub found_made : {f : List ℕ} {old mid plan : List (List ℕ)} → FoundHalf f old mid (count f) → VerticesHere f found_vertices mid plan (count f) → FoundMade f old plan
found_made {f} {old} {mid} {plan} F H =
    let b = H.before in
    let few : count f ≤ vertex_limit = H.few in
    record {
      rows = record {
        long = H.long;
        get = λ x h. found_same f mid plan x (b (found_row + x) (omega arith)) (b (6 * vertex_limit + x) (omega arith)) (b (7 * vertex_limit + x) (omega arith)) (b (8 * vertex_limit + x) (omega arith)) (F.get x h);
        kept = λ x h. b x (omega arith) ∙ F.kept x h;
      };
      own = H.get;
    }

-- ---- both

pub planned : {r f : List ℕ} {old plan plan' : List (List ℕ)} → count r ≤ vertex_limit → RecordedMade r old plan → FoundMade f plan plan' → Planned r f plan'
planned {r} {f} {old} {plan} {plan'} few R F =
    let k = F.rows.kept in
    record {
      recorded = λ u l. recorded_same r plan plan' u (k u (omega arith)) (k (vertex_limit + u) (omega arith)) (k (2 * vertex_limit + u) (omega arith)) (k (3 * vertex_limit + u) (omega arith)) (R.rows.get u l);
      recorded_vertex = λ u l. vertex_same r plan plan' recorded_vertices u (k (recorded_vertices + u) (omega arith)) (R.own u l);
      found = F.rows.get;
      found_vertex = F.own;
    }

-- ---- the postorder that was found

module _ {r : List ℕ} (S : Sound r) {rows : List (List ℕ)} {at : List ℕ} {len : ℕ} (e : rows ≡ neighbour_table r) (o : OrderOf rows at len) where
  order_is : Ordered r at len
  order_is = ordered r _ _ S.passed at len (o.holds r _ _ S.passed e)

  pub order_different : Different at len
  order_different = ordered_different r _ _ S.passed at len order_is

  pub recorded_read : (edges : List (List ℕ)) (place : List ℕ) → edges ≡ seen_table r → Placed at len place → RecordedRead r rows edges at place
  recorded_read edges place b p = record { sound = S; neighbours = e; edges_seen = b; ordered = order_is.get; placed = placed_position r _ _ S.passed at len order_is place p }

pub found_read : {f : List ℕ} → Sound f → {rows edges : List (List ℕ)} {starts : List ℕ} → rows ≡ neighbour_table f → edges ≡ seen_table f → Starts f (count f) starts → FoundRead f rows edges starts
found_read S a b s = record { sound = S; neighbours = a; edges_seen = b; offsets = s.offsets; small = s.small }
