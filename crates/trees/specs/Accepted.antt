-- What items 3 to 7 and 25 say of a tree's bytes: as records for what a pass of each gives, and item 6 as the paper's sentence. Assumes nothing.
use Rattle.std.specs.Prelude.{◌≡◌, refl, ◌↔◌, Bool, true, false, not, ◌&&◌, List, ℕ, zero, suc, ◌+◌, ◌*◌, ◌-◌, ◌≤◌, ◌<◌, length, eqb, ltb, leb}
use Rattle.std.proofs.Common.{sym, ap, ◌∙◌, inr, ⊎_elim, true≢false, arith, mul-le-mul, eqb-true, eq-eqb, ltb-true, leb-true}
use Rattle.std.proofs.lemmas.Bool.{eqb-false}
use Rattle.foundations.specs.Tests.{and_split, not_says, is_false}
use Rattle.foundations.specs.Lists.{every, every_at, every_fails}
use Rattle.model.specs.Limits.{edge_label_limit, vertex_limit}
use Rattle.model.specs.Edges.{Closes, component}
use Rattle.model.specs.Lengths.{vertex_length, serial_vertex_length}
use Rattle.model.specs.Tree.{count, with_serials, vertex_size, vertex_start, tree_size, vertex_label, end_a, end_b, edge_label_at, sized, marked, labels_known, ends_low, closes, acyclic, few_edges, serials_differ, tree_items, tree_item}
use Rattle.trees.specs.Items.{Numbered, end, more, first_zero}
use Rattle.trees.specs.Components.{AllFresh, component_walk, walk_component}

-- ---- length and count, then the ends too

pub record Whole (s : List ℕ) (n : ℕ) : Type 0 where
  pub some : 1 ≤ n
  pub few : n ≤ vertex_limit
  pub long : length s ≡ tree_size s n

pub record Ends (s : List ℕ) (n : ℕ) : Type 0 where
  pub some : 1 ≤ n
  pub few : n ≤ vertex_limit
  pub long : length s ≡ tree_size s n
  pub low : (j : ℕ) → j < n - 1 → (end_a s n j < n) × (end_b s n j < n)

pub whole : {s : List ℕ} {n : ℕ} → Ends s n → Whole s n
whole e = record { some = e.some; few = e.few; long = e.long }

pub sized_says : (s : List ℕ) → sized s ≡ true → Whole s (count s)
unfolding sized
sized_says s h =
    let a = and_split (leb 1 (count s) && leb (count s) vertex_limit) (eqb (length s) (tree_size s (count s))) h in
    let b = and_split (leb 1 (count s)) (leb (count s) vertex_limit) a.0 in
    record { some = leb-true 1 (count s) b.0; few = leb-true (count s) vertex_limit b.1; long = eqb-true (length s) (tree_size s (count s)) a.1 }

-- ---- the two kinds of vertex records

pub size_with : (s : List ℕ) → with_serials s ≡ true → vertex_size s ≡ serial_vertex_length
unfolding vertex_size
size_with s e = rw e

pub size_without : (s : List ℕ) → with_serials s ≡ false → vertex_size s ≡ vertex_length
unfolding vertex_size
size_without s e = rw e

pub long_with : {s : List ℕ} {n : ℕ} → Whole s n → with_serials s ≡ true → length s ≡ 12 * n - 2
long_with {s} w e = let one = w.some in w.long ∙ rw (size_with s e) (omega arith)

pub long_without : {s : List ℕ} {n : ℕ} → Whole s n → with_serials s ≡ false → length s ≡ 8 * n - 2
long_without {s} w e = let one = w.some in w.long ∙ rw (size_without s e) (omega arith)

-- either is one of two lengths
pub size_few : (s : List ℕ) → (vertex_length ≤ vertex_size s) × (vertex_size s ≤ serial_vertex_length)
size_few s = go (with_serials s) refl
  where
    go : (t : Bool) → with_serials s ≡ t → (vertex_length ≤ vertex_size s) × (vertex_size s ≤ serial_vertex_length)
    go true e = rw (size_with s e) (omega arith, omega arith)
    go false e = rw (size_without s e) (omega arith, omega arith)

pub sizes_few : (s : List ℕ) (k m : ℕ) → k ≤ m → vertex_size s * k ≤ serial_vertex_length * m
sizes_few s k m h = mul-le-mul (size_few s).1 h

-- a vertex record lies inside, with its mark and label
pub vertex_inside : {s : List ℕ} {n : ℕ} → Whole s n → (v : ℕ) → v < n → vertex_start s v + vertex_length ≤ length s
vertex_inside {s} {n} w v h =
    let a : vertex_size s * (v + 1) ≤ vertex_size s * n = mul-le-mul (omega arith) (omega arith) in
    let b : vertex_size s * (v + 1) ≡ vertex_size s * v + vertex_size s = omega arith in
    let d = (size_few s).0 in
    let e = w.long in
    omega arith

-- the first vertex record is there
pub long_some : {s : List ℕ} {n : ℕ} → Whole s n → 6 ≤ length s
long_some {s} {n} w = go (with_serials s) refl
  where
    one : 1 ≤ n
    one = w.some

    go : (t : Bool) → with_serials s ≡ t → 6 ≤ length s
    go true e = let l = long_with w e in omega (arith, one)
    go false e = let l = long_without w e in omega (arith, one)

pub ends_say : (s : List ℕ) (n : ℕ) → Whole s n → ends_low s n ≡ true → Ends s n
unfolding ends_low
ends_say s n w h =
    record {
      some = w.some;
      few = w.few;
      long = w.long;
      low =
          λ j l.
          let e = and_split (ltb (end_a s n j) n) (ltb (end_b s n j) n) (every_at (λ j. ltb (end_a s n j) n && ltb (end_b s n j) n) j (n - 1) h l) in
          (ltb-true (end_a s n j) n e.0, ltb-true (end_b s n j) n e.1);
    }

-- ---- item 6 is the paper's sentence

-- edge j closes a cycle by the test exactly if its ends are the same or connected by a path of earlier edges
pub closes_decides : (s : List ℕ) (n j : ℕ) → (closes s n j ≡ true) ↔ Closes (end_a s n) (end_b s n) j
unfolding closes
closes_decides s n j = (
  λ h. inr (component_walk (end_a s n) (end_b s n) j (end_a s n j) (end_b s n j) (eqb-true _ _ h)),
  λ c. eq-eqb _ _ (⊎_elim (λ e. ap (component (end_a s n) (end_b s n) j) e) (λ w. walk_component (end_a s n) (end_b s n) j w) c),
)

-- item 6 applies exactly if an edge does
pub acyclic_decides : (s : List ℕ) (n : ℕ) → (acyclic s n ≡ false) ↔ ((j : ℕ) × (j < n - 1) × Closes (end_a s n) (end_b s n) j)
unfolding acyclic every
acyclic_decides s n = (find (n - 1), λ c. every_fails (λ j. not (closes s n j)) c.0 (n - 1) c.1 (rw ((closes_decides s n c.0).1 c.2)))
  where
    find : (k : ℕ) → every (λ j. not (closes s n j)) k ≡ false → (j : ℕ) × (j < k) × Closes (end_a s n) (end_b s n) j
    find zero h = absurd (true≢false h)
    find (suc k) h = step (closes s n k) refl (find k)
      where
        step : (t : Bool) → closes s n k ≡ t → (every (λ j. not (closes s n j)) k ≡ false → (j : ℕ) × (j < k) × Closes (end_a s n) (end_b s n) j) → (j : ℕ) × (j < suc k) × Closes (end_a s n) (end_b s n) j
        step true e r = (k, omega arith, (closes_decides s n k).0 e)
        step false e r = let q = r (early e) in (q.0, omega (arith, q.1), q.2)
          where
            early : closes s n k ≡ false → every (λ j. not (closes s n j)) k ≡ false
            early e = is_false _ (λ a. true≢false (sym (rw (a, e)) ∙ h))

pub acyclic_fresh : (s : List ℕ) (n : ℕ) → acyclic s n ≡ true → AllFresh (end_a s n) (end_b s n) (n - 1)
unfolding acyclic closes
acyclic_fresh s n h j l = eqb-false _ _ (not_says _ (every_at (λ j. not (closes s n j)) j (n - 1) h l))

-- ---- a tree that items 3 to 7 and 25 let pass

pub record Passed (s : List ℕ) (K L : ℕ) : Type 0 where
  pub ends : Ends s (count s)
  pub marks : marked s (count s) ≡ true
  pub labels : labels_known s (count s) K L ≡ true
  pub tree : acyclic s (count s) ≡ true
  pub degrees : few_edges s (count s) ≡ true
  pub serials : serials_differ s (count s) ≡ true

-- a tree that passes for some numbers of labels, as a table has them
pub record Sound (s : List ℕ) : Type 0 where
  pub K : ℕ
  pub L : ℕ
  pub few_labels : L ≤ edge_label_limit
  pub passed : Passed s K L

pub tree_numbered : (first twice : ℕ) (s : List ℕ) (K L : ℕ) → 1 ≤ first → 1 ≤ twice → Numbered (tree_items first twice s K L)
tree_numbered first twice s K L h g = more h (more {k = first + 1} (omega arith) (more {k = first + 2} (omega arith) (more {k = first + 3} (omega arith) (more {k = first + 4} (omega arith) (more g end)))))

pub tree_passed : (first twice : ℕ) (s : List ℕ) (K L : ℕ) → 1 ≤ first → 1 ≤ twice → tree_item first twice s K L ≡ 0 → Passed s K L
unfolding tree_item
tree_passed first twice s K L one two h =
    let a = first_zero (sized s && marked s (count s)) first _ one h in
    let b = first_zero (labels_known s (count s) K L) (first + 1) _ (omega arith) a.1 in
    let c = first_zero (ends_low s (count s)) (first + 2) _ (omega arith) b.1 in
    let d = first_zero (acyclic s (count s)) (first + 3) _ (omega arith) c.1 in
    let e = first_zero (few_edges s (count s)) (first + 4) _ (omega arith) d.1 in
    let f = first_zero (serials_differ s (count s)) twice _ two e.1 in
    let g = and_split (sized s) (marked s (count s)) a.0 in
    record { ends = ends_say s (count s) (sized_says s g.0) c.0; marks = g.1; labels = b.0; tree = d.0; degrees = e.0; serials = f.0 }

-- each label is in the table
pub vertex_known : (s : List ℕ) (K L v : ℕ) → Passed s K L → v < count s → vertex_label s v < K
unfolding labels_known
vertex_known s K L v p l = ltb-true (vertex_label s v) K (every_at (λ v. ltb (vertex_label s v) K) v (count s) (and_split (every (λ v. ltb (vertex_label s v) K) (count s)) _ p.labels).0 l)

pub edge_known : (s : List ℕ) (K L j : ℕ) → Passed s K L → j < count s - 1 → edge_label_at s (count s) j < L
unfolding labels_known
edge_known s K L j p l = ltb-true (edge_label_at s (count s) j) L (every_at (λ j. ltb (edge_label_at s (count s) j) L) j (count s - 1) (and_split (every (λ v. ltb (vertex_label s v) K) (count s)) (every (λ j. ltb (edge_label_at s (count s) j) L) (count s - 1)) p.labels).1 l)
