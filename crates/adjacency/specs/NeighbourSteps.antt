-- The steps of the loops that find neighbours and what is seen of the edges to them. Assumes nothing.
use Rattle.std.specs.Prelude.{◌≡◌, refl, ◌⊎◌, List, [], Bool, true, false, ◌&&◌, ◌||◌, cond, ℕ, zero, suc, ◌+◌, ◌-◌, ◌≤◌, ◌<◌, length, get_or, set, replicate, take, eqb}
use Rattle.std.proofs.Common.{sym, ap, ◌∙◌, inl, inr, ⊎_elim, true≢false, arith, add-one, length-take, length-set, get_or-take, get_or-append-add, get_or-set_same, get_or-set_other, ext_get_or, eqb-true, eq-eqb, ne_eqb}
use Rattle.std.proofs.Math.ListN.{get_or-append}
use Rattle.std.proofs.lemmas.List.{get_or-replicate}
use Rattle.foundations.specs.Tests.{less?, same?, and_split, or_assoc, or_false, eqb_same, is_false}
use Rattle.foundations.specs.Lists.{below, below_ext, places, tab, tab_ext, get_d_tab, length_tab}
use Rattle.foundations.specs.Members.{get_d_mem, mem_below, at_once}
use Rattle.model.specs.Limits.{vertex_limit, degree_limit, no_vertex}
use Rattle.model.specs.Tree.{count, end_a, end_b, edge_label_at}
use Rattle.model.specs.Graph.{joins, joined_by, neighbours, in_places, edge_before, edge_label, upstream, neighbour_table}
use Rattle.trees.specs.Accepted.{Ends}
use Rattle.trees.specs.Directions.{from_second, seen, seen_in_place, seen_table}
use Rattle.trees.specs.Neighbours.{joined_says, adjacent_low, once_neighbours}
use Rattle.adjacency.specs.Insertion.{put_in, put_below}
use Rattle.formats.specs.TreeItems.{set_tab}

-- ---- neighbours: each vertex's row by a test of pairs

abbrev pub rows : (ℕ → ℕ → Bool) → ℕ → List (List ℕ)
rows p n = tab (λ v. in_places (below (p v) n)) vertex_limit

-- b put into the row of a
rows_more : (p : ℕ → ℕ → Bool) (n a b : ℕ) (t : List (List ℕ)) → a < vertex_limit → b < n → n ≤ vertex_limit → t ≡ rows p n → set t a (put_in b (get_or t a [])) ≡ rows (λ v w. p v w || (eqb a v && eqb b w)) n
rows_more p n a b t la lb few e =
    rw e (set_tab (λ v. in_places (below (p v) n)) (λ v. in_places (below (λ w. p v w || (eqb a v && eqb b w)) n)) vertex_limit a (put_in b (get_or (rows p n) a [])) [] la
    (ap (put_in b) (get_d_tab (λ v. in_places (below (p v) n)) vertex_limit a [] la) ∙ put_below (p a) b n lb (omega arith) ∙ ap in_places (below_ext (λ w. p a w || eqb b w) (λ w. p a w || (eqb a a && eqb b w)) n (λ w l. rw (eqb_same a))))
    (λ v l ne. ap in_places (below_ext (p v) (λ w. p v w || (eqb a v && eqb b w)) n (λ w lw. rw (ne_eqb a v (λ q. ne (sym q))) (sym (or_false (p v w)))))))

pub joined_rows : (s : List ℕ) (n j a b : ℕ) (t : List (List ℕ)) (x y : List ℕ) → a < n → b < n → n ≤ vertex_limit → a ≡ end_a s n j → b ≡ end_b s n j → t ≡ rows (λ v w. joined_by s n v w j) n
    → x ≡ put_in b (get_or t a []) → y ≡ put_in a (get_or (set t a x) b []) → set (set t a x) b y ≡ rows (λ v w. joined_by s n v w (j + 1)) n
unfolding joined_by joins
joined_rows s n j a b t x y la lb few ea eb h hx hy =
    let one : set t a x ≡ rows (λ v w. joined_by s n v w j || (eqb a v && eqb b w)) n = rw hx (rows_more (λ v w. joined_by s n v w j) n a b t (omega arith) lb few h) in
    rw hy (rows_more (λ v w. joined_by s n v w j || (eqb a v && eqb b w)) n b a (set t a x) (omega arith) la few one)
    ∙ tab_ext (λ v. in_places (below (λ w. (joined_by s n v w j || (eqb a v && eqb b w)) || (eqb b v && eqb a w)) n)) (λ v. in_places (below (λ w. joined_by s n v w (j + 1)) n)) vertex_limit
    (λ v l. ap in_places (below_ext (λ w. (joined_by s n v w j || (eqb a v && eqb b w)) || (eqb b v && eqb a w)) (λ w. joined_by s n v w (j + 1)) n
    (λ w lw. or_assoc (joined_by s n v w j) (eqb a v && eqb b w) (eqb b v && eqb a w) ∙ rw (add-one, ea, eb))))

below_none : (k : ℕ) → below (λ w. false) k ≡ []
unfolding below
below_none zero = refl
below_none (suc k) = rw (below_none k)

-- no edge yet
pub no_rows : (s : List ℕ) (n : ℕ) → replicate vertex_limit (replicate degree_limit no_vertex) ≡ rows (λ v w. joined_by s n v w 0) n
unfolding joined_by tab places
no_rows s n = rw (below_none n)

pub rows_end : (s : List ℕ) (n j : ℕ) (t : List (List ℕ)) → n ≡ count s → j ≡ n - 1 → t ≡ rows (λ v w. joined_by s n v w j) n → t ≡ neighbour_table s
unfolding neighbour_table neighbours
rows_end s n j t en ej h = h ∙ ap (λ (k : ℕ). rows (λ v w. joined_by s n v w k) n) ej ∙ ap (λ (k : ℕ). rows (λ v w. joined_by s k v w (k - 1)) k) en

-- ---- what stands in a place

-- an element of the list, or nothing
place_is : (l : List ℕ) (i : ℕ) → i < degree_limit → (get_or (in_places l) i 0 ≡ no_vertex) ⊎ ((i < length l) × (get_or (in_places l) i 0 ≡ get_or l i 0))
unfolding places
place_is l i h = ⊎_elim
    (λ b.
    let long : length (take degree_limit l) ≡ _ = length-take degree_limit l in
    inr (b, get_or-append (take degree_limit l) (replicate (degree_limit - length l) no_vertex) 0 i (omega arith) ∙ get_or-take degree_limit l i 0 h))
    (λ b.
    let long : length (take degree_limit l) ≡ length l = length-take degree_limit l ∙ omega arith in
    let e : length (take degree_limit l) + (i - length l) ≡ i = omega arith in
    inl (ap (λ (k : ℕ). get_or (in_places l) k 0) (sym e)
    ∙ get_or-append-add (take degree_limit l) (replicate (degree_limit - length l) no_vertex) (i - length l) 0
    ∙ get_or-replicate (degree_limit - length l) (i - length l) no_vertex 0 (omega arith)))
    (less? i (length l))

-- what passes the test, or nothing
place_says : (p : ℕ → Bool) (n i : ℕ) → i < degree_limit → (get_or (in_places (below p n)) i 0 ≡ no_vertex) ⊎ (p (get_or (in_places (below p n)) i 0) ≡ true)
place_says p n i h = ⊎_elim
    inl
    (λ q. inr (ap p q.1 ∙ (mem_below p n (get_or (below p n) i 0) (get_d_mem (below p n) i q.0)).1))
    (place_is (below p n) i h)

-- w stands in one place at the most
abbrev pub Once : ℕ → List ℕ → Type 0
Once w names = (i j : ℕ) → i < degree_limit → j < degree_limit → get_or names i 0 ≡ w → get_or names j 0 ≡ w → i ≡ j

-- as a vertex does in the row of any other
pub once_row : (s : List ℕ) (v w : ℕ) (N : List (List ℕ)) → N ≡ neighbour_table s → v < vertex_limit → w < vertex_limit → Once w (get_or N v [])
unfolding neighbour_table
once_row s v w N e lv lw i j hi hj ei ej = pick (place_is (neighbours s v) i hi) (place_is (neighbours s v) j hj)
  where
    row : get_or N v [] ≡ in_places (neighbours s v)
    row = ap (λ (z : List (List ℕ)). get_or z v []) e ∙ get_d_tab (λ x. in_places (neighbours s x)) vertex_limit v [] lv

    here : (k : ℕ) → get_or (get_or N v []) k 0 ≡ w → get_or (in_places (neighbours s v)) k 0 ≡ w
    here k q = ap (λ (z : List ℕ). get_or z k 0) (sym row) ∙ q

    At : ℕ → Type 0
    At k = (get_or (in_places (neighbours s v)) k 0 ≡ no_vertex) ⊎ ((k < length (neighbours s v)) × (get_or (in_places (neighbours s v)) k 0 ≡ get_or (neighbours s v) k 0))

    pick : At i → At j → i ≡ j
    pick (inl q) b = absurd (omega (arith, here i ei, q))
    pick (inr q) (inl b) = absurd (omega (arith, here j ej, b))
    pick (inr q) (inr b) = at_once (neighbours s v) i j (once_neighbours s v) q.0 b.0 (sym q.1 ∙ here i ei ∙ sym (here j ej) ∙ b.1)

-- ---- edges in the neighbours' places

-- c in the place of w, or nowhere
abbrev pub edge_in : ℕ → ℕ → List ℕ → List ℕ → ℕ → ℕ
edge_in w c names seen i = cond (eqb w (get_or names i 0)) c (get_or seen i 0)

pub edge_here : (w c i : ℕ) (names seen : List ℕ) → length seen ≡ degree_limit → i < degree_limit → Once w names → get_or names i 0 ≡ w → set seen i c ≡ tab (edge_in w c names seen) degree_limit
edge_here w c i names seen n h o e = ext_get_or 0 (set seen i c) (tab (edge_in w c names seen) degree_limit) (length-set seen i c ∙ n ∙ sym (length_tab (edge_in w c names seen) degree_limit)) (λ k b. at k (omega (arith, length-set seen i c)))
  where
    at : (k : ℕ) → k < degree_limit → get_or (set seen i c) k 0 ≡ get_or (tab (edge_in w c names seen) degree_limit) k 0
    at k b = ⊎_elim
        (λ q. rw (q, get_or-set_same seen i c 0 (omega arith), get_d_tab (edge_in w c names seen) degree_limit i 0 h, eq-eqb w (get_or names i 0) (sym e)))
        (λ q. rw (get_or-set_other seen i k c 0 q, get_d_tab (edge_in w c names seen) degree_limit k 0 b, ne_eqb w (get_or names k 0) (λ x. q (o k i b h (sym x) e))))
        (same? k i)

pub edge_nowhere : (w c i : ℕ) (names seen : List ℕ) → length seen ≡ degree_limit → degree_limit ≤ i → ((k : ℕ) → k < i → get_or names k 0 ≡ w → ⊥) → seen ≡ tab (edge_in w c names seen) degree_limit
edge_nowhere w c i names seen n h none = ext_get_or 0 seen (tab (edge_in w c names seen) degree_limit) (n ∙ sym (length_tab (edge_in w c names seen) degree_limit)) (λ k b. sym (get_d_tab (edge_in w c names seen) degree_limit k 0 (omega arith) ∙ rw (ne_eqb w (get_or names k 0) (λ x. none k (omega arith) (sym x)))))

abbrev pub edge_rows : List (List ℕ) → (ℕ → ℕ → ℕ) → List (List ℕ)
edge_rows N f = tab (λ v. tab (λ i. f v (get_or (get_or N v []) i 0)) degree_limit) vertex_limit

-- edge k seen from v, which is one of its ends
abbrev seen_of : List ℕ → ℕ → ℕ → ℕ → ℕ
seen_of s n v k = cond (eqb (end_a s n k) v) (edge_label_at s n k) (from_second (edge_label_at s n k))

-- the last of the first k edges that joins v and w, seen from v, 255 for none
unfoldable pub seen_so_far : List ℕ → ℕ → ℕ → ℕ → ℕ → ℕ
seen_so_far s n v w zero = no_vertex
seen_so_far s n v w (suc k) = cond (joins (end_a s n k) (end_b s n k) v w) (seen_of s n v k) (seen_so_far s n v w k)

-- c put into the place of b in the row of a
edges_more : (N t : List (List ℕ)) (f : ℕ → ℕ → ℕ) (a b c : ℕ) (x : List ℕ) → a < vertex_limit → t ≡ edge_rows N f → x ≡ tab (edge_in b c (get_or N a []) (get_or t a [])) degree_limit
    → set t a x ≡ edge_rows N (λ v w. cond (eqb a v && eqb b w) c (f v w))
edges_more N t f a b c x la e h =
    rw e (set_tab (λ v. tab (λ i. f v (get_or (get_or N v []) i 0)) degree_limit) (λ v. tab (λ i. cond (eqb a v && eqb b (get_or (get_or N v []) i 0)) c (f v (get_or (get_or N v []) i 0))) degree_limit) vertex_limit a x [] la
    (h ∙ tab_ext (edge_in b c (get_or N a []) (get_or t a [])) (λ i. cond (eqb a a && eqb b (get_or (get_or N a []) i 0)) c (f a (get_or (get_or N a []) i 0))) degree_limit (λ i li. rw (eqb_same a) (ap (λ z. cond (eqb b (get_or (get_or N a []) i 0)) c z) (at i li))))
    (λ v lv ne. tab_ext (λ i. f v (get_or (get_or N v []) i 0)) (λ i. cond (eqb a v && eqb b (get_or (get_or N v []) i 0)) c (f v (get_or (get_or N v []) i 0))) degree_limit (λ i li. rw (ne_eqb a v (λ q. ne (sym q))))))
  where
    at : (i : ℕ) → i < degree_limit → get_or (get_or t a []) i 0 ≡ f a (get_or (get_or N a []) i 0)
    at i li = ap (λ (z : List (List ℕ)). get_or (get_or z a []) i 0) e ∙ ap (λ (z : List ℕ). get_or z i 0) (get_d_tab (λ v. tab (λ i. f v (get_or (get_or N v []) i 0)) degree_limit) vertex_limit a [] la) ∙ get_d_tab (λ i. f a (get_or (get_or N a []) i 0)) degree_limit i 0 li

-- an edge from a to b does not run from b to a too, unless they are the same
one_way : (a b v w : ℕ) → eqb a v ≡ true → eqb b w ≡ false → (eqb b v && eqb a w) ≡ false
one_way a b v w e f = is_false _ (λ h.
    let q = and_split (eqb b v) (eqb a w) h in
    true≢false (sym (eq-eqb b w (eqb-true b v q.0 ∙ sym (eqb-true a v e) ∙ eqb-true a w q.1)) ∙ f))

-- seen from the second end, then from the first
both_ways : (a b v w l c x : ℕ) → cond (eqb a v && eqb b w) l (cond (eqb b v && eqb a w) c x) ≡ cond ((eqb a v && eqb b w) || (eqb b v && eqb a w)) (cond (eqb a v) l c) x
both_ways a b v w l c x = go (eqb a v) (eqb b w) refl refl
  where
    go : (p q : Bool) → eqb a v ≡ p → eqb b w ≡ q → cond (p && q) l (cond (eqb b v && eqb a w) c x) ≡ cond ((p && q) || (eqb b v && eqb a w)) (cond p l c) x
    go true true e f = refl
    go true false e f = rw (one_way a b v w e f)
    go false q e f = refl

pub seen_rows : (s : List ℕ) (n j a b l c : ℕ) (N t : List (List ℕ)) (x y : List ℕ) → a < vertex_limit → b < vertex_limit → a ≡ end_a s n j → b ≡ end_b s n j → l ≡ edge_label_at s n j → c ≡ from_second l
    → t ≡ edge_rows N (λ v w. seen_so_far s n v w j)
    → y ≡ tab (edge_in a c (get_or N b []) (get_or t b [])) degree_limit → x ≡ tab (edge_in b l (get_or N a []) (get_or (set t b y) a [])) degree_limit
    → set (set t b y) a x ≡ edge_rows N (λ v w. seen_so_far s n v w (j + 1))
unfolding seen_so_far joins
seen_rows s n j a b l c N t x y la lb ea eb el ec h hy hx =
    edges_more N (set t b y) (λ v w. cond (eqb b v && eqb a w) c (seen_so_far s n v w j)) a b l x la (edges_more N t (λ v w. seen_so_far s n v w j) b a c y lb h hy) hx
    ∙ tab_ext (λ v. tab (λ i. both v (get_or (get_or N v []) i 0)) degree_limit) (λ v. tab (λ i. seen_so_far s n v (get_or (get_or N v []) i 0) (j + 1)) degree_limit) vertex_limit
    (λ v lv. tab_ext (λ i. both v (get_or (get_or N v []) i 0)) (λ i. seen_so_far s n v (get_or (get_or N v []) i 0) (j + 1)) degree_limit (λ i li. step v (get_or (get_or N v []) i 0)))
  where
    both : ℕ → ℕ → ℕ
    both v w = cond (eqb a v && eqb b w) l (cond (eqb b v && eqb a w) c (seen_so_far s n v w j))

    step : (v w : ℕ) → both v w ≡ seen_so_far s n v w (j + 1)
    step v w = both_ways a b v w l c (seen_so_far s n v w j) ∙ rw (add-one, ec, ea, eb, el)

pub no_edges : (s : List ℕ) (n : ℕ) (N : List (List ℕ)) → replicate vertex_limit (replicate degree_limit no_vertex) ≡ edge_rows N (λ v w. seen_so_far s n v w 0)
unfolding seen_so_far tab
no_edges s n N = refl

-- what is found is what is seen of the edge
seen_joined : (s : List ℕ) (n v w k : ℕ) → joined_by s n v w k ≡ true → seen_so_far s n v w k ≡ seen_of s n v (edge_before s n v w k)
unfolding joined_by seen_so_far edge_before
seen_joined s n v w zero h = absurd (true≢false (sym h))
seen_joined s n v w (suc k) h = step (joins (end_a s n k) (end_b s n k) v w) refl (seen_joined s n v w k)
  where
    step : (t : Bool) → joins (end_a s n k) (end_b s n k) v w ≡ t → (joined_by s n v w k ≡ true → seen_so_far s n v w k ≡ seen_of s n v (edge_before s n v w k))
        → cond t (seen_of s n v k) (seen_so_far s n v w k) ≡ seen_of s n v (cond t k (edge_before s n v w k))
    step true e r = refl
    step false e r = r (sym (or_false (joined_by s n v w k)) ∙ (rw e at h))

seen_apart : (s : List ℕ) (n v w k : ℕ) → joined_by s n v w k ≡ false → seen_so_far s n v w k ≡ no_vertex
unfolding joined_by seen_so_far
seen_apart s n v w zero h = refl
seen_apart s n v w (suc k) h = step (joined_by s n v w k) (joins (end_a s n k) (end_b s n k) v w) (seen_apart s n v w k) refl h
  where
    step : (t u : Bool) → (joined_by s n v w k ≡ false → seen_so_far s n v w k ≡ no_vertex) → joined_by s n v w k ≡ t → (t || u) ≡ false → cond u (seen_of s n v k) (seen_so_far s n v w k) ≡ no_vertex
    step true u r e q = absurd (true≢false q)
    step false true r e q = absurd (true≢false q)
    step false false r e q = r e

pub edges_end : (s : List ℕ) (n j : ℕ) (N t : List (List ℕ)) → Ends s (count s) → N ≡ neighbour_table s → n ≡ count s → j ≡ n - 1 → t ≡ edge_rows N (λ v w. seen_so_far s n v w j) → t ≡ seen_table s
unfolding seen_table neighbour_table neighbours
edges_end s n j N t ends eN en ej h = h ∙ ap (λ (k : ℕ). edge_rows N (λ v w. seen_so_far s n v w k)) ej ∙ ap (λ (k : ℕ). edge_rows N (λ v w. seen_so_far s k v w (k - 1))) en
    ∙ tab_ext (λ v. tab (λ i. seen_so_far s (count s) v (get_or (get_or N v []) i 0) (count s - 1)) degree_limit) (λ v. tab (λ i. seen_in_place s v (get_or (in_places (neighbours s v)) i 0)) degree_limit) vertex_limit
    (λ v lv. tab_ext (λ i. seen_so_far s (count s) v (get_or (get_or N v []) i 0) (count s - 1)) (λ i. seen_in_place s v (get_or (in_places (neighbours s v)) i 0)) degree_limit (λ i li. ap (λ (z : List ℕ). seen_so_far s (count s) v (get_or z i 0) (count s - 1)) (row v lv) ∙ at v (get_or (in_places (neighbours s v)) i 0) (place_says (λ w. joined_by s (count s) v w (count s - 1)) (count s) i li)))
  where
    row : (v : ℕ) → v < vertex_limit → get_or N v [] ≡ in_places (neighbours s v)
    row v lv = ap (λ (z : List (List ℕ)). get_or z v []) eN ∙ get_d_tab (λ x. in_places (neighbours s x)) vertex_limit v [] lv

    at : (v w : ℕ) → (w ≡ no_vertex) ⊎ (joined_by s (count s) v w (count s - 1) ≡ true) → seen_so_far s (count s) v w (count s - 1) ≡ seen_in_place s v w
    at v w (inl e) = unfold seen_in_place in rw (eq-eqb w no_vertex e) (seen_apart s (count s) v w (count s - 1) (is_false (joined_by s (count s) v w (count s - 1)) (λ q. let a = adjacent_low s ends v w (joined_says s (count s) v w (count s - 1) q) in omega (arith, a.1, ends.few))))
    at v w (inr q) = let a = adjacent_low s ends v w (joined_says s (count s) v w (count s - 1) q) in unfold seen_in_place seen upstream edge_label in rw (ne_eqb w no_vertex (λ e. omega (arith, a.1, ends.few))) (seen_joined s (count s) v w (count s - 1) q)
