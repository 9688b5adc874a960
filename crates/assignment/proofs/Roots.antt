-- The start and the quick ends of a search, the loop of `solve`, and the start of `without`. Assumes nothing.
use mathlib.Core.Path.{◌≡◌, refl, sym, ap, subst, ◌∙◌}
use mathlib.Core.Logic.{inl, inr, ⊎_elim, ◌≢◌}
use mathlib.Core.Bool.{true≢false, Bool, true, false, cond}
use mathlib.Core.List.{List}
use Prim.Native.Nat.{ℕ, ◌+◌, ◌-◌, ◌≤◌, ◌<◌}
use native.Mathlib.Omega.{arith}
use native.Mathlib.Nat.{not-suc-le-zero}
use lib.Dec.{eqb, ltb}
use lib.ListN.{length, set, length-set, replicate, get_or-replicate}
use lib.Seq.{get_or-set_same, get_or-set_other}
use borrow.Author.Tests.{eq-eqb, ne_eqb, lt-ltb, le-ltb, ltb-true}
use Rattle.foundations.specs.Tests.{same?, less?, not_says}
use Rattle.foundations.specs.Sums.{sum_ext}
use Rattle.model.specs.Limits.{degree_limit}
use Rattle.assignment.specs.Matching.{at, out_of, out_yes, out_no, gain_limit, all, gained, weight}
use Rattle.assignment.specs.State.{Bytes, State, Sized, Lengths, Pending, Joined, Solved, Answer, Heaviest, Total, Partner, also, but}
use Rattle.assignment.specs.Loops.{row_end, OwnersOf, First}
use Rattle.assignment.specs.Tree.{Run, Rooted, Ended}
use Rattle.assignment.proofs.Duality.{solved}
use Rattle.assignment.proofs.Steps.{also_same, also_other, state_ext}
use Rattle.assignment.proofs.Turns.{bytes_set}
use Rattle.assignment.proofs.Runs.{advance, run_start, run_end_row, run_end_column}

-- ---- the pending row's dual means nothing

unfoldable pub pending_put : {k l r : ℕ} {g : ℕ → ℕ → ℕ} (y z m : List ℕ) (v : ℕ) → Pending k l r g (at y) (at z) (at m) → Pending k l r g (at (set y r v)) (at z) (at m)
pending_put {k} {l} {r} {g} y z m v p = record {
  finished = p.finished;
  state = state_ext p.state (λ i hi. refl) (λ i hi f. get_or-set_other y r i v 0 (λ q. true≢false (sym f ∙ ap p.finished q ∙ p.pending))) (λ j hj. refl) (λ i hi. refl);
  pending = p.pending;
}

-- ---- a search's start

pub rooted : {k l r : ℕ} {g : ℕ → ℕ → ℕ} {y z m own dist₀ dist : List ℕ} {b d : ℕ} → Sized k l g → r < k → Lengths y z m → Bytes l m → Pending k l r g (at y) (at z) (at m) → length dist₀ ≡ degree_limit → OwnersOf k m own → First l (λ x. gain_limit + at z x - g r x) dist₀ dist b d → Rooted k l r g (set y r gain_limit) z m own dist b d
rooted {k} {l} {r} {g} {y} {z} {m} {own} {dist₀} {dist} S hr L B p ld O P = record {
  sized = S;
  below = hr;
  sizes = record { rows = length-set y r gain_limit ∙ L.rows; columns = L.columns; matching = L.matching };
  bytes = B;
  long = P.distances.size ∙ ld;
  root = get_or-set_same y r gain_limit 0 (omega (arith, L.rows, S.rows));
  owners = O;
  distances = λ j hj. omega (arith, P.distances.done j hj, S.gains r j hr hj);
  nearest = P.nearest;
  pending = pending_put y z m gain_limit p;
}

-- ---- its quick ends: the tree is row r alone

abbrev only : ℕ → ℕ → ℕ
only r i = cond (eqb i r) 1 0

module _ {k l r : ℕ} {g : ℕ → ℕ → ℕ} {y z m own dist : List ℕ} {b d : ℕ} (L : Lengths y z m) (X : Rooted k l r g (set y r gain_limit) z m own dist b d) where
  T_here : only r r ≡ 1
  T_here = rw (eq-eqb r r refl)

  T_other : (i : ℕ) → i ≢ r → only r i ≡ 0
  T_other i n = rw (ne_eqb i r n)

  T_out : (i : ℕ) → i < k → i ≢ r → only r i ≢ 1
  T_out i hi n e = omega (arith, e, T_other i n)

  zero_out : (j : ℕ) → j < l → ◌≢◌ {A = ℕ} 0 1
  zero_out j hj e = omega arith

  r_low : r < length y
  r_low = omega (arith, X.below, X.sized.rows, L.rows)

  start : (p : Pending k l r g (at y) (at z) (at m)) → Run k l r g p.finished 0 (at (set y r gain_limit)) (at z) (at m) (only r) (λ j. 0) (at dist) (λ j. r) (λ i. 0) (λ t. at m)
  unfolding pending_put
  start p = run_start X.below p.pending (pending_put y z m gain_limit p).state X.root T_here T_out zero_out X.distances (λ j hj. refl) refl (λ i hi. refl)

  -- y with gain_limit - e for r is what a search that ends at e writes
  row_ends : (e : ℕ) (i : ℕ) → at (set y r (gain_limit - e)) i ≡ row_end e (only r i) 0 (at (set y r gain_limit) i)
  row_ends e i = ⊎_elim
      (λ q. ap (at (set y r (gain_limit - e))) q ∙ get_or-set_same y r (gain_limit - e) 0 r_low
      ∙ sym (ap (λ (x : ℕ). row_end e (only r x) 0 (at (set y r gain_limit) x)) q ∙ ap (λ (x : ℕ). row_end e x 0 (at (set y r gain_limit) r)) T_here ∙ ap (λ (x : ℕ). row_end e 1 0 x) X.root ∙ let w : gain_limit + 0 - e ≡ gain_limit - e = omega arith in w))
      (λ n. get_or-set_other y r i (gain_limit - e) 0 n ∙ sym (get_or-set_other y r i gain_limit 0 n) ∙ sym (ap (λ (x : ℕ). row_end e x 0 (at (set y r gain_limit) i)) (T_other i n)))
      (same? i r)

  advanced : (e : ℕ) → e ≤ gain_limit → ((j : ℕ) → j < l → e ≤ at dist j) → (p : Pending k l r g (at y) (at z) (at m)) → Run k l r g p.finished e (at (set y r gain_limit)) (at z) (at m) (only r) (λ j. 0) (at dist) (λ j. r) (λ i. 0) (λ t. at m)
  advanced e lim columns p =
      advance X.below p.pending (start p) e (omega arith) lim
      (λ i hi t. ⊎_elim (λ q. omega (arith, ap (at (set y r gain_limit)) q, X.root)) (λ n. absurd (T_out i hi n t)) (same? i r))
      (λ j hj _. columns j hj)

  -- the columns' duals cover row r
  pub end_covered : gain_limit ≤ d → Ended k l r g y z m (set y r 0) z m
  end_covered le = record {
    sizes = record { rows = length-set y r 0 ∙ L.rows; columns = L.columns; matching = L.matching };
    bytes = X.bytes;
    joined = record {
      state = λ p.
          run_end_row X.below p.pending
          (advanced gain_limit (omega arith) (λ j hj. omega (arith, X.nearest.low j hj (zero_out j hj))) p)
          (λ i hi. row_ends gain_limit i) (λ j hj. refl) r X.below T_here (omega (arith, X.root)) (λ i hi. refl);
    };
  }

  module _ (lt : d < gain_limit) where
    nearest : (b < l) × ◌≢◌ {A = ℕ} 0 1 × (at dist b ≡ d)
    nearest = X.nearest.found (omega arith)

    pub near_low : b < degree_limit
    near_low = omega (arith, nearest.0, X.sized.columns)

    -- the nearest column is free
    pub end_free : degree_limit ≤ at own b → Ended k l r g y z m (set y r (gain_limit - d)) z (set m r b)
    end_free free = record {
      sizes = record { rows = length-set y r (gain_limit - d) ∙ L.rows; columns = L.columns; matching = length-set m r b ∙ L.matching };
      bytes = bytes_set r b X.bytes (omega (arith, X.below, X.sized.rows, L.matching)) (inl nearest.0);
      joined = record {
        state = λ p.
            run_end_column X.below p.pending
            (advanced d (omega arith) (λ j hj. X.nearest.low j hj (zero_out j hj)) p)
            (λ i hi. row_ends d i) (λ j hj. refl) b nearest.0 nearest.1 nearest.2 (X.owners.none b near_low free)
            (record { here = get_or-set_same m r b 0 (omega (arith, X.below, X.sized.rows, L.matching)); other = λ j hj n. get_or-set_other m r j b 0 n });
      };
    }

-- the search itself
pub end_explored : {k l r : ℕ} {g : ℕ → ℕ → ℕ} (y z m : List ℕ) {y' z' m' : List ℕ} (v : ℕ) → Ended k l r g (set y r v) z m y' z' m' → Ended k l r g y z m y' z' m'
unfolding pending_put
end_explored y z m v E = record { sizes = E.sizes; bytes = E.bytes; joined = record { state = λ p. E.joined.state (pending_put y z m v p) } }

-- ---- solve

-- the rows below r are finished
abbrev pub before : ℕ → ℕ → Bool
before r i = ltb i r

pub state_none : {k l : ℕ} (g : ℕ → ℕ → ℕ) (y : List ℕ) → k ≤ degree_limit → l ≤ degree_limit → State k l g (before 0) (at y) (at (replicate degree_limit 0)) (at (replicate degree_limit degree_limit))
state_none {k} {l} g y k_few l_few = record {
  feasible = λ i j hi f. absurd (not-suc-le-zero (ltb-true i 0 f));
  tight = λ i hi hl. absurd (omega (arith, no_column i hi));
  injective = λ i j hi hj hl e. absurd (omega (arith, no_column i hi));
  columns = λ j hj. inl (get_or-replicate {A = ℕ} degree_limit j 0 0 (omega arith));
  rows = λ i hi f. absurd (not-suc-le-zero (ltb-true i 0 f));
  pending = λ i hi f. omega (arith, no_column i hi);
  limit = λ i hi f. absurd (not-suc-le-zero (ltb-true i 0 f));
}
  where
    no_column : (i : ℕ) → i < k → at (replicate degree_limit degree_limit) i ≡ degree_limit
    no_column i hi = get_or-replicate {A = ℕ} degree_limit i degree_limit 0 (omega arith)

pub state_pending : {k l r : ℕ} {g : ℕ → ℕ → ℕ} {y z m : ℕ → ℕ} → State k l g (before r) y z m → Pending k l r g y z m
state_pending {r = r} G = record { finished = before r; state = G; pending = le-ltb r r (omega arith) }

state_more : {k l : ℕ} (r : ℕ) {g : ℕ → ℕ → ℕ} {y z m : ℕ → ℕ} → State k l g (also r (before r)) y z m → State k l g (before (r + 1)) y z m
state_more {k} {l} r G = state_ext G same (λ i hi f. refl) (λ j hj. refl) (λ i hi. refl)
  where
    same : (i : ℕ) → i < k → before (r + 1) i ≡ also r (before r) i
    same i hi = ⊎_elim
        (λ q. lt-ltb i (r + 1) (omega arith) ∙ sym (also_same r (before r) i q))
        (λ n. ⊎_elim
        (λ lt. lt-ltb i (r + 1) (omega arith) ∙ sym (also_other r (before r) i n ∙ lt-ltb i r lt))
        (λ le. le-ltb i (r + 1) (omega (arith, n)) ∙ sym (also_other r (before r) i n ∙ le-ltb i r le))
        (less? i r))
        (same? i r)

-- one search more
pub state_next : {k l : ℕ} (r : ℕ) {g : ℕ → ℕ → ℕ} {y z m y' z' m' : ℕ → ℕ} → State k l g (before r) y z m → Joined k l r g y z m y' z' m' → State k l g (before (r + 1)) y' z' m'
unfolding state_pending
state_next r G J = state_more r (J.state (state_pending G))

pub state_solved : {k l r : ℕ} {g : ℕ → ℕ → ℕ} {y z m : ℕ → ℕ} → Sized k l g → State k l g (before r) y z m → k ≤ r → Solved k l g y z m
state_solved {r = r} S G le = solved G (λ i hi. lt-ltb i r (omega arith)) S.gains

-- nothing is left out
pub out_none : (g : ℕ → ℕ → ℕ) (i j : ℕ) → out_of 0 g i j ≡ g i j
out_none g i j = out_no 0 g i j (λ e. omega arith)

pub sized_out : {k l : ℕ} (c : ℕ) {g : ℕ → ℕ → ℕ} → Sized k l g → Sized k l (out_of c g)
sized_out c {g} S = record {
  rows = S.rows;
  columns = S.columns;
  gains = λ i j hi hj. ⊎_elim (λ e. omega (arith, out_yes c g i j e)) (λ n. omega (arith, out_no c g i j n, S.gains i j hi hj)) (same? (j + 1) c);
}

-- an answer over gains that are the same
pub answer_all : {k l : ℕ} {g : ℕ → ℕ → ℕ} {y z m : List ℕ} → Sized k l g → Answer k l (out_of 0 g) y z m → Answer k l g y z m
answer_all {k} {l} {g} {y} {z} {m} S A = record {
  sizes = A.sizes;
  bytes = A.bytes;
  solved = solved {finished = all} (record {
    feasible = λ i j hi f hj. omega (arith, out_none g i j, A.solved.feasible i j hi hj);
    tight = λ i hi lt. sym (out_none g i (at m i)) ∙ A.solved.tight i hi lt;
    injective = A.solved.injective;
    columns = A.solved.columns;
    rows = λ i hi f. A.solved.rows i hi;
    pending = λ i hi f. absurd (true≢false f);
    limit = λ i hi f. A.solved.row_limit i hi;
  }) (λ i hi. refl) S.gains;
}

-- ---- without the column that choice c leaves out

module _ {k l c : ℕ} {g : ℕ → ℕ → ℕ} {y z m : List ℕ} (S : Sized k l g) (c-some : 1 ≤ c) (hc : c ≤ l) (A : Answer k l g y z m) where
  abbrev h : ℕ → ℕ → ℕ
  h = out_of c g

  l_few : l ≤ degree_limit
  l_few = S.columns

  no_c : {j : ℕ} → j ≢ c - 1 → j + 1 ≢ c
  no_c n e = n (omega arith)

  z_here : at (set z (c - 1) 0) (c - 1) ≡ 0
  z_here = get_or-set_same z (c - 1) 0 0 (omega (arith, A.sizes.columns, l_few))

  z_other : (j : ℕ) → j ≢ c - 1 → at (set z (c - 1) 0) j ≡ at z j
  z_other j n = get_or-set_other z (c - 1) j 0 0 n

  covered : (i j : ℕ) → i < k → j < l → h i j ≤ at y i + at (set z (c - 1) 0) j
  covered i j hi hj = ⊎_elim
      (λ q. omega (arith, out_yes c g i j (let w : j + 1 ≡ c = omega arith in w)))
      (λ n. omega (arith, out_no c g i j (no_c n), z_other j n, A.solved.feasible i j hi hj))
      (same? j (c - 1))

  tight : (i : ℕ) → i < k → at m i < l → at m i ≢ c - 1 → h i (at m i) ≡ at y i + at (set z (c - 1) 0) (at m i)
  tight i hi lt n = omega (arith, out_no c g i (at m i) (no_c n), z_other (at m i) n, A.solved.tight i hi lt)

  -- no row has the column: all stays
  pub rest_free : {r : ℕ} → ((i : ℕ) → i < k → at m i ≢ c - 1) → Total k l (at y) (at z) r → Heaviest k l h r
  unfolding weight gained
  rest_free {r} free N = record {
    y = at y;
    z = at z;
    m = at m;
    dual = record {
      feasible = λ i j hi hj. ⊎_elim
          (λ e. omega (arith, out_yes c g i j e))
          (λ n. omega (arith, out_no c g i j n, A.solved.feasible i j hi hj))
          (same? (j + 1) c);
      injective = A.solved.injective;
      equal = sum_ext k (gained l h (at m)) (gained l g (at m)) (λ i hi. ⊎_elim
          (λ lt. rw (lt-ltb (at m i) l lt) (out_no c g i (at m i) (no_c (free i hi))))
          (λ le. rw (le-ltb (at m i) l le))
          (less? (at m i) l)) ∙ A.solved.equal;
    };
    total = N.equal;
  }

  -- row r has it: it is pending, and the others are finished
  module _ (r : ℕ) (hr : r < k) (mr : at m r ≡ c - 1) where
    others_no : (i : ℕ) → but r i ≡ true → i ≢ r
    others_no i f q = true≢false (sym (eq-eqb i r q) ∙ not_says (eqb i r) f)

    others_yes : (i : ℕ) → i ≢ r → but r i ≡ true
    others_yes i n = rw (ne_eqb i r n)

    others_r : (i : ℕ) → but r i ≡ false → i ≡ r
    others_r i f = ⊎_elim (λ q. q) (λ n. absurd (true≢false (sym (others_yes i n) ∙ f))) (same? i r)

    m_here : at (set m r degree_limit) r ≡ degree_limit
    m_here = get_or-set_same m r degree_limit 0 (omega (arith, A.sizes.matching, S.rows))

    m_other : (i : ℕ) → i ≢ r → at (set m r degree_limit) i ≡ at m i
    m_other i n = get_or-set_other m r i degree_limit 0 n

    not_r : (i : ℕ) → at (set m r degree_limit) i < l → i ≢ r
    not_r i lt q = omega (arith, ap (at (set m r degree_limit)) q, m_here, l_few)

    not_c : (i : ℕ) → i < k → i ≢ r → at m i < l → at m i ≢ c - 1
    not_c i hi n lt e = n (A.solved.injective i r hi hr lt (e ∙ sym mr))

    pub rest_lengths : Lengths y (set z (c - 1) 0) (set m r degree_limit)
    rest_lengths = record { rows = A.sizes.rows; columns = length-set z (c - 1) 0 ∙ A.sizes.columns; matching = length-set m r degree_limit ∙ A.sizes.matching }

    pub rest_bytes : Bytes l (set m r degree_limit)
    rest_bytes = bytes_set r degree_limit A.bytes (omega (arith, A.sizes.matching, S.rows)) (inr refl)

    pub rest_state : State k l h (but r) (at y) (at (set z (c - 1) 0)) (at (set m r degree_limit))
    rest_state = record {
      feasible = λ i j hi f hj. covered i j hi hj;
      tight = λ i hi lt. let n = not_r i lt in let w : at m i < l = omega (arith, m_other i n) in
          subst (λ (x : ℕ). h i x ≡ at y i + at (set z (c - 1) 0) x) (sym (m_other i n)) (tight i hi w (not_c i hi n w));
      injective = λ i j hi hj lt e. let n = not_r i lt in let n' = not_r j (omega arith) in
          A.solved.injective i j hi hj (omega (arith, m_other i n)) (sym (m_other i n) ∙ e ∙ m_other j n');
      columns = λ j hj. ⊎_elim
          (λ q. inl (ap (at (set z (c - 1) 0)) q ∙ z_here))
          (λ n. ⊎_elim
          (λ e. inl (z_other j n ∙ e))
          (λ p. inr (p.0, p.1, m_other p.0 (λ q. n (sym p.2 ∙ ap (at m) q ∙ mr)) ∙ p.2))
          (A.solved.columns j hj))
          (same? j (c - 1));
      rows = λ i hi f. ⊎_elim inl (λ lt. inr (omega (arith, m_other i (others_no i f)))) (A.solved.rows i hi);
      pending = λ i hi f. omega (arith, ap (at (set m r degree_limit)) (others_r i f), m_here, l_few);
      limit = λ i hi f. A.solved.row_limit i hi;
    }

-- ---- what a row has in the answer

pub partner_free : (l i : ℕ) (g : ℕ → ℕ → ℕ) (m : ℕ → ℕ) → l ≤ m i → Partner l g m i degree_limit
unfolding gained
partner_free l i g m le = record { range = omega arith; pair = λ h. absurd (omega arith); none = λ h. rw (le-ltb (m i) l le) }

pub partner_zero : (l i c : ℕ) (g : ℕ → ℕ → ℕ) (m : ℕ → ℕ) → c ≡ m i → g i c ≡ 0 → Partner l g m i degree_limit
unfolding gained
partner_zero l i c g m e z = record {
  range = omega arith;
  pair = λ h. absurd (omega arith);
  none = λ h. ⊎_elim (λ lt. rw (lt-ltb (m i) l lt) (ap (g i) (sym e) ∙ z)) (λ le. rw (le-ltb (m i) l le)) (less? (m i) l);
}

pub partner_pair : (l i c : ℕ) (g : ℕ → ℕ → ℕ) (m : ℕ → ℕ) → l ≤ degree_limit → c ≡ m i → c < l → g i c ≢ 0 → Partner l g m i (m i)
partner_pair l i c g m l_few e lt n = record {
  range = omega arith;
  pair = λ h. (refl, omega arith, subst (λ (x : ℕ). 0 < g i x) e (omega (arith, n)));
  none = λ h. absurd (omega arith);
}
