-- A search that writes nothing but its counts: the rows of its tree, their alternatives and the new duals are there in thought alone. Assumes nothing.
use mathlib.Core.Path.{◌≡◌, refl, sym, ap, subst, ◌∙◌}
use mathlib.Core.Logic.{⊎_elim, ◌≢◌}
use mathlib.Core.Bool.{true}
use mathlib.Core.List.{List, []}
use Prim.Native.Nat.{ℕ, zero, suc, ◌+◌, ◌-◌, ◌*◌, ◌≤◌, ◌<◌}
use native.Mathlib.Omega.{arith}
use native.Mathlib.Numerals.{add-one}
use lib.ListN.{length, get_or, set, replicate}
use lib.Seq.{get_or-set_same, get_or-set_other}
use borrow.Author.Tests.{eq-eqb, ne_eqb}
use Rattle.foundations.specs.Tests.{same?}
use Rattle.foundations.specs.Sums.{sum, sum_point, sum_most}
use Rattle.foundations.specs.Changed.{Changed, changed_none, changed_more}
use Rattle.model.specs.Limits.{degree_limit}
use Rattle.assignment.specs.Matching.{at, out_of, gain_limit}
use Rattle.assignment.specs.State.{State, Sized, Lengths, Pending, Heaviest, but}
use Rattle.assignment.specs.Loops.{less_of, who_of, row_end, column_end, Looked, First, Room, Settled}
use Rattle.assignment.specs.Tree.{outside, Grown, Rooted, Turn, Ended, Vacant, Reached, Solution}
use Rattle.assignment.specs.Counts.{Tried, RowCountable, Countable, Search}
use Rattle.assignment.proofs.Counting.{Tries, tries_start, tries_once, counted, search_rows, others_countable}
use Rattle.assignment.proofs.Duality.{solved}
use Rattle.assignment.proofs.Steps.{also_same, also_other}
use Rattle.assignment.proofs.Leaves.{owners_drop}
use Rattle.assignment.proofs.Turns.{mark_here, turn_start, room_row, turn_end_row, turn_total_row, room_column, turn_end_column, turn_total_column, o≢r, o_countable, base_small, columns_small, fewer, turn_grow, tries_grow}
use Rattle.assignment.proofs.Roots.{pending_put, rooted, sized_out, rest_lengths, rest_bytes, rest_state}

-- ---- the duals that would be written

changed_all : (k : ℕ) (f : ℕ → ℕ → ℕ) (l : List ℕ) → k ≤ length l → (r : List ℕ) × Changed k f l r
changed_all zero f l h = (l, changed_none f l)
changed_all (suc k) f l h =
    let p = changed_all k f l (omega arith) in
    let v = f k (get_or p.0 k 0) in
    (set p.0 k v, subst (λ (n : ℕ). Changed n f l (set p.0 k v)) (add-one k) (changed_more p.1 (omega arith) refl))

settled : {k l e : ℕ} {row col dist join y z : List ℕ} → Room k l e row col dist join y z → (y' : List ℕ) × (z' : List ℕ) × Settled k l e row col dist join y z y' z'
settled {k} {l} {e} {row} {col} {dist} {join} {y} {z} R =
    let p = changed_all k (λ x v. row_end e (at row x) (at join x) v) y (omega (arith, R.few_rows, R.y_long)) in
    let q = changed_all l (λ x v. column_end e (at col x) (at dist x) v) z (omega (arith, R.few_columns, R.z_long)) in
    (p.0, q.0, record { rows = p.1; columns = q.1 })

-- ---- a search under way

pub record Reaching (k l r : ℕ) (g : ℕ → ℕ → ℕ) (y z own col dist from : List ℕ) (low b d : ℕ) (n₁ n : List ℕ) : Type 0 where
  pub m : List ℕ
  pub dist₀ : List ℕ
  pub b₀ : ℕ
  pub d₀ : ℕ
  pub row : List ℕ
  pub join : List ℕ
  pub alt : List (List ℕ)
  pub a : ℕ
  pub lengths : Lengths y z m
  pub state : State k l g (but r) (at y) (at z) (at m)
  pub rooted : Rooted k l r g (set y r gain_limit) z m own dist₀ b₀ d₀
  pub turn : Turn k l r g (set y r gain_limit) z m (set y r gain_limit) z m own row col dist from join alt a low b d
  pub tries : Tries r row n₁ n

others : (r i : ℕ) → i ≢ r → but r i ≡ true
others r i n = rw (ne_eqb i r n)

vacant_pending : {k l r : ℕ} {g : ℕ → ℕ → ℕ} {y z m : ℕ → ℕ} → State k l g (but r) y z m → Pending k l r g y z m
vacant_pending {r = r} S = record { finished = but r; state = S; pending = rw (eq-eqb r r refl) }

pub reaching_start : {k l r t : ℕ} {g : ℕ → ℕ → ℕ} {y z own n dist : List ℕ} {b d : ℕ} → Vacant k l r g y z own → First l (λ x. gain_limit + at z x - g r x) (replicate degree_limit 0) dist b d → t ≡ r →
    Reaching k l r g y z own (replicate degree_limit 0) dist (replicate degree_limit t) gain_limit b d n n
reaching_start {r = r} {t = t} {n = n} {dist = dist} {b = b} {d = d} G F e =
    let P = rooted G.sized G.below G.sizes G.bytes (vacant_pending G.state) refl G.owners F in
    record {
      m = G.m;
      dist₀ = dist;
      b₀ = b;
      d₀ = d;
      row = set (replicate degree_limit 0) r 1;
      join = replicate degree_limit 0;
      alt = set (replicate degree_limit (replicate degree_limit degree_limit)) r G.m;
      a = r;
      lengths = G.sizes;
      state = G.state;
      rooted = P;
      turn = turn_start t e P;
      tries = tries_start r (set (replicate degree_limit 0) r 1) n (mark_here r (omega (arith, G.below, G.sized.rows)));
    }

module _ {k l r : ℕ} {g : ℕ → ℕ → ℕ} {y z own col dist from : List ℕ} {low b d : ℕ} {n₁ n : List ℕ} (X : Reaching k l r g y z own col dist from low b d n₁ n) where
  -- all rows are finished, and the sum of all duals is what it was, less e
  ended : {e : ℕ} {y' z' m' : List ℕ} → Ended k l r g (set y r gain_limit) z X.m y' z' m' → e ≤ gain_limit → sum k (at y') + sum l (at z') + e ≡ sum k (at (set y r gain_limit)) + sum l (at z) → Reached k l r g y z e
  unfolding pending_put vacant_pending
  ended {e} {y'} {z'} {m'} E lim t = record {
    y' = at y';
    z' = at z';
    m' = at m';
    solved = solved (E.joined.state (pending_put y z X.m gain_limit (vacant_pending X.state)))
        (λ i hi. ⊎_elim (λ q. also_same r (but r) i q) (λ q. also_other r (but r) i q ∙ others r i q) (same? i r))
        X.rooted.sized.gains;
    total =
        let s = sum_point k (at (set y r gain_limit)) (at y) r X.rooted.below (λ j hj q. get_or-set_other y r j gain_limit 0 q) in
        omega (arith, t, s, X.rooted.root);
    limit = lim;
  }

  pub reached_row : low ≤ d → Reached k l r g y z low
  reached_row h =
      let s = settled (room_row X.rooted X.turn h) in
      ended (turn_end_row X.rooted X.turn h s.2) X.turn.lowest.small (turn_total_row X.rooted X.turn h s.2)

  pub reached_search : {n₀ : List ℕ} → Countable 1 n₀ → Tried r l (counted n₀) n₁ → Search n₀ n
  reached_search C T = search_rows C T (tries_once X.tries)

  module _ (near : d < low) where
    pub reached_column : degree_limit ≤ at own b → Reached k l r g y z d
    reached_column free =
        let s = settled (room_column X.rooted X.turn near) in
        ended (turn_end_column X.rooted X.turn near free s.2) (omega (arith, X.turn.lowest.small)) (turn_total_column X.rooted X.turn near s.2)

    module _ (o : ℕ) (eo : o ≡ at own b) (lt : o < degree_limit) where
      y_same : at (set y r gain_limit) o ≡ at y o
      y_same = get_or-set_other y r o gain_limit 0 (o≢r X.rooted X.turn near o eo lt)

      pub reach_base : at y o + d ≤ 2 * gain_limit
      reach_base = omega (arith, base_small X.rooted X.turn near o eo lt, y_same)

      pub reach_columns : (x : ℕ) → x < l → (at z x ≤ gain_limit) × (g (at own b) x ≤ at y o + d + at z x)
      reach_columns x hx = let p = columns_small X.rooted X.turn near o eo lt x hx in (p.0, omega (arith, p.1, y_same))

      pub reach_countable : {n₀ : List ℕ} → Countable 1 n₀ → Tried r l (counted n₀) n₁ → RowCountable (at own b) n
      reach_countable C T = o_countable X.rooted X.turn near o eo lt (others_countable C T) X.tries

      grown : Grown (at from b) b o d X.alt X.row col X.join (set X.alt o (set (set (get_or X.alt (at from b) []) (at from b) b) o degree_limit)) (set X.row o 1) (set col b 1) (set X.join o d)
      grown = record { rows = refl; columns = refl; joins = refl; alts = refl }

      pub reach_fewer : outside l (at (set col b 1)) < outside l (at col)
      reach_fewer = fewer X.rooted X.turn near o eo lt (at from b) refl grown

      pub reach_grow : {low' b' d' : ℕ} {dist' from' n' : List ℕ} → low' ≡ less_of (at y o + d) low → Looked l (at own b) (λ x. at y o + d + at z x - g (at own b) x) (at (set col b 1)) dist from dist' from' b' d' → Tried (at own b) l n n' →
          Reaching k l r g y z own (set col b 1) dist' from' low' b' d' n₁ n'
      reach_grow {low'} {b'} {d'} {dist'} {from'} {n'} el L T = record {
        m = X.m;
        dist₀ = X.dist₀;
        b₀ = X.b₀;
        d₀ = X.d₀;
        row = set X.row o 1;
        join = set X.join o d;
        alt = set X.alt o (set (set (get_or X.alt (at from b) []) (at from b) b) o degree_limit);
        a = who_of (at (set y r gain_limit) o + d) low o X.a;
        lengths = X.lengths;
        state = X.state;
        rooted = X.rooted;
        turn = turn_grow X.rooted X.turn near o eo lt (at from b) refl grown refl
            (el ∙ ap (λ (v : ℕ). less_of (v + d) low) (sym y_same))
            (subst (λ (v : ℕ). Looked l (at own b) (λ x. v + d + at z x - g (at own b) x) (at (set col b 1)) dist from dist' from' b' d') (sym y_same) L);
        tries = tries_grow X.rooted X.turn near o eo lt (at from b) refl grown X.tries T;
      }

-- ---- the weight without a column

module _ {k l c r : ℕ} {g : ℕ → ℕ → ℕ} {y z own : List ℕ} (S : Sized k l g) (A : Solution k l g y z own) (c-some : 1 ≤ c) (hc : c ≤ l) (er : at own (c - 1) ≡ r) (lt : r < degree_limit) where
  has : (r < k) × (at A.m r ≡ c - 1)
  has = let p = A.owners.has (c - 1) (omega (arith, S.columns)) (omega (arith, er)) in (omega (arith, p.0, er), subst (λ (x : ℕ). at A.m x ≡ c - 1) er p.1)

  pub rest_vacant : Vacant k l r (out_of c g) y (set z (c - 1) 0) (set own (c - 1) degree_limit)
  rest_vacant = record {
    m = set A.m r degree_limit;
    sized = sized_out c S;
    below = has.0;
    sizes = rest_lengths S c-some hc A.answer r has.0 has.1;
    bytes = rest_bytes S c-some hc A.answer r has.0 has.1;
    state = rest_state S c-some hc A.answer r has.0 has.1;
    owners = owners_drop A.owners S.rows A.answer.sizes.matching has.0 (omega (arith, S.columns)) has.1
        (λ i hi e. A.answer.solved.injective i r hi has.0 (omega arith) (e ∙ sym has.1));
  }

  z_rest : sum l (at (set z (c - 1) 0)) + at z (c - 1) ≡ sum l (at z)
  z_rest =
      let s = sum_point l (at (set z (c - 1) 0)) (at z) (c - 1) (omega arith) (λ j hj q. get_or-set_other z (c - 1) j 0 0 q) in
      omega (arith, s, get_or-set_same z (c - 1) 0 0 (omega (arith, A.answer.sizes.columns, S.columns)))

  pub rest_few : (sum k (at y) + sum l (at z) ≤ 2 * degree_limit * gain_limit) × (at y r ≤ gain_limit) × (at z (c - 1) ≤ gain_limit)
  rest_few = (omega (arith, sum_most k gain_limit (at y) A.answer.solved.row_limit, sum_most l gain_limit (at z) A.answer.solved.column_limit, S.rows, S.columns), A.answer.solved.row_limit r has.0, A.answer.solved.column_limit (c - 1) (omega arith))

  module _ {all e : ℕ} (N : all ≡ sum k (at y) + sum l (at z)) (R : Reached k l r (out_of c g) y (set z (c - 1) 0) e) where
    rest_equal : sum k R.y' + sum l R.z' + (at y r + at z (c - 1)) ≡ all + (gain_limit - e)
    rest_equal = omega (arith, N, R.total, R.limit, z_rest)

    pub rest_room : at y r + at z (c - 1) ≤ all + (gain_limit - e)
    rest_room = omega (arith, rest_equal)

    pub rest_heaviest : {w : ℕ} → w ≡ all + (gain_limit - e) - (at y r + at z (c - 1)) → Heaviest k l (out_of c g) w
    rest_heaviest ew = record {
      y = R.y';
      z = R.z';
      m = R.m';
      dual = record { feasible = R.solved.feasible; injective = R.solved.injective; equal = R.solved.equal };
      total = omega (arith, ew, rest_equal);
    }
