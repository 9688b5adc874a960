-- The turns of `explore` on its arrays. Assumes nothing.
use mathlib.Core.Path.{◌≡◌, refl, sym, ap, subst, ◌∙◌}
use mathlib.Core.Logic.{inl, inr, ◌⊎◌, ⊎_elim, ◌≢◌}
use mathlib.Core.Bool.{true, cond}
use mathlib.Core.List.{List, []}
use Prim.Native.Nat.{ℕ, ◌+◌, ◌*◌, ◌-◌, ◌≤◌, ◌<◌}
use native.Mathlib.Omega.{arith}
use lib.Dec.{eqb}
use lib.ListN.{length, get_or, set, length-set, replicate, get_or-replicate}
use lib.Seq.{get_or-set_same, get_or-set_other}
use borrow.Author.Tests.{eq-eqb, ne_eqb, lt-ltb, le-ltb}
use Rattle.foundations.specs.Tests.{same?, less?}
use Rattle.foundations.specs.Sums.{sum, sum_point}
use Rattle.model.specs.Limits.{degree_limit}
use Rattle.assignment.specs.Matching.{at, entry, gain_limit}
use Rattle.assignment.specs.State.{Bytes, Pending}
use Rattle.assignment.specs.Loops.{less_of, who_of, Looked, Room, Settled}
use Rattle.assignment.specs.Tree.{Put, Run, Lowest, outside, Grown, Rooted, Turn, Ended}
use Rattle.assignment.specs.Counts.{Tried, RowCountable}
use Rattle.assignment.proofs.Counting.{Tries, tries_more, tries_countable}
use Rattle.assignment.proofs.Duality.{column_limit}
use Rattle.assignment.proofs.Steps.{matched_finished}
use Rattle.assignment.proofs.Runs.{advance, run_grow, run_end_total, run_end_row, run_end_column, run_start}

put_set : (n : ℕ) (l : List ℕ) (c v : ℕ) → c < length l → Put n (at l) c v (at (set l c v))
put_set n l c v h = record { here = get_or-set_same l c v 0 h; other = λ j _ ne. get_or-set_other l c j v 0 ne }

-- one column fewer is outside
outside_less : (l b : ℕ) (C C' : ℕ → ℕ) → b < l → C b ≢ 1 → Put l C b 1 C' → outside l C' < outside l C
unfolding outside
outside_less l b C C' hb n P =
    omega (arith, sum_point l f f' b hb (λ j hj ne. ap (λ (x : ℕ). cond (eqb x 1) 0 1) (sym (P.other j hj ne))), one, none)
  where
    f : ℕ → ℕ
    f j = cond (eqb (C j) 1) 0 1

    f' : ℕ → ℕ
    f' j = cond (eqb (C' j) 1) 0 1

    one : f b ≡ 1
    one = simp (ne_eqb (C b) 1 n)

    none : f' b ≡ 0
    none = simp (eq-eqb (C' b) 1 P.here)

at_all : (v j : ℕ) → j < degree_limit → at (replicate degree_limit v) j ≡ v
at_all v j h = get_or-replicate degree_limit j v 0 h

-- ---- a matching's bytes

pub bytes_none : (l : ℕ) → Bytes l (replicate degree_limit degree_limit)
bytes_none l = record { range = λ x h. inr (at_all degree_limit x h) }

pub bytes_set : {l : ℕ} {m : List ℕ} (c v : ℕ) → Bytes l m → c < length m → (v < l) ⊎ (v ≡ degree_limit) → Bytes l (set m c v)
bytes_set {l} {m} c v B h e = record {
  range = λ x hx. ⊎_elim
      (λ q. subst (λ (a : ℕ). (a < l) ⊎ (a ≡ degree_limit)) (sym (ap (at (set m c v)) q ∙ get_or-set_same m c v 0 h)) e)
      (λ n. subst (λ (a : ℕ). (a < l) ⊎ (a ≡ degree_limit)) (sym (get_or-set_other m c x v 0 n)) (B.range x hx))
      (same? x c);
}

-- ---- the first turn

marks_one : (r i : ℕ) → r < degree_limit → i < degree_limit → i ≢ r → at (set (replicate degree_limit 0) r 1) i ≢ 1
marks_one r i hr hi n e = omega (arith, e, get_or-set_other {A = ℕ} (replicate degree_limit 0) r i 1 0 n, at_all 0 i hi)

pub mark_here : (r : ℕ) → r < degree_limit → at (set (replicate degree_limit 0) r 1) r ≡ 1
mark_here r hr = get_or-set_same (replicate degree_limit 0) r 1 0 hr

alt_here : (r : ℕ) (m : List ℕ) → r < degree_limit → get_or (set (replicate degree_limit (replicate {A = ℕ} degree_limit degree_limit)) r m) r [] ≡ m
alt_here r m hr = get_or-set_same (replicate degree_limit (replicate degree_limit degree_limit)) r m [] hr

alt_long : (r : ℕ) (m : List ℕ) → r < degree_limit → length m ≡ degree_limit → (t : ℕ) → t < degree_limit → length (get_or (set (replicate degree_limit (replicate {A = ℕ} degree_limit degree_limit)) r m) t []) ≡ degree_limit
alt_long r m hr lm t ht = ⊎_elim
    (λ q. ap (λ (x : ℕ). length (get_or (set (replicate degree_limit (replicate {A = ℕ} degree_limit degree_limit)) r m) x [])) q ∙ ap length (alt_here r m hr) ∙ lm)
    (λ n. ap length (get_or-set_other (replicate degree_limit (replicate degree_limit degree_limit)) r t m [] n ∙ get_or-replicate degree_limit t (replicate degree_limit degree_limit) [] ht))
    (same? t r)

alt_bytes : (l r : ℕ) (m : List ℕ) → r < degree_limit → Bytes l m → (t : ℕ) → t < degree_limit → Bytes l (get_or (set (replicate degree_limit (replicate {A = ℕ} degree_limit degree_limit)) r m) t [])
alt_bytes l r m hr B t ht =
    ⊎_elim
    (λ q. subst (λ (a : List ℕ). Bytes l a) (sym (ap (λ (x : ℕ). get_or (set (replicate degree_limit (replicate {A = ℕ} degree_limit degree_limit)) r m) x []) q ∙ alt_here r m hr)) B)
    (λ n. subst (λ (a : List ℕ). Bytes l a) (sym (get_or-set_other (replicate degree_limit (replicate degree_limit degree_limit)) r t m [] n ∙ get_or-replicate degree_limit t (replicate degree_limit degree_limit) [] ht)) (bytes_none l))
    (same? t r)

pub turn_start : {k l r : ℕ} {g : ℕ → ℕ → ℕ} {y z m own dist : List ℕ} {b d : ℕ} (t : ℕ) → t ≡ r → Rooted k l r g y z m own dist b d →
    Turn k l r g y z m y z m own (set (replicate degree_limit 0) r 1) (replicate degree_limit 0) dist (replicate degree_limit t) (replicate degree_limit 0) (set (replicate degree_limit (replicate degree_limit degree_limit)) r m) r gain_limit b d
turn_start {k} {l} {r} {g} {y} {z} {m} {own} {dist} {b} {d} t et X = record {
  sizes = X.sizes;
  arrays = record { rows = length-set (replicate degree_limit 0) r 1; columns = refl; distances = X.long; sources = refl; joins = refl; alternatives = length-set (replicate degree_limit (replicate degree_limit degree_limit)) r m; each = alt_long r m r_low X.sizes.matching };
  bytes = alt_bytes l r m r_low X.bytes;
  owners = X.owners;
  lowest = record {
    below = X.below;
    tree = mark_here r r_low;
    equal = omega (arith, X.root, at_all 0 r r_low);
    least = λ i hi e. ⊎_elim
        (λ q. omega (arith, ap (at y) q, X.root))
        (λ n. absurd (marks_one r i r_low (omega (arith, k_few)) n e))
        (same? i r);
    small = omega arith;
  };
  nearest = record {
    low = λ x hx c. X.nearest.low x hx (λ e. omega arith);
    small = X.nearest.small;
    found = λ h. let f = X.nearest.found h in (f.0, (λ e. omega (arith, e, at_all 0 b (omega (arith, f.0, X.sized.columns)))), f.2);
  };
  search = λ p. record {
    level = 0;
    run = run_start X.below p.pending p.state X.root (mark_here r r_low) (λ i hi. marks_one r i r_low (omega (arith, k_few))) (λ j hj e. omega (arith, e, at_all 0 j (omega (arith, l_few)))) X.distances (λ j hj. at_all t j (omega (arith, l_few)) ∙ et) (at_all 0 r r_low) (λ i hi. ap (λ (x : List ℕ). at x i) (alt_here r m r_low));
  };
}
  where
    k_few : k ≤ degree_limit
    k_few = X.sized.rows

    l_few : l ≤ degree_limit
    l_few = X.sized.columns

    r_low : r < degree_limit
    r_low = omega (arith, X.below, k_few)

-- ---- a turn

module _ {k l r : ℕ} {g : ℕ → ℕ → ℕ} {y₀ z₀ m₀ y z m own row col dist from join : List ℕ} {alt : List (List ℕ)} {a low b d : ℕ} {dist₀ : List ℕ} {b₀ d₀ : ℕ} (P : Rooted k l r g y₀ z₀ m₀ own dist₀ b₀ d₀) (X : Turn k l r g y₀ z₀ m₀ y z m own row col dist from join alt a low b d) where
  module _ (p : Pending k l r g (at y₀) (at z₀) (at m₀)) where
    level≤low : (X.search p).level ≤ low
    level≤low = omega (arith, X.lowest.equal, (X.search p).run.yin a X.lowest.below X.lowest.tree)

  R₀ : Run k l r g P.pending.finished (X.search P.pending).level (at y) (at z) (at m) (at row) (at col) (at dist) (at from) (at join) (entry alt)
  R₀ = (X.search P.pending).run

  -- tree rows and columns at the end
  room : (e : ℕ) → (X.search P.pending).level ≤ e → e ≤ low → Room k l e row col dist join y z
  room e le lim = record {
    few_rows = P.sized.rows;
    few_columns = P.sized.columns;
    y_long = X.sizes.rows;
    z_long = X.sizes.columns;
    rows = λ x hx t. (omega (arith, X.lowest.least x hx t), omega (arith, R₀.yin x hx t, R₀.now, top x hx t));
    columns = λ x hx c. (omega (arith, R₀.zin x hx c), omega (arith, X.lowest.small, column_limit R₀.start P.sized.gains x hx));
  }
    where
      top : (x : ℕ) → x < k → at row x ≡ 1 → R₀.Y x ≤ gain_limit
      top x hx t = ⊎_elim
          (λ q. subst (λ (i : ℕ). R₀.Y i ≤ gain_limit) (sym q) R₀.tree.limit)
          (λ n. R₀.state.limit x hx (matched_finished R₀.state x hx (R₀.tree.rows x hx t n).0))
          (same? x r)

  pub room_row : low ≤ d → Room k l low row col dist join y z
  room_row le = room low (level≤low P.pending) (omega arith)

  pub a_low : a < degree_limit
  a_low = omega (arith, X.lowest.below, P.sized.rows)

  -- the search ends where tree row a has dual 0
  pub turn_end_row : low ≤ d → {y' z' : List ℕ} → Settled k l low row col dist join y z y' z' → Ended k l r g y₀ z₀ m₀ y' z' (get_or alt a [])
  turn_end_row le {y'} {z'} S = record {
    sizes = record { rows = S.rows.size ∙ X.sizes.rows; columns = S.columns.size ∙ X.sizes.columns; matching = X.arrays.each a a_low };
    bytes = X.bytes a a_low;
    joined = record {
      state = λ p.
          run_end_row P.below p.pending
          (advance P.below p.pending (X.search p).run low (level≤low p) X.lowest.small X.lowest.least (λ j hj c. omega (arith, X.nearest.low j hj c)))
          S.rows.done S.columns.done a X.lowest.below X.lowest.tree (sym X.lowest.equal) (λ i hi. refl);
    };
  }

  -- the sum of all duals falls by the distance
  pub turn_total_row : low ≤ d → {y' z' : List ℕ} → Settled k l low row col dist join y z y' z' → sum k (at y') + sum l (at z') + low ≡ sum k (at y) + sum l (at z)
  turn_total_row le S = run_end_total P.below P.pending.pending
      (advance P.below P.pending.pending R₀ low (level≤low P.pending) X.lowest.small X.lowest.least (λ j hj c. omega (arith, X.nearest.low j hj c)))
      S.rows.done S.columns.done

  -- column b is nearer than that
  module _ (near : d < low) where
    found : (b < l) × (at col b ≢ 1) × (at dist b ≡ d)
    found = X.nearest.found (omega (arith, X.lowest.small))

    pub b_low : b < degree_limit
    b_low = omega (arith, found.0, P.sized.columns)

    pub from_low : at from b < degree_limit
    from_low = omega (arith, ((X.search P.pending).run.tree.from b found.0 found.1).0, P.sized.rows)

    level≤d : (p : Pending k l r g (at y₀) (at z₀) (at m₀)) → (X.search p).level ≤ d
    level≤d p = omega (arith, (X.search p).run.sout b found.0 found.1, found.2)

    pub room_column : Room k l d row col dist join y z
    room_column = room d (level≤d P.pending) (omega arith)

    moved : (p : Pending k l r g (at y₀) (at z₀) (at m₀)) → Run k l r g p.finished d (at y) (at z) (at m) (at row) (at col) (at dist) (at from) (at join) (entry alt)
    moved p = advance P.below p.pending (X.search p).run d (level≤d p) (omega (arith, X.lowest.small)) (λ i hi t. omega (arith, X.lowest.least i hi t)) X.nearest.low

    -- the alternative of the row that is nearest to b, with b
    alternative : Bytes l (set (get_or alt (at from b) []) (at from b) b)
    alternative = bytes_set (at from b) b (X.bytes (at from b) from_low) (omega (arith, from_low, X.arrays.each (at from b) from_low)) (inl found.0)

    -- the search ends at column b, which no row has
    pub turn_end_column : degree_limit ≤ at own b → {y' z' : List ℕ} → Settled k l d row col dist join y z y' z' → Ended k l r g y₀ z₀ m₀ y' z' (set (get_or alt (at from b) []) (at from b) b)
    turn_end_column free {y'} {z'} S = record {
      sizes = record { rows = S.rows.size ∙ X.sizes.rows; columns = S.columns.size ∙ X.sizes.columns; matching = length-set (get_or alt (at from b) []) (at from b) b ∙ X.arrays.each (at from b) from_low };
      bytes = alternative;
      joined = record {
        state = λ p.
            run_end_column P.below p.pending (moved p) S.rows.done S.columns.done b found.0 found.1 found.2 (X.owners.none b b_low free)
            (put_set k (get_or alt (at from b) []) (at from b) b (omega (arith, from_low, X.arrays.each (at from b) from_low)));
      };
    }

    pub turn_total_column : {y' z' : List ℕ} → Settled k l d row col dist join y z y' z' → sum k (at y') + sum l (at z') + d ≡ sum k (at y) + sum l (at z)
    turn_total_column S = run_end_total P.below P.pending.pending (moved P.pending) S.rows.done S.columns.done

    -- row o has column b, and both join the tree
    module _ (o : ℕ) (eo : o ≡ at own b) (lt : o < degree_limit) where
      owner : (at own b < k) × (at m (at own b) ≡ b)
      owner = X.owners.has b b_low (omega (arith, eo))

      o<k : o < k
      o<k = omega (arith, owner.0, eo)

      mo : at m o ≡ b
      mo = ap (at m) eo ∙ owner.1

      fo : P.pending.finished o ≡ true
      fo = matched_finished R₀.start o o<k (omega (arith, mo, found.0))

      pub o≢r : o ≢ r
      o≢r q = omega (arith, R₀.state.pending r P.below P.pending.pending, ap (at m) q, mo, found.0)

      o_out : at row o ≢ 1
      o_out t = found.1 (subst (λ (x : ℕ). at col x ≡ 1) mo (R₀.tree.rows o o<k t o≢r).1)

      pub o_countable : {n₀ n : List ℕ} → ((i : ℕ) → i < degree_limit → i ≢ r → RowCountable i n₀) → Tries r row n₀ n → RowCountable (at own b) n
      o_countable {n = n} F T = subst (λ (t : ℕ). RowCountable t n) eo (tries_countable F T lt o_out)

      pub base_small : at y o + d ≤ 2 * gain_limit
      base_small = omega (arith, R₀.start.limit o o<k fo, X.lowest.small)

      pub columns_small : (x : ℕ) → x < l → (at z x ≤ gain_limit) × (g (at own b) x ≤ at y o + d + at z x)
      columns_small x hx = (column_limit R₀.start P.sized.gains x hx, subst (λ (i : ℕ). g i x ≤ at y o + d + at z x) eo (omega (arith, R₀.start.feasible o x o<k fo hx)))

      module _ (q : ℕ) (eq : q ≡ at from b) {alt' : List (List ℕ)} {row' col' join' : List ℕ} (J : Grown q b o d alt row col join alt' row' col' join') where
        put_row : Put k (at row) o 1 (at row')
        put_row = rw J.rows (put_set k row o 1 (omega (arith, X.arrays.rows)))

        put_col : Put l (at col) b 1 (at col')
        put_col = rw J.columns (put_set l col b 1 (omega (arith, X.arrays.columns, b_low)))

        put_join : Put k (at join) o d (at join')
        put_join = rw J.joins (put_set k join o d (omega (arith, X.arrays.joins)))

        -- the pairs of o are looked at for the first time
        pub tries_grow : {n₀ n n' : List ℕ} → Tries r row n₀ n → Tried (at own b) l n n' → Tries r row' n₀ n'
        tries_grow {n = n} {n' = n'} T S = tries_more T o_out (omega (arith, X.arrays.rows)) J.rows (subst (λ (t : ℕ). Tried t l n n') (sym eo) S)

        pub fewer : outside l (at col') < outside l (at col)
        fewer = outside_less l b (at col) (at col') found.0 found.1 put_col

        alts : alt' ≡ set alt o (set (set (get_or alt (at from b) []) (at from b) b) o degree_limit)
        alts = subst (λ (x : ℕ). alt' ≡ set alt o (set (set (get_or alt x []) x b) o degree_limit)) eq J.alts

        pub turn_grow : {a' low' b' d' : ℕ} {dist' from' : List ℕ} → a' ≡ who_of (at y o + d) low o a → low' ≡ less_of (at y o + d) low → Looked l (at own b) (λ x. at y o + d + at z x - g (at own b) x) (at col') dist from dist' from' b' d' →
            Turn k l r g y₀ z₀ m₀ y z m own row' col' dist' from' join' alt' a' low' b' d'
        turn_grow {a'} {low'} {b'} {d'} {dist'} {from'} ea el L = record {
          sizes = X.sizes;
          arrays = record {
            rows = ap length J.rows ∙ length-set row o 1 ∙ X.arrays.rows;
            columns = ap length J.columns ∙ length-set col b 1 ∙ X.arrays.columns;
            distances = L.distances.size ∙ X.arrays.distances;
            sources = L.sources.size ∙ X.arrays.sources;
            joins = ap length J.joins ∙ length-set join o d ∙ X.arrays.joins;
            alternatives = ap length J.alts ∙ length-set alt o _ ∙ X.arrays.alternatives;
            each = each;
          };
          bytes = bytes;
          owners = X.owners;
          lowest = ⊎_elim lower higher (less? (at y o + d) low);
          nearest = L.nearest;
          search = λ p. record {
            level = d;
            run = run_grow P.below p.pending (moved p) found.0 found.1 found.2 o<k mo P.sized.columns put_row put_col put_join
                L'.distances.done L'.sources.done
                (put_set k (get_or alt (at from b) []) (at from b) b (omega (arith, from_low, X.arrays.each (at from b) from_low)))
                (put_set k (set (get_or alt (at from b) []) (at from b) b) o degree_limit (omega (arith, length-set (get_or alt (at from b) []) (at from b) b, X.arrays.each (at from b) from_low)))
                (λ i hi. ap (λ (t : List (List ℕ)). entry t o i) alts ∙ ap (λ (t : List ℕ). at t i) (get_or-set_same alt o _ [] (omega (arith, X.arrays.alternatives))))
                (λ s i hs n hi. ap (λ (t : List (List ℕ)). entry t s i) alts ∙ ap (λ (t : List ℕ). at t i) (get_or-set_other alt o s _ [] n));
          };
        }
          where
            L' : Looked l o (λ x. at y o + d + at z x - g o x) (at col') dist from dist' from' b' d'
            L' = subst (λ (t : ℕ). Looked l t (λ x. at y o + d + at z x - g t x) (at col') dist from dist' from' b' d') (sym eo) L

            each : (t : ℕ) → t < degree_limit → length (get_or alt' t []) ≡ degree_limit
            each t ht = ap (λ (x : List (List ℕ)). length (get_or x t [])) alts ∙ ⊎_elim
                (λ e. ap (λ (i : ℕ). length (get_or (set alt o (set (set (get_or alt (at from b) []) (at from b) b) o degree_limit)) i [])) e
                ∙ ap length (get_or-set_same alt o (set (set (get_or alt (at from b) []) (at from b) b) o degree_limit) [] (omega (arith, X.arrays.alternatives)))
                ∙ length-set (set (get_or alt (at from b) []) (at from b) b) o degree_limit ∙ length-set (get_or alt (at from b) []) (at from b) b ∙ X.arrays.each (at from b) from_low)
                (λ n. ap length (get_or-set_other alt o t _ [] n) ∙ X.arrays.each t ht)
                (same? t o)

            bytes : (t : ℕ) → t < degree_limit → Bytes l (get_or alt' t [])
            bytes t ht = subst
                (λ (x : List (List ℕ)). Bytes l (get_or x t []))
                (sym alts)
                (⊎_elim
                (λ e. subst
                (λ (x : List ℕ). Bytes l x)
                (sym (ap (λ (i : ℕ). get_or (set alt o (set (set (get_or alt (at from b) []) (at from b) b) o degree_limit)) i []) e ∙ get_or-set_same alt o (set (set (get_or alt (at from b) []) (at from b) b) o degree_limit) [] (omega (arith, X.arrays.alternatives))))
                (bytes_set o degree_limit alternative (omega (arith, length-set (get_or alt (at from b) []) (at from b) b, X.arrays.each (at from b) from_low)) (inr refl)))
                (λ n. subst (λ (x : List ℕ). Bytes l x) (sym (get_or-set_other alt o t _ [] n)) (X.bytes t ht))
                (same? t o))

            -- a tree row but o
            old : (i : ℕ) → i < k → i ≢ o → at row' i ≡ 1 → low ≤ at y i + at join' i
            old i hi n t = omega (arith, X.lowest.least i hi (sym (put_row.other i hi n) ∙ t), put_join.other i hi n)

            new : (i : ℕ) → i ≡ o → at y i + at join' i ≡ at y o + d
            new i e = ap (λ (x : ℕ). at y x + at join' x) e ∙ ap (λ (x : ℕ). at y o + x) put_join.here

            lower : at y o + d < low → Lowest k (at y) (at row') (at join') a' low'
            lower h =
                let ql : low' ≡ at y o + d = el ∙ rw (lt-ltb (at y o + d) low h) in
                let qa : a' ≡ o = ea ∙ rw (lt-ltb (at y o + d) low h) in
                record {
                  below = omega (arith, qa, o<k);
                  tree = ap (at row') qa ∙ put_row.here;
                  equal = ql ∙ sym (new a' qa);
                  least = λ i hi t. ⊎_elim (λ e. omega (arith, ql, new i e)) (λ n. omega (arith, ql, old i hi n t)) (same? i o);
                  small = omega (arith, ql, X.lowest.small);
                }

            higher : low ≤ at y o + d → Lowest k (at y) (at row') (at join') a' low'
            higher h =
                let ql : low' ≡ low = el ∙ rw (le-ltb (at y o + d) low h) in
                let qa : a' ≡ a = ea ∙ rw (le-ltb (at y o + d) low h) in
                let n : a ≢ o = λ e. o_out (ap (at row) (sym e) ∙ X.lowest.tree) in
                record {
                  below = omega (arith, qa, X.lowest.below);
                  tree = ap (at row') qa ∙ put_row.other a X.lowest.below n ∙ X.lowest.tree;
                  equal = ql ∙ X.lowest.equal ∙ ap (λ (x : ℕ). at y a + x) (sym (put_join.other a X.lowest.below n)) ∙ ap (λ (x : ℕ). at y x + at join' x) (sym qa);
                  least = λ i hi t. ⊎_elim (λ e. omega (arith, ql, new i e)) (λ n. omega (arith, ql, old i hi n t)) (same? i o);
                  small = omega (arith, ql, X.lowest.small);
                }
