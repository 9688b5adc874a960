-- The turns of a search whose duals are written at its end. Assumes nothing.
use mathlib.Core.Path.{◌≡◌, refl, sym, ap, subst, ◌∙◌}
use mathlib.Core.Logic.{inl, inr, ⊎_elim, ◌≢◌}
use mathlib.Core.Bool.{Bool, true, false, cond}
use Prim.Native.Nat.{ℕ, ◌+◌, ◌-◌, ◌≤◌, ◌<◌}
use native.Mathlib.Omega.{arith}
use lib.Dec.{eqb}
use borrow.Author.Tests.{eq-eqb, ne_eqb, lt-ltb, le-ltb}
use Rattle.foundations.specs.Tests.{same?, less?}
use Rattle.foundations.specs.Sums.{sum, sum_ext, sum_add, sum_zero, sum_point}
use Rattle.model.specs.Limits.{degree_limit}
use Rattle.assignment.specs.Matching.{gain_limit}
use Rattle.assignment.specs.State.{State, also}
use Rattle.assignment.specs.Loops.{less_of, who_of, row_end, column_end}
use Rattle.assignment.specs.Tree.{Shifted, Put, Seen, Run, Balance, marked}
use Rattle.assignment.proofs.Steps.{matched_finished, shift_state, shift_tree, end_row, end_column, grow, start_tree, state_ext}

less_yes : {new old : ℕ} → new < old → less_of new old ≡ new
less_yes {new} {old} h = rw (lt-ltb new old h)

less_no : {new old : ℕ} → old ≤ new → less_of new old ≡ old
less_no {new} {old} h = rw (le-ltb new old h)

-- ---- the sum of all duals

marked_in : (T : ℕ → ℕ) (x i : ℕ) → T i ≡ 1 → marked T x i ≡ x
marked_in T x i t = rw (eq-eqb (T i) 1 t)

marked_out : (T : ℕ → ℕ) (x i : ℕ) → T i ≢ 1 → marked T x i ≡ 0
marked_out T x i t = rw (ne_eqb (T i) 1 t)

-- one mark more
marked_more : (n c x : ℕ) (T T' : ℕ → ℕ) → c < n → T c ≢ 1 → Put n T c 1 T' → sum n (marked T' x) ≡ sum n (marked T x) + x
marked_more n c x T T' h out P =
    let s = sum_point n (marked T' x) (marked T x) c h (λ j hj ne. ap (λ (a : ℕ). cond (eqb a 1) x 0) (P.other j hj ne)) in
    omega (arith, s, marked_in T' x c P.here, marked_out T x c out)

balance_start : {k l r : ℕ} {T C : ℕ → ℕ} → r < k → T r ≡ 1 → ((i : ℕ) → i < k → i ≢ r → T i ≢ 1) → ((j : ℕ) → j < l → C j ≢ 1) → Balance k l T C
balance_start {k} {l} {r} {T} {C} hr t Tn Cn = record {
  even = λ x.
      let s = sum_point k (marked T x) (λ i. 0) r hr (λ i hi n. marked_out T x i (Tn i hi n)) in
      omega (arith, s, sum_zero k (λ i. 0) (λ i hi. refl), marked_in T x r t, sum_zero l (marked C x) (λ j hj. marked_out C x j (Cn j hj)));
}

balance_more : {k l o b : ℕ} {T C T' C' : ℕ → ℕ} → Balance k l T C → o < k → T o ≢ 1 → Put k T o 1 T' → b < l → C b ≢ 1 → Put l C b 1 C' → Balance k l T' C'
balance_more {k} {l} {o} {b} {T} {C} {T'} {C'} B ho to PT hb cb PC = record {
  even = λ x. omega (arith, B.even x, marked_more k o x T T' ho to PT, marked_more l b x C C' hb cb PC);
}

-- tree rows fall and tree columns rise by e
total_shifted : {k l e : ℕ} {T C y z S y' z' S' : ℕ → ℕ} → Balance k l T C → Shifted k l e T C y z S y' z' S' → sum k y' + sum l z' + e ≡ sum k y + sum l z
total_shifted {k} {l} {e} {T} {C} {y} {z} {S} {y'} {z'} B sh =
    let rows : sum k y ≡ sum k y' + sum k (marked T e) =
    sum_ext k y (λ i. y' i + marked T e i) (λ i hi. ⊎_elim
    (λ t. omega (arith, sh.yin i hi t, marked_in T e i t))
    (λ t. omega (arith, sh.yout i hi t, marked_out T e i t))
    (same? (T i) 1)) ∙ sum_add k y' (marked T e)
    in
    let columns : sum l z' ≡ sum l z + sum l (marked C e) =
    sum_ext l z' (λ j. z j + marked C e j) (λ j hj. ⊎_elim
    (λ c. omega (arith, sh.zin j hj c, marked_in C e j c))
    (λ c. omega (arith, sh.zout j hj c, marked_out C e j c))
    (same? (C j) 1)) ∙ sum_add l z (marked C e)
    in
    omega (arith, rows, columns, B.even e)

-- ---- the turns

module _ {k l r : ℕ} {g : ℕ → ℕ → ℕ} {f : ℕ → Bool} {y z m T C W F J : ℕ → ℕ} {A : ℕ → ℕ → ℕ} (hr : r < k) (wait : f r ≡ false) where
  -- the distance goes up to e, where no tree row's dual and no slack falls below 0
  pub advance : {D : ℕ} → Run k l r g f D y z m T C W F J A → (e : ℕ) → D ≤ e → e ≤ gain_limit → ((i : ℕ) → i < k → T i ≡ 1 → e ≤ y i + J i) → ((j : ℕ) → j < l → C j ≢ 1 → e ≤ W j) → Run k l r g f e y z m T C W F J A
  advance {D} R e le lim rows columns = record {
    Y = Y';
    Z = Z';
    S = S';
    start = R.start;
    state = shift_state hr wait R.state R.tree sh;
    tree = shift_tree hr wait R.state R.tree sh;
    root = R.root;
    now = lim;
    yin = λ i hi t. omega (arith, y_in i t, R.yin i hi t, rows i hi t);
    yout = λ i hi t. y_out i t ∙ R.yout i hi t;
    zin = λ j hj c. omega (arith, z_in j c, R.zin j hj c);
    zout = λ j hj c. z_out j c ∙ R.zout j hj c;
    sout = λ j hj c. omega (arith, R.sout j hj c, columns j hj c);
    balance = R.balance;
    total = omega (arith, total_shifted R.balance sh, R.total);
  }
    where
      Y' : ℕ → ℕ
      Y' i = cond (eqb (T i) 1) (R.Y i - (e - D)) (R.Y i)

      Z' : ℕ → ℕ
      Z' j = cond (eqb (C j) 1) (R.Z j + (e - D)) (R.Z j)

      S' : ℕ → ℕ
      S' j = R.S j - (e - D)

      y_in : (i : ℕ) → T i ≡ 1 → Y' i ≡ R.Y i - (e - D)
      y_in i t = rw (eq-eqb (T i) 1 t)

      y_out : (i : ℕ) → T i ≢ 1 → Y' i ≡ R.Y i
      y_out i t = rw (ne_eqb (T i) 1 t)

      z_in : (j : ℕ) → C j ≡ 1 → Z' j ≡ R.Z j + (e - D)
      z_in j c = rw (eq-eqb (C j) 1 c)

      z_out : (j : ℕ) → C j ≢ 1 → Z' j ≡ R.Z j
      z_out j c = rw (ne_eqb (C j) 1 c)

      sh : Shifted k l (e - D) T C R.Y R.Z R.S Y' Z' S'
      sh = record {
        yin = λ i hi t. omega (arith, y_in i t, R.yin i hi t, rows i hi t);
        yout = λ i hi t. y_out i t;
        zin = λ j hj c. z_in j c;
        zout = λ j hj c. z_out j c;
        sout = λ j hj c. omega (arith, R.sout j hj c, columns j hj c);
      }

  -- row o and its column b, at distance D, join the tree
  pub run_grow : {D b o : ℕ} → Run k l r g f D y z m T C W F J A → b < l → C b ≢ 1 → W b ≡ D → o < k → m o ≡ b → l ≤ degree_limit →
      {T' C' W' F' J' a₁ a₂ : ℕ → ℕ} {A' : ℕ → ℕ → ℕ} → Put k T o 1 T' → Put l C b 1 C' → Put k J o D J' →
      ((j : ℕ) → j < l → W' j ≡ less_of (y o + D + z j - g o j) (W j)) → ((j : ℕ) → j < l → F' j ≡ who_of (y o + D + z j - g o j) (W j) o (F j)) →
      Put k (A (F b)) (F b) b a₁ → Put k a₁ o degree_limit a₂ → ((i : ℕ) → i < k → A' o i ≡ a₂ i) → ((s i : ℕ) → s < k → s ≢ o → i < k → A' s i ≡ A s i) →
      Run k l r g f D y z m T' C' W' F' J' A'
  run_grow {D} {b} {o} R hb out wb ho mo l_few {T'} {C'} {W'} {F'} {J'} {a₁} {a₂} {A'} PT PC PJ w' f' P₁ P₂ At As = record {
    Y = R.Y;
    Z = R.Z;
    S = S';
    start = R.start;
    state = R.state;
    tree = grow hr wait R.state R.tree b hb out s0 o ho mo PT PC seen P₁ degree_limit l_few P₂ At As;
    root = R.root;
    now = R.now;
    yin = λ i hi t. ⊎_elim
        (λ q. subst (λ (x : ℕ). R.Y x + D ≡ y x + J' x) (sym q) (omega (arith, yo, PJ.here)))
        (λ n. omega (arith, R.yin i hi (sym (PT.other i hi n) ∙ t), PJ.other i hi n))
        (same? i o);
    yout = λ i hi t. R.yout i hi (λ e. t (PT.other i hi (λ q. o_out (ap T (sym q) ∙ e)) ∙ e));
    zin = λ j hj c. ⊎_elim
        (λ q. subst (λ (x : ℕ). R.Z x + W' x ≡ z x + D) (sym q) (omega (arith, R.zout b hb out, kept_b, wb)))
        (λ n. omega (arith, R.zin j hj (sym (PC.other j hj n) ∙ c), kept j hj (sym (PC.other j hj n) ∙ c)))
        (same? j b);
    zout = λ j hj c. R.zout j hj (c_out j hj c);
    sout = λ j hj c. omega (arith, above j hj (c_out j hj c));
    balance = balance_more R.balance ho o_out PT hb out PC;
    total = R.total;
  }
    where
      S' : ℕ → ℕ
      S' j = W' j - D

      N : ℕ → ℕ
      N j = y o + D + z j - g o j

      s0 : R.S b ≡ 0
      s0 = omega (arith, R.sout b hb out)

      fo : f o ≡ true
      fo = matched_finished R.state o ho (omega arith)

      o≢r : o ≢ r
      o≢r q = omega (arith, R.state.pending r hr wait, ap m q)

      o_out : T o ≢ 1
      o_out t = out (subst (λ (x : ℕ). C x ≡ 1) mo (R.tree.rows o ho t o≢r).1)

      yo : R.Y o ≡ y o
      yo = R.yout o ho o_out

      covered : (j : ℕ) → j < l → g o j ≤ R.Y o + R.Z j
      covered j hj = R.state.feasible o j ho fo hj

      c_out : (j : ℕ) → j < l → C' j ≢ 1 → C j ≢ 1
      c_out j hj n e = n (PC.other j hj (λ q. out (ap C (sym q) ∙ e)) ∙ e)

      -- outside the tree the new distance is D at least
      far_out : (j : ℕ) → j < l → C j ≢ 1 → D + g o j ≤ y o + D + z j
      far_out j hj c = omega (arith, covered j hj, R.zout j hj c, yo)

      yes : (j : ℕ) → j < l → N j < W j → (W' j ≡ N j) × (F' j ≡ o)
      yes j hj lt = (w' j hj ∙ less_yes lt, f' j hj ∙ rw (lt-ltb (N j) (W j) lt))

      no : (j : ℕ) → j < l → W j ≤ N j → (W' j ≡ W j) × (F' j ≡ F j)
      no j hj le = (w' j hj ∙ less_no le, f' j hj ∙ rw (le-ltb (N j) (W j) le))

      above : (j : ℕ) → j < l → C j ≢ 1 → D ≤ W' j
      above j hj c = ⊎_elim (λ lt. omega (arith, (yes j hj lt).0, far_out j hj c)) (λ le. omega (arith, (no j hj le).0, R.sout j hj c)) (less? (N j) (W j))

      -- in the tree the distance stays
      kept : (j : ℕ) → j < l → C j ≡ 1 → W' j ≡ W j
      kept j hj c = (no j hj (omega (arith, covered j hj, R.zin j hj c, yo))).0

      kept_b : W' b ≡ W b
      kept_b = (no b hb (omega (arith, far_out b hb out, wb))).0

      seen : Seen l (g o) (R.Y o) R.Z C' o R.S F S' F'
      seen = record {
        old = λ j hj c. let c' = c_out j hj c in ⊎_elim (λ lt. omega (arith, (yes j hj lt).0, R.sout j hj c')) (λ le. omega (arith, (no j hj le).0, R.sout j hj c')) (less? (N j) (W j));
        new = λ j hj c. let c' = c_out j hj c in
            ⊎_elim
            (λ lt. omega (arith, (yes j hj lt).0, far_out j hj c', yo, R.zout j hj c'))
            (λ le. omega (arith, (no j hj le).0, far_out j hj c', yo, R.zout j hj c', R.sout j hj c'))
            (less? (N j) (W j));
        from = λ j hj c. let c' = c_out j hj c in
            ⊎_elim
            (λ lt. inr (omega (arith, (yes j hj lt).0, far_out j hj c', yo, R.zout j hj c'), (yes j hj lt).1))
            (λ le. inl (omega (arith, (no j hj le).0, R.sout j hj c'), (no j hj le).1))
            (less? (N j) (W j));
      }

  -- the duals that the end writes are the search's own
  module _ {e : ℕ} (R : Run k l r g f e y z m T C W F J A) {y' z' : ℕ → ℕ} (ey : (i : ℕ) → i < k → y' i ≡ row_end e (T i) (J i) (y i)) (ez : (j : ℕ) → j < l → z' j ≡ column_end e (C j) (W j) (z j)) where
    end_y : (i : ℕ) → i < k → y' i ≡ R.Y i
    end_y i hi = ⊎_elim
        (λ t. let q : row_end e (T i) (J i) (y i) ≡ y i + J i - e = rw (eq-eqb (T i) 1 t) in omega (arith, ey i hi, q, R.yin i hi t))
        (λ t. ey i hi ∙ rw (ne_eqb (T i) 1 t) (sym (R.yout i hi t)))
        (same? (T i) 1)

    end_z : (j : ℕ) → j < l → z' j ≡ R.Z j
    end_z j hj = ⊎_elim
        (λ c. let q : column_end e (C j) (W j) (z j) ≡ z j + e - W j = rw (eq-eqb (C j) 1 c) in omega (arith, ez j hj, q, R.zin j hj c))
        (λ c. ez j hj ∙ rw (ne_eqb (C j) 1 c) (sym (R.zout j hj c)))
        (same? (C j) 1)

    -- the sum of all duals has fallen by the distance
    pub run_end_total : sum k y' + sum l z' + e ≡ sum k y + sum l z
    run_end_total = omega (arith, sum_ext k y' R.Y end_y, sum_ext l z' R.Z end_z, R.total)

    pub run_end_row : (a : ℕ) → a < k → T a ≡ 1 → y a + J a ≡ e → {m' : ℕ → ℕ} → ((i : ℕ) → i < k → m' i ≡ A a i) → State k l g (also r f) y' z' m'
    run_end_row a ha ta ea em = state_ext (end_row hr wait R.state R.tree a ha ta (let z0 : R.Y a ≡ 0 = omega (arith, R.yin a ha ta) in z0)) (λ i hi. refl) (λ i hi _. end_y i hi) end_z em

    pub run_end_column : (b : ℕ) → b < l → C b ≢ 1 → W b ≡ e → ((i : ℕ) → i < k → m i ≢ b) → {m' : ℕ → ℕ} → Put k (A (F b)) (F b) b m' → State k l g (also r f) y' z' m'
    run_end_column b hb out wb free P = state_ext (end_column hr wait R.state R.tree b hb out (let s0 : R.S b ≡ 0 = omega (arith, R.sout b hb out) in s0) free P) (λ i hi. refl) (λ i hi _. end_y i hi) end_z (λ i hi. refl)

  -- the tree of row r alone, whose dual is the limit
  pub run_start : State k l g f y z m → y r ≡ gain_limit → T r ≡ 1 → ((i : ℕ) → i < k → i ≢ r → T i ≢ 1) → ((j : ℕ) → j < l → C j ≢ 1) → ((j : ℕ) → j < l → W j + g r j ≡ gain_limit + z j) → ((j : ℕ) → j < l → F j ≡ r) → J r ≡ 0 → ((i : ℕ) → i < k → A r i ≡ m i) → Run k l r g f 0 y z m T C W F J A
  run_start G yr Tr Tn Cn Wr Fr Jr Ar = record {
    Y = y;
    Z = z;
    S = W;
    start = G;
    state = G;
    tree = start_tree hr wait G (omega arith) Tr Tn Cn (λ j hj. omega (arith, Wr j hj)) Fr Ar;
    root = yr;
    now = omega arith;
    yin = λ i hi t. ⊎_elim (λ q. subst (λ (x : ℕ). y x + 0 ≡ y x + J x) (sym q) (omega (arith, Jr))) (λ n. absurd (Tn i hi n t)) (same? i r);
    yout = λ i hi t. refl;
    zin = λ j hj c. absurd (Cn j hj c);
    zout = λ j hj c. refl;
    sout = λ j hj c. omega arith;
    balance = balance_start hr Tr Tn Cn;
    total = omega arith;
  }
