-- The steps of a search keep `State` and `Tree`. Assumes nothing.
use mathlib.Core.Path.{◌≡◌, refl, sym, ap, subst, ◌∙◌}
use mathlib.Core.Logic.{◌⊎◌, inl, inr, ⊎_elim, ◌≢◌}
use mathlib.Core.Bool.{Bool, true, false, ◌||◌, true≢false}
use Prim.Native.Nat.{ℕ, ◌+◌, ◌≤◌, ◌<◌}
use native.Mathlib.Omega.{arith}
use borrow.Author.Tests.{eq-eqb, ne_eqb}
use Rattle.foundations.specs.Tests.{same?, or_true, or_false}
use Rattle.assignment.specs.Matching.{gain_limit, Has}
use Rattle.assignment.specs.State.{State, also}
use Rattle.assignment.specs.Tree.{Alternative, Tree, Shifted, Put, Seen}

-- ---- the finished rows, and r

pub also_split : (r : ℕ) (f : ℕ → Bool) (i : ℕ) → also r f i ≡ true → (i ≡ r) ⊎ ((i ≢ r) × (f i ≡ true))
unfolding also
also_split r f i e = ⊎_elim inl (λ n. inr (n, sym (or_false (f i)) ∙ sym (ap (λ (b : Bool). f i || b) (ne_eqb i r n)) ∙ e)) (same? i r)

pub also_out : (r : ℕ) (f : ℕ → Bool) (i : ℕ) → also r f i ≡ false → (i ≢ r) × (f i ≡ false)
unfolding also
also_out r f i e = (n, sym (or_false (f i)) ∙ sym (ap (λ (b : Bool). f i || b) (ne_eqb i r n)) ∙ e)
  where
    n : i ≢ r
    n q = true≢false (sym (ap (λ (b : Bool). f i || b) (eq-eqb i r q) ∙ or_true (f i)) ∙ e)

pub also_same : (r : ℕ) (f : ℕ → Bool) (i : ℕ) → i ≡ r → also r f i ≡ true
unfolding also
also_same r f i q = ap (λ (b : Bool). f i || b) (eq-eqb i r q) ∙ or_true (f i)

pub also_other : (r : ℕ) (f : ℕ → Bool) (i : ℕ) → i ≢ r → also r f i ≡ f i
unfolding also
also_other r f i n = ap (λ (b : Bool). f i || b) (ne_eqb i r n) ∙ or_false (f i)

differ : (f : ℕ → Bool) {i r : ℕ} → f i ≡ true → f r ≡ false → i ≢ r
differ f {i} {r} p q e = true≢false (sym p ∙ ap f e ∙ q)

bool : (b : Bool) → (b ≡ true) ⊎ (b ≡ false)
bool true = inl refl
bool false = inr refl

-- a row that has a column is finished
pub matched_finished : {k l : ℕ} {g : ℕ → ℕ → ℕ} {f : ℕ → Bool} {y z m : ℕ → ℕ} → State k l g f y z m → (i : ℕ) → i < k → m i < l → f i ≡ true
matched_finished {f = f} G i hi lt = ⊎_elim (λ e. e) (λ e. absurd (omega (arith, G.pending i hi e))) (bool (f i))

-- ---- the same state, written otherwise

pub state_ext : {k l : ℕ} {g : ℕ → ℕ → ℕ} {p q : ℕ → Bool} {y z m y' z' m' : ℕ → ℕ} → State k l g p y z m → ((i : ℕ) → i < k → q i ≡ p i) → ((i : ℕ) → i < k → p i ≡ true → y' i ≡ y i) → ((j : ℕ) → j < l → z' j ≡ z j) → ((i : ℕ) → i < k → m' i ≡ m i) → State k l g q y' z' m'
state_ext {k} {l} {g} {p} {q} {y} {z} {m} {y'} {z'} {m'} G ep ey ez em = record {
  feasible = λ i j hi f hj. omega (arith, G.feasible i j hi (sym (ep i hi) ∙ f) hj, ey i hi (sym (ep i hi) ∙ f), ez j hj);
  tight = λ i hi hl.
      let lt : m i < l = omega (arith, em i hi) in
      let e : p i ≡ true = matched_finished G i hi lt in
      subst (λ (x : ℕ). g i x ≡ y' i + z' x) (sym (em i hi)) (omega (arith, G.tight i hi lt, ey i hi e, ez (m i) lt));
  injective = λ i j hi hj hl e. G.injective i j hi hj (omega (arith, em i hi)) (sym (em i hi) ∙ e ∙ em j hj);
  columns = λ j hj. ⊎_elim (λ e. inl (ez j hj ∙ e)) (λ h. inr (h.0, h.1, em h.0 h.1 ∙ h.2)) (G.columns j hj);
  rows = λ i hi f. ⊎_elim (λ e. inl (ey i hi (sym (ep i hi) ∙ f) ∙ e)) (λ lt. inr (omega (arith, em i hi))) (G.rows i hi (sym (ep i hi) ∙ f));
  pending = λ i hi f. omega (arith, em i hi, G.pending i hi (sym (ep i hi) ∙ f));
  limit = λ i hi f. omega (arith, ey i hi (sym (ep i hi) ∙ f), G.limit i hi (sym (ep i hi) ∙ f));
}

-- ---- a search under way from row r, which is pending

module _ {k l r : ℕ} {g : ℕ → ℕ → ℕ} {f : ℕ → Bool} {y z m T C S F : ℕ → ℕ} {A : ℕ → ℕ → ℕ} (hr : r < k) (wait : f r ≡ false) (G : State k l g f y z m) (R : Tree k l g r y z m T C S F A) where
  -- a tree row that has a column in m has one of the tree
  matched_in : (i : ℕ) → i < k → m i < l → T i ≡ 1 → C (m i) ≡ 1
  matched_in i hi hl e = (R.rows i hi e (λ q. omega (arith, G.pending r hr wait, ap m q))).1

  -- the dual change
  pub shift_state : {e : ℕ} {y' z' S' : ℕ → ℕ} → Shifted k l e T C y z S y' z' S' → State k l g f y' z' m
  shift_state {e} {y'} {z'} {S'} D = record {
    feasible = λ i j hi fi hj.
        ⊎_elim
        (λ t. ⊎_elim
        (λ c. omega (arith, D.yin i hi t, D.zin j hj c, G.feasible i j hi fi hj))
        (λ c. omega (arith, D.yin i hi t, D.zout j hj c, D.sout j hj c, R.slack i j hi hj t c))
        (same? (C j) 1))
        (λ t. ⊎_elim
        (λ c. omega (arith, D.yout i hi t, D.zin j hj c, G.feasible i j hi fi hj))
        (λ c. omega (arith, D.yout i hi t, D.zout j hj c, G.feasible i j hi fi hj))
        (same? (C j) 1))
        (same? (T i) 1);
    tight = λ i hi hl.
        ⊎_elim
        (λ t. omega (arith, D.yin i hi t, D.zin (m i) hl (matched_in i hi hl t), G.tight i hi hl))
        (λ t. omega (arith, D.yout i hi t, D.zout (m i) hl (λ c. t (R.back i hi hl c)), G.tight i hi hl))
        (same? (T i) 1);
    injective = G.injective;
    columns = λ j hj. ⊎_elim (λ c. inr (R.columns j hj c)) (λ c. ⊎_elim (λ e. inl (D.zout j hj c ∙ e)) inr (G.columns j hj)) (same? (C j) 1);
    rows = λ i hi fi.
        ⊎_elim
        (λ t. inr (R.rows i hi t (differ f fi wait)).0)
        (λ t. ⊎_elim (λ e. inl (D.yout i hi t ∙ e)) inr (G.rows i hi fi))
        (same? (T i) 1);
    pending = G.pending;
    limit = λ i hi fi.
        ⊎_elim
        (λ t. omega (arith, D.yin i hi t, G.limit i hi fi))
        (λ t. omega (arith, D.yout i hi t, G.limit i hi fi))
        (same? (T i) 1);
  }

  pub shift_tree : {e : ℕ} {y' z' S' : ℕ → ℕ} → Shifted k l e T C y z S y' z' S' → Tree k l g r y' z' m T C S' F A
  shift_tree {e} {y'} {z'} {S'} D = record {
    root = R.root;
    cover = λ j hj.
        ⊎_elim
        (λ c. omega (arith, D.yin r hr R.root, D.zin j hj c, R.cover j hj))
        (λ c. omega (arith, D.yin r hr R.root, D.zout j hj c, D.sout j hj c, R.slack r j hr hj R.root c))
        (same? (C j) 1);
    limit = omega (arith, D.yin r hr R.root, R.limit);
    rows = R.rows;
    back = R.back;
    columns = R.columns;
    slack = λ i j hi hj t c. omega (arith, D.yin i hi t, D.zout j hj c, D.sout j hj c, R.slack i j hi hj t c);
    from = λ j hj c.
        let o = R.from j hj c in
        (o.0, o.1, omega (arith, o.2, D.yin (F j) o.0 o.1, D.zout j hj c, D.sout j hj c));
    alt = λ t ht e.
        let a = R.alt t ht e in
        record {
          own = a.own;
          same = a.same;
          tree = λ i hi ti n.
              let b = a.tree i hi ti n in
              (b.0, b.1, omega (arith, b.2, D.yin i hi ti, D.zin (A t i) b.0 b.1));
          injective = a.injective;
          covers = a.covers;
        };
  }

  -- r and the finished rows are covered
  cover_also : (i j : ℕ) → i < k → also r f i ≡ true → j < l → g i j ≤ y i + z j
  cover_also i j hi fi hj = ⊎_elim (λ q. subst (λ (x : ℕ). g x j ≤ y x + z j) (sym q) (R.cover j hj)) (λ o. G.feasible i j hi o.1 hj) (also_split r f i fi)

  limit_also : (i : ℕ) → i < k → also r f i ≡ true → y i ≤ gain_limit
  limit_also i hi fi = ⊎_elim (λ q. subst (λ (x : ℕ). y x ≤ gain_limit) (sym q) R.limit) (λ o. G.limit i hi o.1) (also_split r f i fi)

  -- a row outside the tree
  row_out : (i : ℕ) → i < k → also r f i ≡ true → T i ≢ 1 → (y i ≡ 0) ⊎ (m i < l)
  row_out i hi fi t = ⊎_elim (λ q. absurd (t (ap T q ∙ R.root))) (λ o. G.rows i hi o.1) (also_split r f i fi)

  pending_out : (i : ℕ) → i < k → also r f i ≡ false → T i ≢ 1
  pending_out i hi fi t = let o = also_out r f i fi in omega (arith, G.pending i hi o.1, (R.rows i hi t o.0).0)

  -- a tree row with its dual at 0 gives up its column
  pub end_row : (t : ℕ) → t < k → T t ≡ 1 → y t ≡ 0 → State k l g (also r f) y z (A t)
  end_row t ht e y0 =
      let a = R.alt t ht e in
      record {
        feasible = cover_also;
        tight = λ i hi hl.
            ⊎_elim
            (λ ti. ⊎_elim (λ q. absurd (omega (arith, a.own, ap (A t) q))) (λ n. (a.tree i hi ti n).2) (same? i t))
            (λ ti. subst (λ (x : ℕ). g i x ≡ y i + z x) (sym (a.same i hi ti)) (G.tight i hi (omega (arith, a.same i hi ti))))
            (same? (T i) 1);
        injective = a.injective;
        columns = λ j hj. ⊎_elim inl (λ p. inr (a.covers j hj p)) (G.columns j hj);
        rows = λ i hi fi.
            ⊎_elim
            (λ ti. ⊎_elim (λ q. inl (ap y q ∙ y0)) (λ n. inr (a.tree i hi ti n).0) (same? i t))
            (λ ti. ⊎_elim inl (λ lt. inr (omega (arith, a.same i hi ti))) (row_out i hi fi ti))
            (same? (T i) 1);
        pending = λ i hi fi. omega (arith, G.pending i hi (also_out r f i fi).1, a.same i hi (pending_out i hi fi));
        limit = limit_also;
      }

  -- a column outside the tree whose slack is 0
  module _ (j : ℕ) (hj : j < l) (c : C j ≢ 1) (s0 : S j ≡ 0) where
    p<k : F j < k
    p<k = (R.from j hj c).0

    p_in : T (F j) ≡ 1
    p_in = (R.from j hj c).1

    p_tight : g (F j) j ≡ y (F j) + z j
    p_tight = omega (arith, (R.from j hj c).2)

    p_alt : Alternative k l g y z m T C (F j) (A (F j))
    p_alt = R.alt (F j) p<k p_in

    -- who has column j in the alternative has it in m
    who : (i : ℕ) → i < k → A (F j) i ≡ j → (T i ≢ 1) × (m i ≡ j)
    who i hi e =
        ⊎_elim
        (λ ti. ⊎_elim
        (λ q. absurd (let h : l ≤ A (F j) i = subst (λ (x : ℕ). l ≤ A (F j) x) (sym q) p_alt.own in omega arith))
        (λ n. absurd (c (ap C (sym e) ∙ (p_alt.tree i hi ti n).1)))
        (same? i (F j)))
        (λ ti. (ti, sym (p_alt.same i hi ti) ∙ e))
        (same? (T i) 1)

    -- a free column: the root gets a column
    pub end_column : ((i : ℕ) → i < k → m i ≢ j) → {a' : ℕ → ℕ} → Put k (A (F j)) (F j) j a' → State k l g (also r f) y z a'
    end_column free {a'} P = record {
      feasible = cover_also;
      tight = λ i hi hl.
          ⊎_elim
          (λ q. subst (λ (x : ℕ). g x (a' x) ≡ y x + z (a' x)) (sym q) (subst (λ (x : ℕ). g (F j) x ≡ y (F j) + z x) (sym P.here) p_tight))
          (λ n. subst (λ (x : ℕ). g i x ≡ y i + z x) (sym (P.other i hi n)) (old i hi n (omega (arith, P.other i hi n))))
          (same? i (F j));
      injective = λ i i' hi hi' hl e.
          ⊎_elim
          (λ q. ⊎_elim (λ q'. q ∙ sym q') (λ n'. absurd (new i' hi' n' (sym e ∙ ap a' q ∙ P.here))) (same? i' (F j)))
          (λ n. ⊎_elim (λ q'. absurd (new i hi n (e ∙ ap a' q' ∙ P.here))) (λ n'. p_alt.injective i i' hi hi' (omega (arith, P.other i hi n)) (sym (P.other i hi n) ∙ e ∙ P.other i' hi' n')) (same? i' (F j)))
          (same? i (F j));
      columns = λ j' hj'. ⊎_elim inl (λ h. inr (cover j' hj' (p_alt.covers j' hj' h))) (G.columns j' hj');
      rows = λ i hi fi.
          ⊎_elim
          (λ q. inr (omega (arith, ap a' q, P.here)))
          (λ n. ⊎_elim
          (λ ti. inr (omega (arith, P.other i hi n, (p_alt.tree i hi ti n).0)))
          (λ ti. ⊎_elim inl (λ lt. inr (omega (arith, P.other i hi n, p_alt.same i hi ti))) (row_out i hi fi ti))
          (same? (T i) 1))
          (same? i (F j));
      pending = λ i hi fi.
          let ti = pending_out i hi fi in
          omega (arith, G.pending i hi (also_out r f i fi).1, p_alt.same i hi ti, P.other i hi (λ q. ti (ap T q ∙ p_in)));
      limit = limit_also;
    }
      where
        old : (i : ℕ) → i < k → i ≢ F j → A (F j) i < l → g i (A (F j) i) ≡ y i + z (A (F j) i)
        old i hi n hl =
            ⊎_elim
            (λ ti. (p_alt.tree i hi ti n).2)
            (λ ti. subst (λ (x : ℕ). g i x ≡ y i + z x) (sym (p_alt.same i hi ti)) (G.tight i hi (omega (arith, p_alt.same i hi ti))))
            (same? (T i) 1)

        new : (i : ℕ) → i < k → i ≢ F j → a' i ≢ j
        new i hi n e = free i hi (who i hi (sym (P.other i hi n) ∙ e)).1

        cover : (j' : ℕ) → j' < l → Has k (A (F j)) j' → Has k a' j'
        cover j' hj' h = (h.0, h.1, P.other h.0 h.1 (λ q. omega (arith, p_alt.own, ap (A (F j)) q, h.2)) ∙ h.2)

    -- a column that row t has: both join the tree
    module _ (t : ℕ) (ht : t < k) (mt : m t ≡ j) where
      t_out : T t ≡ 1 → ⊥
      t_out e = c (subst (λ (x : ℕ). C x ≡ 1) mt (matched_in t ht (omega arith) e))

      pub grow : {T' C' S' F' a₁ a₂ : ℕ → ℕ} {A' : ℕ → ℕ → ℕ} → Put k T t 1 T' → Put l C j 1 C' → Seen l (g t) (y t) z C' t S F S' F' → Put k (A (F j)) (F j) j a₁ → (v : ℕ) → l ≤ v → Put k a₁ t v a₂ → ((i : ℕ) → i < k → A' t i ≡ a₂ i) → ((s i : ℕ) → s < k → s ≢ t → i < k → A' s i ≡ A s i) → Tree k l g r y z m T' C' S' F' A'
      grow {T'} {C'} {S'} {F'} {a₁} {a₂} {A'} PT PC E P₁ v hv P₂ At As = record {
        root = PT.other r hr (λ q. t_out (ap T (sym q) ∙ R.root)) ∙ R.root;
        cover = R.cover;
        limit = R.limit;
        rows = λ i hi e n.
            ⊎_elim
            (λ q. let mi : m i ≡ j = ap m q ∙ mt in (omega arith, ap C' mi ∙ PC.here))
            (λ q. let o = R.rows i hi (sym (PT.other i hi q) ∙ e) n in (o.0, C_up (m i) o.0 o.1))
            (same? i t);
        back = λ i hi hl e.
            ⊎_elim
            (λ q. ap T' (G.injective i t hi ht hl (q ∙ sym mt)) ∙ PT.here)
            (λ q. T_up i hi (R.back i hi hl (sym (PC.other (m i) hl q) ∙ e)))
            (same? (m i) j);
        columns = λ j' hj' e.
            ⊎_elim (λ q. (t, ht, mt ∙ sym q)) (λ q. R.columns j' hj' (sym (PC.other j' hj' q) ∙ e)) (same? j' j);
        slack = λ i j' hi hj' e n.
            ⊎_elim
            (λ q. subst (λ (x : ℕ). S' j' + g x j' ≤ y x + z j') (sym q) (E.new j' hj' n))
            (λ q. omega (arith, E.old j' hj' n, R.slack i j' hi hj' (sym (PT.other i hi q) ∙ e) (λ e'. n (C_up j' hj' e'))))
            (same? i t);
        from = λ j' hj' n.
            let o = R.from j' hj' (λ e'. n (C_up j' hj' e')) in
            ⊎_elim
            (λ w. subst (λ (x : ℕ). (x < k) × (T' x ≡ 1) × (S' j' + g x j' ≡ y x + z j')) (sym w.1) (o.0, T_up (F j') o.0 o.1, omega (arith, o.2, w.0)))
            (λ w. subst (λ (x : ℕ). (x < k) × (T' x ≡ 1) × (S' j' + g x j' ≡ y x + z j')) (sym w.1) (ht, PT.here, w.0))
            (E.from j' hj' n);
        alt = λ s hs e.
            ⊎_elim
            (λ q. subst (λ (x : ℕ). Alternative k l g y z m T' C' x (A' x)) (sym q) newer)
            (λ q. older s hs q (R.alt s hs (sym (PT.other s hs q) ∙ e)))
            (same? s t);
      }
        where
          C_up : (x : ℕ) → x < l → C x ≡ 1 → C' x ≡ 1
          C_up x hx e = PC.other x hx (λ q. c (ap C (sym q) ∙ e)) ∙ e

          T_up : (i : ℕ) → i < k → T i ≡ 1 → T' i ≡ 1
          T_up i hi e = PT.other i hi (λ q. t_out (ap T (sym q) ∙ e)) ∙ e

          T_not : (i : ℕ) → i < k → (T' i ≡ 1 → ⊥) → i ≢ t × (T i ≡ 1 → ⊥)
          T_not i hi n = ((λ q. n (ap T' q ∙ PT.here)), (λ e. n (T_up i hi e)))

          carry : (s : ℕ) (a : ℕ → ℕ) → ((i : ℕ) → i < k → A' s i ≡ a i) → s < k → Alternative k l g y z m T' C' s a → Alternative k l g y z m T' C' s (A' s)
          carry s a eq hs L = record {
            own = omega (arith, L.own, eq s hs);
            same = λ i hi n. eq i hi ∙ L.same i hi n;
            tree = λ i hi e n. subst (λ (x : ℕ). (x < l) × (C' x ≡ 1) × (g i x ≡ y i + z x)) (sym (eq i hi)) (L.tree i hi e n);
            injective = λ i i' hi hi' hl e. L.injective i i' hi hi' (omega (arith, eq i hi)) (sym (eq i hi) ∙ e ∙ eq i' hi');
            covers = λ j' hj' h. let o = L.covers j' hj' h in (o.0, o.1, eq o.0 o.1 ∙ o.2);
          }

          older : (s : ℕ) → s < k → s ≢ t → Alternative k l g y z m T C s (A s) → Alternative k l g y z m T' C' s (A' s)
          older s hs q L = carry s (A s) (λ i hi. As s i hs q hi) hs (record {
            own = L.own;
            same = λ i hi n. L.same i hi (T_not i hi n).1;
            tree = λ i hi e n.
                ⊎_elim
                (λ qt. subst (λ (x : ℕ). (A s x < l) × (C' (A s x) ≡ 1) × (g x (A s x) ≡ y x + z (A s x))) (sym qt)
                (subst (λ (x : ℕ). (x < l) × (C' x ≡ 1) × (g t x ≡ y t + z x)) (sym (L.same t ht t_out ∙ mt)) (hj, PC.here, subst (λ (x : ℕ). g t x ≡ y t + z x) mt (G.tight t ht (omega arith)))))
                (λ qt. let o = L.tree i hi (sym (PT.other i hi qt) ∙ e) n in (o.0, C_up (A s i) o.0 o.1, o.2))
                (same? i t);
            injective = L.injective;
            covers = L.covers;
          })

          a₂_other : (i : ℕ) → i < k → i ≢ t → i ≢ F j → a₂ i ≡ A (F j) i
          a₂_other i hi n n' = P₂.other i hi n ∙ P₁.other i hi n'

          p≢t : F j ≡ t → ⊥
          p≢t q = t_out (ap T (sym q) ∙ p_in)

          a₂_p : a₂ (F j) ≡ j
          a₂_p = P₂.other (F j) p<k p≢t ∙ P₁.here

          a₂_new : (i : ℕ) → i < k → i ≢ t → i ≢ F j → a₂ i ≡ j → ⊥
          a₂_new i hi n n' e = n (G.injective i t hi ht (omega (arith, w)) (w ∙ sym mt))
            where
              w : m i ≡ j
              w = (who i hi (sym (a₂_other i hi n n') ∙ e)).1

          newer : Alternative k l g y z m T' C' t (A' t)
          newer = carry t a₂ At ht (record {
            own = omega (arith, P₂.here);
            same = λ i hi n. let o = T_not i hi n in a₂_other i hi o.0 (λ q. o.1 (ap T q ∙ p_in)) ∙ p_alt.same i hi o.1;
            tree = λ i hi e n.
                ⊎_elim
                (λ q. subst (λ (x : ℕ). (a₂ x < l) × (C' (a₂ x) ≡ 1) × (g x (a₂ x) ≡ y x + z (a₂ x))) (sym q)
                (subst (λ (x : ℕ). (x < l) × (C' x ≡ 1) × (g (F j) x ≡ y (F j) + z x)) (sym a₂_p) (hj, PC.here, p_tight)))
                (λ q. let o = p_alt.tree i hi (sym (PT.other i hi n) ∙ e) q in
                subst (λ (x : ℕ). (x < l) × (C' x ≡ 1) × (g i x ≡ y i + z x)) (sym (a₂_other i hi n q)) (o.0, C_up (A (F j) i) o.0 o.1, o.2))
                (same? i (F j));
            injective = λ i i' hi hi' hl e.
                ⊎_elim
                (λ q. absurd (omega (arith, ap a₂ q, P₂.here)))
                (λ n. ⊎_elim
                (λ q. absurd (omega (arith, ap a₂ q, P₂.here)))
                (λ n'. ⊎_elim
                (λ q. ⊎_elim (λ q'. q ∙ sym q') (λ o'. absurd (a₂_new i' hi' n' o' (sym e ∙ ap a₂ q ∙ a₂_p))) (same? i' (F j)))
                (λ o. ⊎_elim (λ q'. absurd (a₂_new i hi n o (e ∙ ap a₂ q' ∙ a₂_p))) (λ o'. p_alt.injective i i' hi hi' (omega (arith, a₂_other i hi n o)) (sym (a₂_other i hi n o) ∙ e ∙ a₂_other i' hi' n' o')) (same? i' (F j)))
                (same? i (F j)))
                (same? i' t))
                (same? i t);
            covers = λ j' hj' h. cover j' hj' (p_alt.covers j' hj' h);
          })
            where
              cover : (j' : ℕ) → j' < l → Has k (A (F j)) j' → Has k a₂ j'
              cover j' hj' h =
                  ⊎_elim
                  (λ q. (F j, p<k, a₂_p ∙ sym mt ∙ sym (p_alt.same t ht t_out) ∙ ap (A (F j)) (sym q) ∙ h.2))
                  (λ n. (h.0, h.1, a₂_other h.0 h.1 n (λ q. omega (arith, p_alt.own, ap (A (F j)) q, h.2)) ∙ h.2))
                  (same? h.0 t)

-- the tree of row r alone
pub start_tree : {k l r : ℕ} {g : ℕ → ℕ → ℕ} {f : ℕ → Bool} {y z m T C S F : ℕ → ℕ} {A : ℕ → ℕ → ℕ} → r < k → f r ≡ false → State k l g f y z m → y r ≤ gain_limit → T r ≡ 1 → ((i : ℕ) → i < k → (i ≡ r → ⊥) → T i ≡ 1 → ⊥) → ((j : ℕ) → j < l → C j ≡ 1 → ⊥) → ((j : ℕ) → j < l → S j + g r j ≡ y r + z j) → ((j : ℕ) → j < l → F j ≡ r) → ((i : ℕ) → i < k → A r i ≡ m i) → Tree k l g r y z m T C S F A
start_tree {k} {l} {r} {g} {f} {y} {z} {m} {T} {C} {S} {F} {A} hr wait G lim Tr Tn Cn Sr Fr Ar = record {
  root = Tr;
  cover = λ j hj. omega (arith, Sr j hj);
  limit = lim;
  rows = λ i hi e n. absurd (Tn i hi n e);
  back = λ i hi hl e. absurd (Cn (m i) hl e);
  columns = λ j hj e. absurd (Cn j hj e);
  slack = λ i j hi hj e _. subst (λ (x : ℕ). S j + g x j ≤ y x + z j) (sym (is_r i hi e)) (omega (arith, Sr j hj));
  from = λ j hj _. subst (λ (x : ℕ). (x < k) × (T x ≡ 1) × (S j + g x j ≡ y x + z j)) (sym (Fr j hj)) (hr, Tr, Sr j hj);
  alt = λ t ht e. subst (λ (x : ℕ). Alternative k l g y z m T C x (A x)) (sym (is_r t ht e)) own;
}
  where
    is_r : (i : ℕ) → i < k → T i ≡ 1 → i ≡ r
    is_r i hi e = ⊎_elim (λ q. q) (λ n. absurd (Tn i hi n e)) (same? i r)

    own : Alternative k l g y z m T C r (A r)
    own = record {
      own = omega (arith, G.pending r hr wait, Ar r hr);
      same = λ i hi _. Ar i hi;
      tree = λ i hi e n. absurd (Tn i hi n e);
      injective = λ i j hi hj hl e. G.injective i j hi hj (omega (arith, Ar i hi)) (sym (Ar i hi) ∙ e ∙ Ar j hj);
      covers = λ j hj h. (h.0, h.1, Ar h.0 h.1 ∙ h.2);
    }
