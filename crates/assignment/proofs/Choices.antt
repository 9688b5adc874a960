-- The weights of a table for each choice: of one row, and from the answer of all columns. Assumes nothing.
use mathlib.Core.Path.{◌≡◌, refl, sym, ap, subst, ◌∙◌}
use mathlib.Core.Logic.{⊎_elim, ◌≢◌}
use mathlib.Core.Bool.{cond}
use mathlib.Core.List.{List}
use Prim.Native.Nat.{ℕ, zero, suc, ◌+◌, ◌-◌, ◌≤◌, ◌<◌, max}
use native.Mathlib.Omega.{arith}
use native.Mathlib.Nat.{not-suc-le-zero}
use lib.Dec.{ltb, eqb}
use lib.ListN.{length, set, length-set, replicate, get_or-replicate}
use lib.Seq.{get_or-set_same, get_or-set_other}
use borrow.Author.Count.{below_more}
use borrow.Author.Tests.{eq-eqb, ne_eqb, lt-ltb, le-ltb}
use Rattle.foundations.specs.Tests.{same?, less?}
use Rattle.foundations.specs.Sums.{sum, sum_zero, sum_ext}
use Rattle.model.specs.Limits.{degree_limit}
use Rattle.assignment.specs.Matching.{at, out_of, out_yes, out_no, gained, weight}
use Rattle.assignment.specs.State.{Solved, Total, Heaviest, SingleOf, WeightsOf}
use Rattle.assignment.specs.Loops.{OwnersOf, Greatest, GreatestTwo}
use Rattle.assignment.proofs.Roots.{out_none}

-- ---- the greatest

pub greatest_none : (f : ℕ → ℕ) (b : ℕ) → Greatest 0 f b 0
greatest_none f b = record { most = λ x h. absurd (not-suc-le-zero h); found = λ h. absurd (omega arith) }

pub greatest_more : {j d : ℕ} {f : ℕ → ℕ} (x : ℕ) → (b : ℕ) × Greatest j f b d → x ≡ f j → (b : ℕ) × Greatest (j + 1) f b (max x d)
greatest_more {j} {d} {f} x (b, G) ex = ⊎_elim
    (λ h. (j, record { most = below_more (λ (i : ℕ). f i ≤ max x d) j (λ i l. omega (arith, G.most i l)) (omega arith); found = λ _. (omega arith, omega arith) }))
    (λ h. (b, record { most = below_more (λ (i : ℕ). f i ≤ max x d) j (λ i l. omega (arith, G.most i l)) (omega arith); found = λ u. let w = G.found (omega arith) in (omega (arith, w.0), omega (arith, w.1)) }))
    (less? d x)

pub greatest_end : {j l b d : ℕ} {f : ℕ → ℕ} → Greatest j f b d → l ≤ j → j ≤ l → Greatest l f b d
greatest_end {j} {l} {b} {d} {f} G p q = subst (λ (x : ℕ). Greatest x f b d) (let e : j ≡ l = omega arith in e) G

-- ---- the two greatest

-- one that is greater than all before it
pub two_first : {j b d e : ℕ} {f : ℕ → ℕ} (x : ℕ) → GreatestTwo j f b d e → x ≡ f j → d < x → GreatestTwo (j + 1) f j x d
two_first {j} {b} {d} {e} {f} x G ex h = record {
  most = below_more (λ (i : ℕ). f i ≤ x) j (λ i l. omega (arith, G.most i l)) (omega arith);
  found = λ _. (omega arith, sym ex);
  next = below_more (λ (i : ℕ). i ≢ j → f i ≤ d) j (λ i l n. G.most i l) (λ n. absurd (n refl));
  other = λ u. let w = G.found u in (b, omega (arith, w.0), (λ n. omega (arith, n, w.0)), w.1);
}

-- one that is not
pub two_rest : {j b d e : ℕ} {f : ℕ → ℕ} (x : ℕ) → GreatestTwo j f b d e → x ≡ f j → x ≤ d → GreatestTwo (j + 1) f b d (max x e)
two_rest {j} {b} {d} {e} {f} x G ex h = record {
  most = below_more (λ (i : ℕ). f i ≤ d) j G.most (omega arith);
  found = λ u. let w = G.found u in (omega (arith, w.0), w.1);
  next = below_more (λ (i : ℕ). i ≢ b → f i ≤ max x e) j (λ i l n. omega (arith, G.next i l n)) (λ n. omega arith);
  other = λ u. ⊎_elim
      (λ m. let w = G.found (omega arith) in (j, omega arith, (λ n. omega (arith, n, w.0)), omega arith))
      (λ m. let w = G.other (omega arith) in (w.0, omega (arith, w.1), w.2, omega (arith, w.3)))
      (less? e x);
}

pub two_end : {j l b d e : ℕ} {f : ℕ → ℕ} → GreatestTwo j f b d e → l ≤ j → j ≤ l → GreatestTwo l f b d e
two_end {j} {l} {b} {d} {e} {f} G p q = subst (λ (x : ℕ). GreatestTwo x f b d e) (let w : j ≡ l = omega arith in w) G

-- ---- one row

none_sum : (n : ℕ) → sum n (λ j. 0) ≡ 0
none_sum n = sum_zero n (λ j. 0) (λ j h. refl)

one_sum : (f : ℕ → ℕ) → sum 1 f ≡ f 0
unfolding sum
one_sum f = omega arith

pub row_heaviest : {l b d : ℕ} {h : ℕ → ℕ → ℕ} → Greatest l (h 0) b d → Heaviest 1 l h d
unfolding weight gained
row_heaviest {l} {b} {d} {h} G = ⊎_elim some nothing (less? 0 d)
  where
    covers : (i j : ℕ) → i < 1 → j < l → h i j ≤ d + 0
    covers i j hi hj = let e : i ≡ 0 = omega arith in rw e (omega (arith, G.most j hj))

    some : 0 < d → Heaviest 1 l h d
    some p =
        let w = G.found p in record {
          y = λ i. d;
          z = λ j. 0;
          m = λ i. b;
          dual = record {
            feasible = covers;
            injective = λ i j hi hj lt e. omega arith;
            equal = one_sum (gained l h (λ i. b)) ∙ rw (lt-ltb b l w.0) (omega (arith, w.1, one_sum (λ i. d), none_sum l));
          };
          total = omega (arith, one_sum (λ i. d), none_sum l);
        }

    nothing : d ≤ 0 → Heaviest 1 l h d
    nothing p = record {
      y = λ i. d;
      z = λ j. 0;
      m = λ i. l;
      dual = record {
        feasible = covers;
        injective = λ i j hi hj lt e. omega arith;
        equal = one_sum (gained l h (λ i. l)) ∙ rw (le-ltb l l (omega arith)) (omega (arith, one_sum (λ i. d), none_sum l));
      };
      total = omega (arith, one_sum (λ i. d), none_sum l);
    }

many : (x v : ℕ) → x ≤ degree_limit → at (replicate (degree_limit + 1) v) x ≡ v
many x v h = get_or-replicate {A = ℕ} (degree_limit + 1) x v 0 (omega arith)

-- without the column of the greatest the second greatest is left, without another the greatest
pub single_of : {l b d e : ℕ} {g : ℕ → ℕ → ℕ} → GreatestTwo l (g 0) b d e → SingleOf l g (b + 1) d e
single_of {l} {b} {d} {e} {g} G = record {
  each = λ c h. ⊎_elim
      (λ q. subst (λ (x : ℕ). Heaviest 1 l (out_of c g) x) (sym (taken c q)) (subst (λ (x : ℕ). Heaviest 1 l (out_of x g) e) (sym q) (⊎_elim some nothing (less? 0 e))))
      (λ n. subst (λ (x : ℕ). Heaviest 1 l (out_of c g) x) (sym (left c n)) (row_heaviest {b = b} (record {
        most = λ x hx. ⊎_elim (λ p. omega (arith, out_yes c g 0 x p)) (λ p. omega (arith, out_no c g 0 x p, G.most x hx)) (same? (x + 1) c);
        found = λ u. let w = G.found u in (w.0, out_no c g 0 b (λ p. n (sym p)) ∙ w.1);
      })))
      (same? c (b + 1));
  less = ⊎_elim (λ u. let w = G.other u in omega (arith, G.most w.0 w.1, w.3)) (λ u. omega arith) (less? 0 e);
  some = omega arith;
}
  where
    taken : (c : ℕ) → c ≡ b + 1 → cond (eqb c (b + 1)) e d ≡ e
    taken c q = rw (eq-eqb c (b + 1) q)

    left : (c : ℕ) → c ≢ b + 1 → cond (eqb c (b + 1)) e d ≡ d
    left c n = rw (ne_eqb c (b + 1) n)

    most : (x : ℕ) → x < l → out_of (b + 1) g 0 x ≤ e
    most x hx = ⊎_elim (λ p. omega (arith, out_yes (b + 1) g 0 x p)) (λ p. omega (arith, out_no (b + 1) g 0 x p, G.next x hx (λ q. p (ap (λ (i : ℕ). i + 1) q)))) (same? (x + 1) (b + 1))

    some : 0 < e → Heaviest 1 l (out_of (b + 1) g) e
    some u = let w = G.other u in row_heaviest {b = w.0} (record { most = most; found = λ _. (w.1, out_no (b + 1) g 0 w.0 (λ p. w.2 (omega (arith, p))) ∙ w.3) })

    nothing : e ≤ 0 → Heaviest 1 l (out_of (b + 1) g) e
    nothing u = row_heaviest {b = b} (record { most = most; found = λ p. absurd (omega arith) })

-- ---- one column

sum_single : (n a r : ℕ) → a < n → sum n (λ i. cond (eqb i a) r 0) ≡ r
unfolding sum
sum_single zero a r h = absurd (not-suc-le-zero h)
sum_single (suc n) a r h = ⊎_elim
    (λ e. rw (eq-eqb n a (sym e)) (let z : sum n (λ i. cond (eqb i a) r 0) ≡ 0 = sum_zero n (λ i. cond (eqb i a) r 0) (λ i l. let q : i ≢ a = λ p. omega (arith, p) in rw (ne_eqb i a q)) in omega arith))
    (λ e. rw (ne_eqb n a (λ q. e (sym q))) (let z = sum_single n a r (omega arith) in omega arith))
    (same? a n)

-- no pair gains
pub none_heaviest : {k l : ℕ} {h : ℕ → ℕ → ℕ} → ((i j : ℕ) → i < k → j < l → h i j ≡ 0) → Heaviest k l h 0
unfolding weight gained
none_heaviest {k} {l} {h} z = record {
  y = λ i. 0;
  z = λ j. 0;
  m = λ i. l;
  dual = record {
    feasible = λ i j hi hj. omega (arith, z i j hi hj);
    injective = λ i j hi hj lt e. absurd (omega arith);
    equal = sum_zero k (gained l h (λ i. l)) (λ i hi. rw (le-ltb l l (omega arith))) ∙ (omega (arith, none_sum k, none_sum l));
  };
  total = omega (arith, none_sum k, none_sum l);
}

column_heaviest : {k b d : ℕ} {h : ℕ → ℕ → ℕ} → Greatest k (λ i. h i 0) b d → Heaviest k 1 h d
unfolding weight gained
column_heaviest {k} {b} {d} {h} G = ⊎_elim some nothing (less? 0 d)
  where
    covers : (i j : ℕ) → i < k → j < 1 → h i j ≤ 0 + d
    covers i j hi hj = let e : j ≡ 0 = omega arith in rw e (omega (arith, G.most i hi))

    m : ℕ → ℕ
    m i = cond (eqb i b) 0 1

    mine : (i : ℕ) → m i < 1 → i ≡ b
    mine i lt = ⊎_elim (λ q. q) (λ q. let x : 1 < 1 = rw (ne_eqb i b q) at lt in absurd (omega arith)) (same? i b)

    row : 0 < d → (i : ℕ) → i < k → gained 1 h m i ≡ cond (eqb i b) d 0
    row p i hi = ⊎_elim
        (λ q. rw (eq-eqb i b q) (ap (λ (x : ℕ). h x 0) q ∙ (G.found p).1))
        (λ q. rw (ne_eqb i b q))
        (same? i b)

    some : 0 < d → Heaviest k 1 h d
    some p = record {
      y = λ i. 0;
      z = λ j. d;
      m = m;
      dual = record {
        feasible = covers;
        injective = λ i j hi hj lt e. let a = mine i lt in let c = mine j (omega arith) in omega arith;
        equal = sum_ext k (gained 1 h m) (λ i. cond (eqb i b) d 0) (row p) ∙ sum_single k b d (G.found p).0 ∙ (omega (arith, none_sum k, one_sum (λ j. d)));
      };
      total = omega (arith, none_sum k, one_sum (λ j. d));
    }

    nothing : d ≤ 0 → Heaviest k 1 h d
    nothing p = let z : d ≡ 0 = omega arith in rw z (none_heaviest (λ i j hi hj. let c = covers i j hi hj in omega arith))

pub column_weights_of : {k b d : ℕ} {g : ℕ → ℕ → ℕ} → Greatest k (λ i. g i 0) b d → WeightsOf k 1 g (set (replicate (degree_limit + 1) 0) 0 d)
column_weights_of {k} {b} {d} {g} G = record {
  size = length-set (replicate (degree_limit + 1) 0) 0 d;
  each = λ c h. ⊎_elim
      (λ e. subst (λ (x : ℕ). Heaviest k 1 (out_of x g) (at (set (replicate (degree_limit + 1) 0) 0 d) x)) (sym e)
      (subst (λ (x : ℕ). Heaviest k 1 (out_of 0 g) x) (sym (get_or-set_same (replicate (degree_limit + 1) 0) 0 d 0 (omega arith))) (column_heaviest {b = b} whole)))
      (λ n. subst (λ (x : ℕ). Heaviest k 1 (out_of c g) x) (sym (get_or-set_other (replicate (degree_limit + 1) 0) 0 c d 0 n ∙ many c 0 (omega arith)))
      (none_heaviest (λ i j hi hj. out_yes c g i j (omega (arith, n)))))
      (same? c 0);
}
  where
    whole : Greatest k (λ i. out_of 0 g i 0) b d
    whole = record { most = λ x h. omega (arith, out_none g x 0, G.most x h); found = λ h. let w = G.found h in (w.0, out_none g b 0 ∙ w.1) }

-- ---- any number of rows

-- nothing is left out
pub all_heaviest : {k l : ℕ} {g : ℕ → ℕ → ℕ} {y z m : ℕ → ℕ} {r : ℕ} → Solved k l g y z m → Total k l y z r → Heaviest k l (out_of 0 g) r
unfolding weight gained
all_heaviest {k} {l} {g} {y} {z} {m} S N = record {
  y = y;
  z = z;
  m = m;
  dual = record {
    feasible = λ i j hi hj. omega (arith, out_none g i j, S.feasible i j hi hj);
    injective = S.injective;
    equal = sum_ext k (gained l (out_of 0 g) m) (gained l g m) (λ i hi. ap (λ (x : ℕ). cond (ltb (m i) l) x 0) (out_none g i (m i))) ∙ S.equal;
  };
  total = N.equal;
}

-- the row of column c, as its choice c + 1 names it
pub owner_at : {k r : ℕ} {m own : List ℕ} → OwnersOf k m own → (c : ℕ) → r ≡ at own c → at own (c + 1 - 1) ≡ r
owner_at {own = own} O c e = ap (at own) (let w : c + 1 - 1 ≡ c = omega arith in w) ∙ sym e

-- the weights of the choices up to c are there, and those after it are that of all
pub record Filled (k l : ℕ) (g : ℕ → ℕ → ℕ) (all c : ℕ) (t : List ℕ) : Type 0 where
  pub size : length t ≡ degree_limit + 1
  pub done : (x : ℕ) → x ≤ c → Heaviest k l (out_of x g) (at t x)
  pub rest : (x : ℕ) → c < x → x ≤ l → at t x ≡ all

pub filled_start : {k l : ℕ} {g : ℕ → ℕ → ℕ} {all : ℕ} → l ≤ degree_limit → Heaviest k l (out_of 0 g) all → Filled k l g all 0 (replicate (degree_limit + 1) all)
filled_start {k} {l} {g} {all} few H = record {
  size = refl;
  done = λ x h. let e : x ≡ 0 = omega arith in rw e H;
  rest = λ x p h. many x all (omega arith);
}

pub filled_stays : {k l c : ℕ} {g : ℕ → ℕ → ℕ} {all : ℕ} {t : List ℕ} → Filled k l g all c t → c < l → Heaviest k l (out_of (c + 1) g) all → Filled k l g all (c + 1) t
filled_stays {k} {l} {c} {g} {all} {t} F h H = record {
  size = F.size;
  done = λ x p. ⊎_elim
      (λ e. subst (λ (i : ℕ). Heaviest k l (out_of i g) (at t i)) (sym e) (subst (λ (w : ℕ). Heaviest k l (out_of (c + 1) g) w) (sym (F.rest (c + 1) (omega arith) (omega arith))) H))
      (λ n. F.done x (omega (arith, n)))
      (same? x (c + 1));
  rest = λ x p q. F.rest x (omega arith) q;
}

pub filled_set : {k l c : ℕ} {g : ℕ → ℕ → ℕ} {all : ℕ} {t : List ℕ} (w : ℕ) → l ≤ degree_limit → Filled k l g all c t → c < l → Heaviest k l (out_of (c + 1) g) w → Filled k l g all (c + 1) (set t (c + 1) w)
filled_set {k} {l} {c} {g} {all} {t} w few F h H = record {
  size = length-set t (c + 1) w ∙ F.size;
  done = λ x p. ⊎_elim
      (λ e. subst (λ (i : ℕ). Heaviest k l (out_of i g) (at (set t (c + 1) w) i)) (sym e) (subst (λ (v : ℕ). Heaviest k l (out_of (c + 1) g) v) (sym (get_or-set_same t (c + 1) w 0 (omega (arith, F.size)))) H))
      (λ n. subst (λ (v : ℕ). Heaviest k l (out_of x g) v) (sym (get_or-set_other t (c + 1) x w 0 n)) (F.done x (omega (arith, n))))
      (same? x (c + 1));
  rest = λ x p q. get_or-set_other t (c + 1) x w 0 (λ e. omega (arith, e)) ∙ F.rest x (omega arith) q;
}

pub filled_end : {k l c : ℕ} {g : ℕ → ℕ → ℕ} {all : ℕ} {t : List ℕ} → Filled k l g all c t → l ≤ c → WeightsOf k l g t
filled_end F h = record { size = F.size; each = λ c p. F.done c (omega arith) }
