-- Work numbers written one after the other, and what those of a pair of vertices are. Assumes nothing.
use Rattle.std.specs.Prelude.{◌≡◌, refl, ◌≢◌, true, cond, List, [], ℕ, zero, suc, ◌+◌, ◌≤◌, ◌<◌, ◌^◌, length, set, eqb, ℤ}
use Rattle.std.proofs.Common.{sym, ap, ◌∙◌, ⊎_elim, arith, add-one, length-set, set-set, eq-eqb, ne_eqb}
use Rattle.std.proofs.lemmas.List.{set_comm}
use Rattle.std.proofs.lemmas.List.Edits.{paste_none, fill_from_more}
use Rattle.std.proofs.Math.ListN.{replicate}
use Rattle.std.proofs.Math.Seq.{paste}
use Rattle.foundations.specs.Tests.{same?}
use Rattle.model.specs.Weights.{in_range, stored}
use Rattle.model.specs.Values.{solve, fill}
use Rattle.assignment.specs.Matching.{at, out_of}
use Rattle.assignment.specs.State.{Heaviest, SingleOf, WeightsOf}
use Rattle.solver.specs.Heaviest.{Table, small_heaviest}

-- work with v 0, v 1, .. at k, k + 1, .., n of them
unfoldable pub written : List ℤ → ℕ → ℕ → (ℕ → ℤ) → List ℤ
written work k zero v = work
written work k (suc n) v = set (written work k n v) (k + n) (v n)

pub written_none : (work : List ℤ) (k : ℕ) (v : ℕ → ℤ) → work ≡ written work k 0 v
unfolding written
written_none work k v = refl

pub written_next : (work w : List ℤ) (k n : ℕ) (v : ℕ → ℤ) (x : ℤ) → w ≡ written work k n v → x ≡ v n → set w (k + n) x ≡ written work k (n + 1) v
unfolding written
written_next work w k n v x e d = rw (add-one n, e, d)

pub length_written : (work : List ℤ) (k n : ℕ) (v : ℕ → ℤ) → length (written work k n v) ≡ length work
unfolding written
length_written work k zero v = refl
length_written work k (suc n) v = length-set (written work k n v) (k + n) (v n) ∙ length_written work k n v

written_ext : (work : List ℤ) (k n : ℕ) (v w : ℕ → ℤ) → ((i : ℕ) → i < n → v i ≡ w i) → written work k n v ≡ written work k n w
unfolding written
written_ext work k zero v w h = refl
written_ext work k (suc n) v w h = rw (written_ext work k n v w (λ i l. h i (omega arith)), h n (omega arith))

-- the same number in each
pub written_same : (work : List ℤ) (k n : ℕ) (x : ℤ) → k + n ≤ length work → paste work k (replicate n x) n ≡ written work k n (λ i. x)
unfolding written
written_same work k zero x h = sym (paste_none work k [])
written_same work k (suc n) x h = rw (← written_same work k n x (omega arith)) (rw add-one at (sym (fill_from_more work k n x (omega arith))))

-- one of them written over
pub written_over : (work : List ℤ) (k n j : ℕ) (v w : ℕ → ℤ) → j < n → ((i : ℕ) → i < n → i ≢ j → w i ≡ v i) → set (written work k n v) (k + j) (w j) ≡ written work k n w
unfolding written
written_over work k zero j v w h f = absurd (omega arith)
written_over work k (suc n) j v w h f = ⊎_elim
    (λ e. rw e (set-set (written work k n v) (k + n) (v n) (w n) ∙ ap (λ (l : List ℤ). set l (k + n) (w n)) (written_ext work k n v w (λ i l. sym (f i (omega arith) (λ q. omega (arith, q, e)))))))
    (λ e. set_comm (written work k n v) (k + n) (k + j) (v n) (w j) (λ q. e (omega (arith, q)))
    ∙ ap (λ (l : List ℤ). set l (k + n) (v n)) (written_over work k n j v w (omega (arith, e)) (λ i l q. f i (omega arith) q))
    ∙ ap (set (written work k n w) (k + n)) (sym (f n (omega arith) (λ q. e (sym q)))))
    (same? j n)

pub length_over : (work : List ℤ) {w : List ℤ} (k n : ℕ) (v : ℕ → ℤ) → w ≡ written work k n v → (p : ℕ) (x : ℤ) → length (set w p x) ≡ length work
length_over work {w} k n v e p x = length-set w p x ∙ ap length e ∙ length_written work k n v

-- filling, where each of them is what solving gives
pub fill_written : (table r f : List ℕ) (work : List ℤ) (k n : ℕ) (v : ℕ → ℤ) → ((i : ℕ) → i < n → v i ≡ solve table r f (fill table r f work k i) (k + i)) → written work k n v ≡ fill table r f work k n
unfolding written fill
fill_written table r f work k zero v h = refl
fill_written table r f work k (suc n) v h = rw (fill_written table r f work k n v (λ i l. h i (omega arith)), h n (omega arith))

-- a table of gains for a pair of weight w, and a run of n of its choices, from the first-th on, whose numbers stand from `from` on
pub record PairTable (k l : ℕ) (g : ℕ → ℕ → ℕ) (w : ℤ) (first from n : ℕ) (work : List ℤ) : Type 0 where
  pub table : Table k l 0 g
  pub number : in_range w ≡ true
  pub enough : from + n ≤ length work
  pub choice : (i : ℕ) → i < n → first + i ≤ l

-- their numbers: the pair's weight with that of a heaviest matching for each choice
pub record Numbers (k l : ℕ) (g : ℕ → ℕ → ℕ) (w : ℤ) (first from n : ℕ) (work work' : List ℤ) : Type 0 where
  pub total : ℕ → ℕ
  pub heaviest : (i : ℕ) → i < n → Heaviest k l (out_of (first + i) g) (total i)
  pub is : work' ≡ written work from n (λ i. stored w (total i))

pub table_at : {k l : ℕ} {g : ℕ → ℕ → ℕ} {w : ℤ} {first from n : ℕ} {work : List ℤ} → PairTable k l g w first from n work → (i : ℕ) → i < n → Table k l (first + i) g
table_at P i h = record { rows = P.table.rows; columns = P.table.columns; choice = P.choice i h; small = P.table.small }

-- from the weights of all choices
pub numbers_of : {k l : ℕ} {g : ℕ → ℕ → ℕ} {w : ℤ} {first from n : ℕ} {work work' : List ℤ} {t : List ℕ} → PairTable k l g w first from n work → WeightsOf k l g t → work' ≡ written work from n (λ i. stored w (at t (first + i))) → Numbers k l g w first from n work work'
numbers_of {first = first} {t = t} P W e = record { total = λ i. at t (first + i); heaviest = λ i h. W.each (first + i) (P.choice i h); is = e }

-- from those of one row: the same but for one choice
module _ {l out whole rest : ℕ} {g : ℕ → ℕ → ℕ} {w : ℤ} {first from n : ℕ} {work : List ℤ} (P : PairTable 1 l g w first from n work) (S : SingleOf l g out whole rest) where
  abbrev total : ℕ → ℕ
  total i = cond (eqb (first + i) out) rest whole

  same : (i : ℕ) → first + i ≢ out → stored w whole ≡ stored w (total i)
  same i q = rw (ne_eqb (first + i) out q)

  pub single_small : (whole ≤ 2 ^ 40) × (rest ≤ 2 ^ 40)
  single_small =
      let e : cond (eqb 0 out) rest whole ≡ whole = rw (ne_eqb 0 out (λ q. omega (arith, q, S.some))) in
      let h = (small_heaviest P.table (S.each 0 (omega arith))).small in
      (omega (arith, e), omega (arith, e, S.less))

  pub numbers_same : {work' : List ℤ} {x : ℤ} → x ≡ stored w whole → work' ≡ written work from n (λ i. x) → ((i : ℕ) → i < n → first + i ≢ out) → Numbers 1 l g w first from n work work'
  numbers_same {work'} {x} d e f = record {
    total = total;
    heaviest = λ i h. S.each (first + i) (P.choice i h);
    is = e ∙ written_ext work from n (λ i. x) (λ i. stored w (total i)) (λ i h. d ∙ same i (f i h));
  }

  pub numbers_but : {work₁ : List ℤ} {x y : ℤ} (j : ℕ) → x ≡ stored w whole → y ≡ stored w rest → work₁ ≡ written work from n (λ i. x) → j < n → first + j ≡ out → Numbers 1 l g w first from n work (set work₁ (from + j) y)
  numbers_but {work₁} {x} {y} j d u e h q = record {
    total = total;
    heaviest = λ i hi. S.each (first + i) (P.choice i hi);
    is =
        let here : y ≡ stored w (total j) = u ∙ rw (eq-eqb (first + j) out q) in
        rw (e, here) (written_over work from n j (λ i. x) (λ i. stored w (total i)) h (λ i hi ne. sym (d ∙ same i (λ p. ne (omega (arith, p, q))))));
  }
