-- The heaviest matching of a table of gains without one column. Assumes nothing.
use Rattle.std.specs.Prelude.{◌≡◌, List, ℕ, ◌+◌, ◌*◌, ◌≤◌, ◌<◌, ◌^◌, length, get_or, eqb, pos}
use Rattle.std.proofs.Common.{sym, ap, ◌∙◌, ⊎_elim, arith, lt-ltb, le-ltb}
use Rattle.foundations.specs.Tests.{same?, less?}
use Rattle.foundations.specs.Sums.{sum_most}
use Rattle.foundations.specs.Members.{Distinct, del}
use Rattle.model.specs.Limits.{degree_limit}
use Rattle.model.specs.Weights.{Weight, some}
use Rattle.model.specs.Values.{best}
use Rattle.integers.specs.Results.{gain_most}
use Rattle.assignment.specs.Matching.{out_of, out_yes, out_no, gained, weight}
use Rattle.assignment.specs.State.{Sized, Heaviest}
use Rattle.plan.specs.Pairs.{up_w}
use Rattle.solver.specs.Exact.{branch_gain, Gains, solved_best}

-- a table of gains and a choice
pub record Table (k l c : ℕ) (g : ℕ → ℕ → ℕ) : Type 0 where
  pub rows : k ≤ degree_limit
  pub columns : l ≤ degree_limit
  pub choice : c ≤ l
  pub small : (i j : ℕ) → i < k → j < l → g i j ≤ gain_most

-- r is the weight of the heaviest matching, and far below the matching's limit
pub record HeaviestMatching (k l c : ℕ) (g : ℕ → ℕ → ℕ) (r : ℕ) : Type 0 where
  pub heaviest : Heaviest k l (out_of c g) r
  pub small : r ≤ 2 ^ 40

-- ---- what the table stands for: rows for the children cs, columns for the neighbours A, and choice c for s

pub record Stands (k l c : ℕ) (w : ℕ → ℕ → Weight) (s : ℕ) (cs A : List ℕ) (g : ℕ → ℕ → ℕ) : Type 0 where
  pub rows : length cs ≡ k
  pub columns : length A ≡ l
  pub rows_apart : Distinct cs
  pub columns_apart : Distinct A
  pub left : (j : ℕ) → j < l → eqb (get_or A j 0) s ≡ eqb (j + 1) c
  pub gains : (i j : ℕ) → i < k → j < l → g i j ≡ up_w (w (get_or cs i 0) (get_or A j 0))

module _ {k l c : ℕ} {w : ℕ → ℕ → Weight} {s : ℕ} {cs A : List ℕ} {g : ℕ → ℕ → ℕ} (S : Stands k l c w s cs A g) where
  pub stands_gains : Gains w s cs A (out_of c g)
  unfolding out_of branch_gain
  stands_gains = record {
    is = λ i j hi hj.
        let p : i < k = omega (arith, S.rows) in
        let q : j < l = omega (arith, S.columns) in
        rw (S.left j q, S.gains i j p q);
  }

  pub heaviest_best : {r : ℕ} → HeaviestMatching k l c g r → best w cs (del s A) ≡ some (pos r)
  heaviest_best {r} H =
      let B = H.heaviest in
      solved_best w s cs A (out_of c g) B.y B.z B.m stands_gains (rw (S.rows, S.columns) B.dual) S.rows_apart S.columns_apart
      ∙ rw (S.rows, S.columns) (ap (λ (n : ℕ). some (pos n)) (sym B.total))

-- ---- how much a matching can weigh

weight_most : (k l B : ℕ) (g : ℕ → ℕ → ℕ) (m : ℕ → ℕ) → ((i j : ℕ) → i < k → j < l → g i j ≤ B) → weight k l g m ≤ k * B
unfolding weight gained
weight_most k l B g m h = sum_most k B (gained l g m) (λ i hi. ⊎_elim (λ lt. rw (lt-ltb (m i) l lt) (h i (m i) hi lt)) (λ le. rw (le-ltb (m i) l le) (omega arith)) (less? (m i) l))

pub out_small : {k l c : ℕ} {g : ℕ → ℕ → ℕ} → Table k l c g → (i j : ℕ) → i < k → j < l → out_of c g i j ≤ gain_most
out_small {k} {l} {c} {g} T i j hi hj = ⊎_elim
    (λ e. rw (out_yes c g i j e) (omega arith))
    (λ n. rw (out_no c g i j n) (T.small i j hi hj))
    (same? (j + 1) c)

pub table_sized_lem : {k l c : ℕ} {g : ℕ → ℕ → ℕ} → Table k l c g → Sized k l g
table_sized_lem T = record { rows = T.rows; columns = T.columns; gains = λ i j hi hj. let a = T.small i j hi hj in omega arith }

pub small_heaviest : {k l c w : ℕ} {g : ℕ → ℕ → ℕ} → Table k l c g → Heaviest k l (out_of c g) w → HeaviestMatching k l c g w
small_heaviest {k} {l} {c} {w} {g} T H =
    let rows : k ≤ degree_limit = T.rows in
    let b : weight k l (out_of c g) H.m ≤ k * gain_most = weight_most k l gain_most (out_of c g) H.m (λ i j hi hj. out_small T i j hi hj) in
    record { heaviest = H; small = omega (arith, H.total, H.dual.equal) }
