-- Where the record of a subproblem begins, from the row of its recorded vertex, its found vertex and its choice. Assumes nothing.
use Rattle.std.specs.Prelude.{◌≡◌, List, get_or}
use Rattle.std.proofs.Math.Path.{refl, ap}
use Rattle.std.proofs.Common.{◌∙◌, subst, ⊎_elim, add-one}
use Prim.Native.Nat.{ℕ, zero, suc, ◌+◌, ◌*◌, ◌-◌, ◌≤◌, ◌<◌}
use native.Mathlib.Omega.{arith}
use Rattle.std.proofs.Math.Nat.{mul-le-mul}
use Rattle.std.proofs.Math.ListN.{length}
use Rattle.foundations.specs.Tests.{same?}
use Rattle.foundations.specs.Sums.{sum, sum_ext, sum_add, sum_append, sum_first, sum_const, sum_times}
use Rattle.foundations.specs.Members.{get_d_mem, del_out, length_del}
use Rattle.model.specs.Calls.{input_item}
use Rattle.model.specs.Certificate.{squares, certificate_length, others, record_length, record_at}
use Rattle.model.specs.Graph.{neighbours}
use Rattle.model.specs.Lengths.{subproblem_length}
use Rattle.model.specs.Limits.{square_limit, certificate_limit}
use Rattle.model.specs.Order.{children, postorder, choices, width, subproblems, offset}
use Rattle.model.specs.Tree.{count}
use Rattle.trees.specs.Accepted.{Passed}
use Rattle.trees.specs.Neighbours.{once_neighbours, few_neighbours}
use Rattle.trees.specs.Positions.{offset_all, offset_up}
use Rattle.trees.specs.Rooted.{no_self}
use Rattle.formats.specs.Inputs.{input_accepted}
use Rattle.subtrees.specs.Accepted.{recorded_tree, found_tree}
use Rattle.subtrees.specs.Trees.{IsTree}
use Rattle.certificate.specs.Length.{record_sum, record_row, row_sum, squares_most, length_closed, record_inside, length_most}

-- the neighbours other than s, summed over the first q choices of s for a vertex of degree d: all d for the first, one fewer for each other
unfoldable pub others_before : ℕ → ℕ → ℕ
others_before d zero = 0
others_before d (suc q) = d + q * (d - 1)

pub before_none : (d q : ℕ) → q ≡ 0 → others_before d q ≡ 0
unfolding others_before
before_none d q e = rw e

pub before_some : (d q : ℕ) → (q ≡ 0 → ⊥) → others_before d q ≡ d + (q - 1) * (d - 1)
unfolding others_before
before_some d zero n = absurd (n refl)
before_some d (suc q) n = let e : suc q - 1 ≡ q = omega arith in rw e

-- the bytes of a record of the i-th vertex in postorder, but those for v's neighbours
unfoldable pub row_size : List ℕ → ℕ → ℕ
row_size r i = subproblem_length (length (children r (get_or (postorder r) i 0))) 0

record_from : (r f : List ℕ) (a j : ℕ) → record_at r f (a + j) ≡ record_at r f a + sum j (λ t. record_length r f (a + t))
record_from r f a j =
    let x = record_sum r f (a + j) in
    let y = record_sum r f a in
    let z = sum_append a j (record_length r f) in
    omega arith

module _ (s : List ℕ) (t : IsTree s) where
  others_before_lem : (v : ℕ) → v < count s → (q : ℕ) → q ≤ length (neighbours s v) → sum q (λ j. length (others s v (get_or (choices s v) j 0))) ≡ others_before (length (neighbours s v)) q
  unfolding others_before
  others_before_lem v l zero h = unfold sum in refl
  others_before_lem v l (suc q) h =
      sum_first q (λ j. length (others s v (get_or (choices s v) j 0)))
      ∙ ap (λ (y : ℕ). y + sum q (λ i. length (others s v (get_or (neighbours s v) i 0)))) (ap length (del_out v (neighbours s v) (no_self s t.ends t.loopless v l)))
      ∙ ap (λ (y : ℕ). length (neighbours s v) + y)
      (sum_ext q (λ i. length (others s v (get_or (neighbours s v) i 0))) (λ i. length (neighbours s v) - 1)
      (λ i g. let e = length_del (get_or (neighbours s v) i 0) (neighbours s v) (once_neighbours s v) (get_d_mem (neighbours s v) i (omega arith)) in omega arith)
      ∙ sum_const q (length (neighbours s v) - 1))

module _ (r f : List ℕ) (tr : IsTree r) (tf : IsTree f) where
  place_tree : (i v q : ℕ) → i < count r → v < count f → q ≤ length (neighbours f v) →
      record_at r f (i * width f + (offset f v + q)) ≡ record_at r f (i * width f) + ((offset f v + q) * row_size r i + 4 * (squares f v + others_before (length (neighbours f v)) q))
  unfolding row_size
  place_tree i v q li lv lq =
      let F : ℕ → ℕ = λ j. record_length r f (i * width f + j) in
      let c = subproblem_length (length (children r (get_or (postorder r) i 0))) 0 in
      let o : ℕ → ℕ = λ j. length (others f v (get_or (choices f v) j 0)) in
      let rest : sum q (λ j. F (offset f v + j)) ≡ q * c + 4 * others_before (length (neighbours f v)) q
      = sum_ext q (λ j. F (offset f v + j)) (λ j. c + 4 * o j) (λ j lj. record_row r f tr tf i v j li lv (omega arith))
      ∙ sum_add q (λ j. c) (λ j. 4 * o j)
      ∙ ap (λ (x : ℕ). x + sum q (λ j. 4 * o j)) (sum_const q c)
      ∙ ap (λ (x : ℕ). q * c + x) (sum_times q 4 o ∙ ap (λ (x : ℕ). 4 * x) (others_before_lem f tf v lv q lq)) in
      record_from r f (i * width f) (offset f v + q)
      ∙ ap (λ (x : ℕ). record_at r f (i * width f) + x) (sum_append (offset f v) q F ∙ join (offset f v) q c (squares f v) (others_before (length (neighbours f v)) q) (row_sum r f tr tf i li v (omega arith)) rest)
    where
      join : (a q c s b : ℕ) {x y : ℕ} → x ≡ a * c + 4 * s → y ≡ q * c + 4 * b → x + y ≡ (a + q) * c + 4 * (s + b)
      join a q c s b e g = omega arith

  step_tree : (i : ℕ) → i < count r → record_at r f ((i + 1) * width f) ≡ record_at r f (i * width f) + (width f * row_size r i + 4 * squares f (count f))
  unfolding row_size
  step_tree i li =
      ap (record_at r f) (next i (width f))
      ∙ record_from r f (i * width f) (width f)
      ∙ ap (λ (x : ℕ). record_at r f (i * width f) + x)
      (subst (λ (x : ℕ). sum x (λ j. record_length r f (i * width f + j)) ≡ x * subproblem_length (length (children r (get_or (postorder r) i 0))) 0 + 4 * squares f (count f)) (offset_all f tf.ends tf.loopless) (row_sum r f tr tf i li (count f) (omega arith)))
    where
      next : (i w : ℕ) → (i + 1) * w ≡ i * w + w
      next i w = omega arith

squares_up : (f : List ℕ) (v n : ℕ) → v ≤ n → squares f v ≤ squares f n
unfolding squares
squares_up f v zero h = let e : v ≡ 0 = omega arith in rw e (omega arith)
squares_up f v (suc n) h = ⊎_elim (λ e. rw e (omega arith)) (λ q. let p = squares_up f v n (omega arith) in omega arith) (same? v (suc n))

pub squares_few : (f : List ℕ) (K L : ℕ) → Passed f K L → (v : ℕ) → v ≤ count f → squares f v ≤ square_limit
squares_few f K L p v h =
    let a = squares_up f v (count f) h in
    let b = squares_most f (record { ends = p.ends; loopless = p.tree }) (λ v l. few_neighbours f K L p v l) in
    omega arith

-- of no vertex, and of one more, of degree d
pub squares_first : (f : List ℕ) → 0 ≡ squares f 0
unfolding squares
squares_first f = refl

pub squares_add : (f : List ℕ) (K L : ℕ) → Passed f K L → (v d sum : ℕ) → v < count f → d ≡ length (neighbours f v) → sum ≡ squares f v → (sum + d * d ≡ squares f (v + 1)) × (squares f (v + 1) ≤ square_limit)
unfolding squares
squares_add f K L p v d sum l e g = (rw (add-one v, e, g), squares_few f K L p (v + 1) (omega arith))

-- ---- for inputs that items 1 to 12, 25 and 26 let pass

module _ (table r f : List ℕ) (e : input_item table r f ≡ 0) where
  pub record_place : (i v q : ℕ) → i < count r → v < count f → q ≤ length (neighbours f v) →
      record_at r f (i * width f + (offset f v + q)) ≡ record_at r f (i * width f) + ((offset f v + q) * row_size r i + 4 * (squares f v + others_before (length (neighbours f v)) q))
  record_place = let A = input_accepted table r f e in place_tree r f (recorded_tree A) (found_tree A)

  pub row_step : (i : ℕ) → i < count r → record_at r f ((i + 1) * width f) ≡ record_at r f (i * width f) + (width f * row_size r i + 4 * squares f (count f))
  row_step = let A = input_accepted table r f e in step_tree r f (recorded_tree A) (found_tree A)

  pub rows_end : record_at r f (count r * width f) ≡ certificate_length r f
  unfolding subproblems
  rows_end = length_closed table r f e

  -- a record begins within the length, with its mark and value
  pub record_begins : (k : ℕ) → k < subproblems r f → record_at r f k + 6 ≤ certificate_limit
  unfolding record_length
  record_begins k l = let a = record_inside table r f e k l in let b = length_most table r f e in omega arith

  pub place_in : (i v q : ℕ) → i < count r → v < count f → q ≤ length (neighbours f v) → i * width f + (offset f v + q) < subproblems r f
  unfolding subproblems
  place_in i v q li lv lq =
      let A = input_accepted table r f e in
      let a = offset_up f v (count f) lv in
      let b = offset_all f A.found.ends A.found.tree in
      let c : (i + 1) * width f ≤ count r * width f = mul-le-mul {n₁ = i + 1} (omega arith) (omega arith) in
      let d = next i (width f) in
      omega arith
    where
      next : (i w : ℕ) → (i + 1) * w ≡ i * w + w
      next i w = omega arith

  pub row_begins : (i : ℕ) → i ≤ count r → record_at r f (i * width f) ≤ certificate_limit
  row_begins i l = ⊎_elim
      (λ q. let a = rows_end in let b = length_most table r f e in rw q (omega arith))
      (λ q. let A = input_accepted table r f e in
      let o : 0 < count f = A.found.ends.some in
      let a = record_place i 0 0 (omega arith) o (omega arith) in
      let b = record_begins (i * width f + (offset f 0 + 0)) (place_in i 0 0 (omega arith) o (omega arith)) in
      omega arith)
      (same? i (count r))
