-- The steps of a tally: one pair more, one row more. Assumes nothing.
use Rattle.std.specs.Prelude.{◌≡◌, List, length, replicate, take, ℤ}
use Rattle.std.specs.List.{sum_by}
use Rattle.std.proofs.lemmas.List.Sums.{sum_by_more}
use Rattle.std.proofs.Math.Path.{refl, ap}
use Rattle.std.proofs.Common.{sym, ◌∙◌, subst, add-one, div-add-mod'}
use Prim.Native.Nat.{ℕ, zero, suc, ◌+◌, ◌*◌, ◌/◌, ◌%◌, ◌≤◌, ◌<◌}
use native.Mathlib.Omega.{arith}
use Rattle.std.proofs.Math.Nat.{mul-le-mul}
use Rattle.std.proofs.Math.Arith.{digits_div, digits_mod}
use Rattle.foundations.specs.Sums.{sum}
use Rattle.model.specs.Limits.{degree_limit, pair_limit}
use Rattle.model.specs.Tree.{count}
use Rattle.model.specs.Graph.{neighbours}
use Rattle.model.specs.Order.{offset, width, subproblems}
use Rattle.trees.specs.Positions.{offset_up}
use Rattle.model.specs.Jobs.{start_item}
use Rattle.trees.specs.Accepted.{Sound}
use Rattle.formats.specs.Inputs.{input_sound}
use Rattle.job_items.specs.Items.{start_passed}
use Rattle.plan.specs.Plan.{offset_in, order_in, Ready, Lent, Planned}
use Rattle.plan.specs.Numbers.{Located, ready_sound, width_some, offset_width, offsets_are}
use Rattle.plan.specs.Pairs.{children_few, degree_few}
use Rattle.assignment.specs.Loops.{far}
use Rattle.assignment.specs.Matching.{at}
use Rattle.assignment.specs.Counts.{searches, Searches, added, none_countable}
use Rattle.solver.specs.FillLaws.{RowRun, PairRun, row_run, pair_run}
use Rattle.solver.specs.Bound.{pair_most, search_most}
use Rattle.searches.specs.declared.pairs.Tally.{Tally}
use Rattle.searches.specs.Bounds.{bound_to, most_whole, bound_next, bound_few}
use Rattle.searches.specs.Calls.{PairCounts, Tallied}

-- ---- where no item of a start applies

module _ (table r f : List ℕ) (work : List ℤ) {item : ℕ} (e : item ≡ start_item table r f work) (none : item ≡ 0) where
  pub zero_item : start_item table r f work ≡ 0
  zero_item = sym e ∙ none

  pub sound_trees : Sound r × Sound f
  sound_trees = input_sound table r f (start_passed table r f work zero_item).0

  pub lent_work : Lent r f work
  lent_work = record { enough = (start_passed table r f work zero_item).1 }

  pub ready_plan : {plan : List (List ℕ)} → Planned r f plan → Ready table r f plan
  ready_plan P = record { passes = (start_passed table r f work zero_item).0; planned = P }

-- ---- the looks of a pair

pub sum_taken : (n : ℕ) (xs : List ℕ) → n ≤ length xs → sum_by (λ x. x) (take n xs) ≡ sum n (at xs)
unfolding sum
sum_taken zero xs h = refl
sum_taken (suc n) xs h = rw (← sum_taken n xs (omega arith)) (rw add-one at (sum_by_more (λ x. x) xs n 0 h))

-- nothing yet
pub tally_none : (r f : List ℕ) {t : Tally} → t.item ≡ 0 → t.searches ≡ 0 → t.most ≡ 0 → t.looks ≡ 0 → t.reached ≡ 0 → t.greatest ≡ 0 → Tallied r f 0 t
unfolding bound_to sum
tally_none r f i s m l c g = record { passed = i; few = omega arith; bound = m; looked = omega arith; full = omega arith; low = omega arith }

module _ {table r f : List ℕ} {plan : List (List ℕ)} (N : Ready table r f plan) where
  -- ---- which subproblems a row and a pair have

  pub whole_row : (i base : ℕ) → i < count r → base ≡ i * width f → RowRun r f (order_in plan i) 0 base (width f)
  unfolding subproblems
  whole_row i base h e =
      let w = width_some N in
      let s : base ≡ i * width f + 0 = omega arith in
      let d : base / width f ≡ i = ap (λ (x : ℕ). x / width f) s ∙ digits_div i w in
      let m : base % width f ≡ 0 = ap (λ (x : ℕ). x % width f) s ∙ digits_mod i w in
      let k : (i + 1) * width f ≤ count r * width f = mul-le-mul (let g : i + 1 ≤ count r = omega arith in g) (let g : width f ≤ width f = omega arith in g) in
      rw (d, m) at (row_run N base (width f) (omega arith) w (omega arith))

  pub whole_pair : {u base : ℕ} → RowRun r f u 0 base (width f) → (v o : ℕ) → v < count f → o ≡ offset_in plan v → PairRun r f u v 0 (base + o) (length (neighbours f v) + 1)
  unfolding offset
  whole_pair {u} {base} R v o h e =
      let up = offset_up f v (count f) h in
      let all = offset_width (ready_sound N) in
      let d = (N.planned.found v h).degree in
      let b = offsets_are N v h in
      let L : Located (offset_in plan) (count f) (0 + o) v = record {
        low = h;
        from = λ z. omega arith;
        upto = λ z.
            let b1 : offset_in plan (v + 1) ≡ offset f (v + 1) = offsets_are N (v + 1) z in
            let one : offset f (v + 1) ≡ offset f v + suc (length (neighbours f v)) = rw (add-one v) in
            omega arith;
      } in
      pair_run N R o (omega arith) refl L (omega arith) (omega arith) (omega arith)

  -- ---- a pair's counts

  module _ {u v from : ℕ} (P : PairRun r f u v 0 from (length (neighbours f v) + 1)) where
    pub pair_counts : (counts : List ℕ) → Searches (search_most r f from (length (neighbours f v) + 1)) (replicate (pair_limit + 1) 0) counts → (searches counts ≤ pair_most r f u v) × PairCounts counts
    pair_counts counts S =
        let Z = none_countable far (omega arith) in
        let A = added S in
        let few : searches counts ≤ pair_most r f u v = omega (arith, A.few, Z.limit, most_whole N P) in (
          few,
          record {
            each = λ p h.
                let d : p / degree_limit * degree_limit + p % degree_limit ≡ p = div-add-mod' p degree_limit in
                let a : p / degree_limit < degree_limit = omega arith in
                let b : p % degree_limit < degree_limit = omega arith in
                subst (λ (x : ℕ). at counts x ≤ searches counts) d (omega (arith, A.once (p / degree_limit) (p % degree_limit) a b, Z.each (p / degree_limit) (p % degree_limit) a b, Z.limit));
            low = omega (arith, few, children_few N P.pair, degree_few N P.pair);
          },
        )

    -- ---- one pair more

    module _ {t : Tally} (T : Tallied r f from t) {s m x : ℕ} (few : s ≤ pair_most r f u v) (all : m ≡ pair_most r f u v) (looked : x ≤ pair_limit * s) where
      pub tally_room : (t.searches + s ≤ far) × (t.most + m ≤ far) × (t.looks + x ≤ far) × (t.reached ≤ t.searches)
      tally_room =
          let b = bound_few N P in
          let c = T.few in
          let d = T.bound in
          let e = T.looked in
          (omega arith, omega arith, omega arith, T.full)

      pub tally_next : {t' : Tally} → t'.item ≡ t.item → t'.searches ≡ t.searches + s → t'.most ≡ t.most + m → t'.looks ≡ t.looks + x → t'.reached ≤ t'.searches → ((n : ℕ) → t.greatest ≤ n → s ≤ n → t'.greatest ≤ n) → Tallied r f (from + (length (neighbours f v) + 1)) t'
      tally_next a b c d e g = record {
        passed = a ∙ T.passed;
        few = omega (arith, T.few);
        bound = c ∙ omega (arith, T.bound, bound_next N P);
        looked = omega (arith, T.looked);
        full = e;
        low = g (2 * degree_limit) T.low (omega (arith, children_few N P.pair, degree_few N P.pair));
      }
