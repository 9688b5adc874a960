-- From the assignment's answer for the gains of a pair of vertices to duals of its subproblems. Assumes nothing.
use Rattle.std.specs.Prelude.{◌≡◌, refl, ◌≢◌, Bool, true, false, List, ℕ, zero, suc, ◌+◌, ◌*◌, ◌≤◌, ◌<◌, get_or, replicate, ℤ, pos}
use Rattle.std.proofs.Common.{sym, ◌∙◌, subst, true≢false, arith, eq-eqb, ne_eqb}
use Rattle.std.proofs.Math.Path.{ap}
use Rattle.std.proofs.Math.Logic.{⊎_elim}
use Rattle.std.proofs.Math.ListN.{length}
use Rattle.foundations.specs.Int.{ints, canon}
use Rattle.foundations.specs.Members.{del}
use Rattle.model.specs.Limits.{degree_limit, pair_limit}
use Rattle.model.specs.Weights.{Weight, none, some, plus_w, is_forbidden}
use Rattle.model.specs.Graph.{neighbours}
use Rattle.model.specs.Order.{children, choices}
use Rattle.model.specs.Pairs.{vertex_pair}
use Rattle.model.specs.Values.{best, branch, value_from, recalled}
use Rattle.model.specs.Certificate.{at_most}
use Rattle.subtrees.specs.WeightLaws.{none≢some}
use Rattle.integers.specs.Results.{gain_most}
use Rattle.assignment.specs.Matching.{at, cell, out_of}
use Rattle.assignment.specs.State.{Solved, Answer}
use Rattle.plan.specs.Plan.{child_count_in, degree_in, Ready, Pair}
use Rattle.plan.specs.Pairs.{VertexPair, up_w, gain_at, Filled, weighed_none, weighed_number, children_is, degree_is, children_few, degree_few}
use Rattle.solver.specs.Exact.{branch_gain, Gains, solved_dual, solved_best}
use Rattle.solver.specs.Heaviest.{Table, Stands, stands_gains}
use Rattle.solver.specs.FillLaws.{choice_stands}
use Rattle.duals.specs.Left.{DualsAt}

-- ---- what the functions give

-- a table of gains of u's children with v's neighbours; a forbidden pair's mean nothing
pub record PairGains (table r f : List ℕ) (work : List ℤ) (u v : ℕ) (w : ℤ) (g : List ℕ) : Type 0 where
  pub long : length g ≡ pair_limit
  pub small : (i j : ℕ) → i < length (children r u) → j < length (neighbours f v) → cell g i j ≤ gain_most
  pub filled : is_forbidden w ≡ false → Filled (length (children r u)) (length (neighbours f v)) (gain_at table r f (recalled r f work) u v) g

-- y and z are the duals of the answer for the gains g without the column that choice c leaves out
pub record Matched (k l c : ℕ) (g y z : List ℕ) : Type 0 where
  pub m : List ℕ
  pub answer : Answer k l (out_of c (cell g)) y z m

-- for a pair of weight w
pub record DualsOf (w : ℤ) (k l c : ℕ) (g y z : List ℕ) : Type 0 where
  pub zeros : is_forbidden w ≡ true → (y ≡ replicate degree_limit 0) × (z ≡ replicate degree_limit 0)
  pub matched : is_forbidden w ≡ false → Matched k l c g y z

both_ways : {b : Bool} → b ≡ true → b ≡ false → ⊥
both_ways e q = true≢false (sym e ∙ q)

pub duals_none : (w : ℤ) (k l c : ℕ) (g : List ℕ) → is_forbidden w ≡ true → DualsOf w k l c g (replicate degree_limit 0) (replicate degree_limit 0)
duals_none w k l c g e = record { zeros = λ q. (refl, refl); matched = λ q. absurd (both_ways e q) }

pub duals_matched : {w : ℤ} {k l c : ℕ} {g y z m : List ℕ} → is_forbidden w ≡ false → Answer k l (out_of c (cell g)) y z m → DualsOf w k l c g y z
duals_matched {m = m} e B = record { zeros = λ q. absurd (both_ways q e); matched = λ q. record { m = m; answer = B } }

zeros_at : (n i : ℕ) → get_or (replicate {A = ℕ} n 0) i 0 ≡ 0
zeros_at zero i = refl
zeros_at (suc n) zero = refl
zeros_at (suc n) (suc i) = zeros_at n i

pub gains_none : {table r f : List ℕ} {work : List ℤ} {u v : ℕ} {w : ℤ} → is_forbidden w ≡ true → PairGains table r f work u v w (replicate pair_limit 0)
gains_none e = record { long = refl; small = λ i j hi hj. omega (arith, zeros_at pair_limit (i * degree_limit + j)); filled = λ q. absurd (both_ways e q) }

pub gains_filled : {table r f : List ℕ} {work : List ℤ} {u v : ℕ} {w : ℤ} {g : List ℕ} → Filled (length (children r u)) (length (neighbours f v)) (gain_at table r f (recalled r f work) u v) g → PairGains table r f work u v w g
gains_filled D = record { long = D.long; small = λ i j hi hj. (D.get i j hi hj).1; filled = λ q. D }

-- ---- the answer for gains

up_covered : (x : Weight) (n : ℕ) → up_w x ≤ n → at_most x (pos n) ≡ true
unfolding up_w at_most
up_covered none n h = refl
up_covered (some a) n h = omega (ints, canon a)

module _ (w : ℕ → ℕ → Weight) (s : ℕ) (cs A : List ℕ) (g : ℕ → ℕ → ℕ) (y z m : ℕ → ℕ) (G : Gains w s cs A g) (S : Solved (length cs) (length A) g y z m) where
  -- the gains of column s are 0, and so is its dual: no row has it, or a row has it tightly
  solved_own : (j : ℕ) → j < length A → get_or A j 0 ≡ s → z j ≡ 0
  unfolding branch_gain
  solved_own j h e = ⊎_elim
      (λ q. q)
      (λ q. let t : g q.0 (m q.0) ≡ y q.0 + z (m q.0) = S.tight q.0 q.1 (subst (λ (x : ℕ). x < length A) (sym q.2) h) in
      let t' : g q.0 j ≡ y q.0 + z j = rw q.2 at t in
      let o : g q.0 j ≡ 0 = G.is q.0 j q.1 h ∙ rw (eq-eqb (get_or A j 0) s e) in
      omega arith)
      (S.columns j h)

  solved_cover : (i j : ℕ) → i < length cs → j < length A → get_or A j 0 ≢ s → at_most (w (get_or cs i 0) (get_or A j 0)) (pos (y i + z j)) ≡ true
  unfolding branch_gain
  solved_cover i j hi hj n =
      let o : g i j ≡ up_w (w (get_or cs i 0) (get_or A j 0)) = G.is i j hi hj ∙ rw (ne_eqb (get_or A j 0) s n) in
      let c : g i j ≤ y i + z j = S.feasible i j hi hj in
      up_covered (w (get_or cs i 0) (get_or A j 0)) (y i + z j) (omega arith)

-- ---- over the trees

module _ {table r f : List ℕ} {plan : List (List ℕ)} (N : Ready table r f plan) {u v : ℕ} (Q : Pair r f u v) {work : List ℤ} {w : ℤ} {g : List ℕ} (G : PairGains table r f work u v w g)
    {k l : ℕ} (ek : k ≡ child_count_in plan u) (el : l ≡ degree_in plan v) (c : ℕ) (low : c ≤ length (neighbours f v)) where
  -- the table that the matching takes
  pub pair_table : Table k l c (cell g)
  pair_table =
      let a : k ≡ length (children r u) = ek ∙ children_is N Q in
      let b : l ≡ length (neighbours f v) = el ∙ degree_is N Q in
      record {
        rows = omega (arith, children_few N Q);
        columns = omega (arith, degree_few N Q);
        choice = omega arith;
        small = λ i j hi hj. G.small i j (omega arith) (omega arith);
      }

  module _ (P : VertexPair table r f u v w) {y z : List ℕ} (D : DualsOf w k l c g y z) where
    abbrev s : ℕ
    s = get_or (choices f v) c 0

    -- a forbidden pair has zeros
    at_none : is_forbidden w ≡ true → DualsAt table r f work u v s y z
    at_none h =
        let b : vertex_pair table r f u v ≡ none = P.is ∙ weighed_none w h in
        let ey : y ≡ replicate degree_limit 0 = (D.zeros h).0 in
        let ez : z ≡ replicate degree_limit 0 = (D.zeros h).1 in
        record {
          long = (ap length ey, ap length ez);
          zeros = λ q. (λ i a. rw ey (zeros_at degree_limit i), λ j a. rw ez (zeros_at degree_limit j));
          own = λ j a q. rw ez (zeros_at degree_limit j);
          cover = λ x q. absurd (none≢some x (sym b ∙ q));
          total = λ x q. absurd (none≢some x (sym b ∙ q));
        }

    module _ (h : is_forbidden w ≡ false) where
      abbrev weigh : ℕ → ℕ → Weight
      weigh = branch table r f (recalled r f work) u v

      M : Matched k l c g y z
      M = D.matched h

      stands : Stands k l c weigh s (children r u) (neighbours f v) (cell g)
      stands = choice_stands N Q work g k l c (ek ∙ children_is N Q) el (G.filled h) low

      left_gains : Gains weigh s (children r u) (neighbours f v) (out_of c (cell g))
      left_gains = stands_gains stands

      solved : Solved (length (children r u)) (length (neighbours f v)) (out_of c (cell g)) (at y) (at z) (at M.m)
      solved = rw (stands.rows, stands.columns) M.answer.solved

      -- any other has those of the answer
      at_matched : DualsAt table r f work u v s y z
      unfolding value_from
      at_matched =
          let b : vertex_pair table r f u v ≡ some w = P.is ∙ weighed_number w h in
          record {
            long = (M.answer.sizes.rows, M.answer.sizes.columns);
            zeros = λ q. absurd (none≢some w (sym q ∙ b));
            own = solved_own weigh s (children r u) (neighbours f v) (out_of c (cell g)) (at y) (at z) (at M.m) left_gains solved;
            cover = λ x q. solved_cover weigh s (children r u) (neighbours f v) (out_of c (cell g)) (at y) (at z) (at M.m) left_gains solved;
            total = λ x q.
                ap (λ (p : Weight). plus_w p (best weigh (children r u) (del s (neighbours f v)))) q
                ∙ ap (plus_w (some x)) (solved_best weigh s (children r u) (neighbours f v) (out_of c (cell g)) (at y) (at z) (at M.m) left_gains (solved_dual solved) stands.rows_apart stands.columns_apart);
          }

    pub duals_at : DualsAt table r f work u v s y z
    duals_at = go (is_forbidden w) refl
      where
        go : (b : Bool) → is_forbidden w ≡ b → DualsAt table r f work u v s y z
        go true e = at_none e
        go false e = at_matched e
