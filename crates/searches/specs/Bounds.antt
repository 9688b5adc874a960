-- The bounds of all pairs added up, pair by pair. Assumes nothing.
use Rattle.std.specs.Prelude.{◌≡◌, Bool, false, List, length, get_or}
use Rattle.std.proofs.Math.Path.{refl, ap}
use Rattle.std.proofs.Common.{sym, ◌∙◌, arith, add-one, add-zero, zero-add, eq-eqb, ne_eqb}
use Rattle.std.proofs.Math.Bool.{true, cond}
use Prim.Native.Nat.{ℕ, zero, suc, ◌+◌, ◌*◌, ◌≤◌, ◌<◌}
use Rattle.std.proofs.Math.Nat.{zero-mod}
use Rattle.foundations.specs.Members.{mem_ne, get_d_mem}
use Rattle.foundations.specs.Sums.{sum, sum_zero, sum_ext, sum_first, sum_append, sum_most}
use Rattle.model.specs.Limits.{degree_limit, pair_limit}
use Rattle.model.specs.Graph.{neighbours}
use Rattle.model.specs.Order.{offset, width, subproblems, choices, u_at, v_at, s_at}
use Rattle.trees.specs.Rooted.{no_self}
use Rattle.trees.specs.Positions.{sub_at}
use Rattle.plan.specs.Plan.{Ready, Pair}
use Rattle.plan.specs.Numbers.{ready_accepted, number_few}
use Rattle.plan.specs.Pairs.{children_few, degree_few}
use Rattle.assignment.specs.Loops.{far}
use Rattle.solver.specs.FillLaws.{PairRun}
use Rattle.solver.specs.Bound.{pair_most, most_at, begins, search_most, begins_at}

-- of the pairs that begin among the first n subproblems
unfoldable pub bound_to : List ℕ → List ℕ → ℕ → ℕ
bound_to r f n = sum n (λ i. cond (begins f i) (most_at r f i) 0)

module _ {table r f : List ℕ} {plan : List (List ℕ)} (N : Ready table r f plan) where
  begins_first : begins f 0 ≡ true
  begins_first = begins_at N 0 0 (ready_accepted N).found.ends.some (unfold offset in zero-mod (width f))

  pub bound_all : (n : ℕ) → search_most r f 0 n ≡ bound_to r f n
  unfolding search_most bound_to sum
  bound_all zero = refl
  bound_all (suc n) = rw begins_first (zero-add _ ∙ sum_ext (suc n) (λ i. cond (begins f (0 + i)) (most_at r f (0 + i)) 0) (λ i. cond (begins f i) (most_at r f i) 0) (λ i h. rw (zero-add i)))

  most_at_lem : (k : ℕ) → k < subproblems r f → cond (begins f k) (most_at r f k) 0 ≤ 2 * degree_limit
  most_at_lem k h = go (begins f k)
    where
      most : most_at r f k ≤ 2 * degree_limit
      most =
          let S = sub_at r f (ready_accepted N).recorded.ends (ready_accepted N).recorded.tree (ready_accepted N).found.ends (ready_accepted N).found.tree k h in
          let Q : Pair r f (u_at r f k) (v_at f k) = record { u_low = S.u_low; v_low = S.v_low } in
          omega (arith, children_few N Q, degree_few N Q)

      go : (b : Bool) → cond b (most_at r f k) 0 ≤ 2 * degree_limit
      go true = most
      go false = omega arith

  bound_low : (n : ℕ) → n ≤ subproblems r f → bound_to r f n ≤ n * (2 * degree_limit)
  unfolding bound_to
  bound_low n h = sum_most n (2 * degree_limit) (λ i. cond (begins f i) (most_at r f i) 0) (λ i l. most_at_lem i (omega arith))

  -- ---- a whole pair

  module _ {u v from : ℕ} (P : PairRun r f u v 0 from (length (neighbours f v) + 1)) where
    at_first : begins f (from + 0) ≡ true
    at_first = eq-eqb (s_at f (from + 0)) (v_at f (from + 0)) (P.which_s 0 (omega arith) ∙ sym (P.where_v 0 (omega arith)))

    at_later : (i : ℕ) → i < length (neighbours f v) → begins f (from + suc i) ≡ false
    at_later i h =
        let s : s_at f (from + suc i) ≡ get_or (neighbours f v) i 0 = P.which_s (suc i) (omega arith) ∙ ap (λ (k : ℕ). get_or (choices f v) k 0) (zero-add (suc i)) in
        let w : v_at f (from + suc i) ≡ v = P.where_v (suc i) (omega arith) in
        let out = no_self f (ready_accepted N).found.ends (ready_accepted N).found.tree v P.pair.v_low in
        ne_eqb (s_at f (from + suc i)) (v_at f (from + suc i)) (λ e. mem_ne (get_or (neighbours f v) i 0) v (neighbours f v) out (get_d_mem (neighbours f v) i h) (sym s ∙ e ∙ w))

    begun : ℕ → ℕ
    begun i = cond (begins f (from + i)) (most_at r f (from + i)) 0

    sum_pair : sum (suc (length (neighbours f v))) begun ≡ pair_most r f u v
    unfolding begun
    sum_pair =
        let a : begun 0 ≡ pair_most r f u v = rw (at_first, P.whose 0 (omega arith), P.where_v 0 (omega arith)) in
        let z = sum_zero (length (neighbours f v)) (λ i. begun (suc i)) (λ i h. rw (at_later i h)) in
        omega (arith, sum_first (length (neighbours f v)) begun)

    pub most_whole : search_most r f from (length (neighbours f v) + 1) ≡ pair_most r f u v
    unfolding search_most begun
    most_whole =
        let a : begins f from ≡ true = ap (begins f) (sym (add-zero from)) ∙ at_first in
        rw (add-one (length (neighbours f v)), a) (zero-add _ ∙ sum_pair)

    pub bound_next : bound_to r f (from + (length (neighbours f v) + 1)) ≡ bound_to r f from + pair_most r f u v
    unfolding bound_to begun
    bound_next = rw (add-one (length (neighbours f v))) (sum_append from (suc (length (neighbours f v))) (λ i. cond (begins f i) (most_at r f i) 0) ∙ ap (λ (x : ℕ). bound_to r f from + x) sum_pair)

    -- no sum that is made of it wraps
    pub bound_few : pair_limit * (bound_to r f from + pair_most r f u v) ≤ far
    bound_few = omega (arith, bound_next, bound_low (from + (length (neighbours f v) + 1)) P.enough, P.enough, number_few N)
