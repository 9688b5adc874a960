-- How many path searches filling may take: for each pair of vertices one for each child of u and one for each neighbour of v. Assumes nothing.
use Rattle.std.specs.Prelude.{◌≡◌, Bool, true, false, cond, List, length, eqb}
use Rattle.std.proofs.Math.Path.{refl, sym, ap}
use Rattle.std.proofs.Common.{◌∙◌, subst, add-one, add-zero, zero-add}
use Rattle.std.proofs.Math.Logic.{⊎_elim}
use Prim.Native.Nat.{ℕ, zero, suc, ◌+◌, ◌-◌, ◌*◌, ◌/◌, ◌%◌, ◌≤◌, ◌<◌, min}
use native.Mathlib.Omega.{arith}
use Rattle.std.proofs.Math.Nat.{div-add-mod', mod-lt, min-eq_right, min-eq_left}
use Rattle.std.proofs.Math.Arith.{digits_mod}
use borrow.Author.Tests.{eq-eqb}
use Rattle.foundations.specs.Tests.{less?}
use Rattle.foundations.specs.Sums.{sum, sum_ext, sum_first, sum_append}
use Rattle.model.specs.Limits.{degree_limit}
use Rattle.model.specs.Tree.{count}
use Rattle.model.specs.Graph.{neighbours}
use Rattle.model.specs.Order.{children, offset, width, subproblems, u_at, v_at, s_at}
use Rattle.trees.specs.Positions.{sub_at, offset_all}
use Rattle.plan.specs.Plan.{offset_in, Ready, Pair}
use Rattle.plan.specs.Numbers.{Located, ready_accepted, width_some, number_v, number_s, offsets_are, number_few}
use Rattle.plan.specs.Pairs.{children_few, degree_few}
use Rattle.assignment.specs.Loops.{far}
use Rattle.solver.specs.FillLaws.{RowRun, PairRun}

-- for the subproblems of u and v
abbrev pub pair_most : List ℕ → List ℕ → ℕ → ℕ → ℕ
pair_most r f u v = length (children r u) + length (neighbours f v)

-- for the pair of subproblem k
abbrev pub most_at : List ℕ → List ℕ → ℕ → ℕ
most_at r f k = pair_most r f (u_at r f k) (v_at f k)

-- subproblem k is the first of its pair: nothing is left out, s is v
abbrev pub begins : List ℕ → ℕ → Bool
begins f k = eqb (s_at f k) (v_at f k)

-- of n subproblems from number `from` on: for the pair that the first of them stands within, and for each pair that begins among them
unfoldable pub search_most : List ℕ → List ℕ → ℕ → ℕ → ℕ
search_most r f from zero = 0
search_most r f from (suc n) = cond (begins f from) 0 (most_at r f from) + sum (suc n) (λ i. cond (begins f (from + i)) (most_at r f (from + i)) 0)

-- ---- adding up

within : List ℕ → List ℕ → ℕ → ℕ
unfolding search_most
within r f from = cond (begins f from) 0 (most_at r f from)

begun : List ℕ → List ℕ → ℕ → ℕ
begun r f k = cond (begins f k) (most_at r f k) 0

most_some : (r f : List ℕ) (from n : ℕ) → 1 ≤ n → search_most r f from n ≡ within r f from + sum n (λ i. begun r f (from + i))
unfolding search_most within begun
most_some r f from zero h = absurd (omega arith)
most_some r f from (suc n) h = refl

most_zero : (r f : List ℕ) (from : ℕ) → search_most r f from 0 ≡ 0
unfolding search_most
most_zero r f from = refl

both : (r f : List ℕ) (k : ℕ) → within r f k + begun r f k ≡ most_at r f k
unfolding within begun
both r f k = go (begins f k)
  where
    go : (b : Bool) → cond b 0 (most_at r f k) + cond b (most_at r f k) 0 ≡ most_at r f k
    go true = omega arith
    go false = omega arith

-- one pair, whole or in part
pub most_pair : {r f : List ℕ} {u v q from n : ℕ} → PairRun r f u v q from n → 1 ≤ n → pair_most r f u v ≤ search_most r f from n
most_pair {r} {f} {u} {v} {q} {from} {n} P h =
    let a : u_at r f from ≡ u = subst (λ (x : ℕ). u_at r f x ≡ u) (add-zero from) (P.whose 0 (omega arith)) in
    let b : v_at f from ≡ v = subst (λ (x : ℕ). v_at f x ≡ v) (add-zero from) (P.where_v 0 (omega arith)) in
    let m : most_at r f from ≡ pair_most r f u v = rw (a, b) in
    let d : n ≡ suc (n - 1) = omega arith in
    let s : sum n (λ i. begun r f (from + i)) ≡ begun r f (from + 0) + sum (n - 1) (λ i. begun r f (from + suc i)) = ap (λ (x : ℕ). sum x (λ i. begun r f (from + i))) d ∙ sum_first (n - 1) (λ i. begun r f (from + i)) in
    let z : begun r f (from + 0) ≡ begun r f from = ap (begun r f) (add-zero from) in
    omega (arith, both r f from, most_some r f from n h)

-- a run that is followed by another, which begins with a pair
pub most_more : (r f : List ℕ) (from i c : ℕ) → (0 < i → begins f (from + i) ≡ true) → search_most r f from i + search_most r f (from + i) c ≤ search_most r f from (i + c)
unfolding within
most_more r f from i c first = ⊎_elim
    (λ hc. ⊎_elim
    (λ hi.
    let t : within r f (from + i) ≡ 0 = rw (first hi) in
    let e : sum c (λ x. begun r f (from + i + x)) ≡ sum c (λ x. begun r f (from + (i + x))) = sum_ext c (λ x. begun r f (from + i + x)) (λ x. begun r f (from + (i + x))) (λ x h. ap (begun r f) (let w : from + i + x ≡ from + (i + x) = omega arith in w)) in
    omega (arith, most_some r f from i hi, most_some r f (from + i) c hc, most_some r f from (i + c) (omega arith), sum_append i c (λ x. begun r f (from + x)), e))
    (λ hi. let z : i ≡ 0 = omega arith in rw (z, add-zero from, zero-add c) (omega (arith, most_zero r f from)))
    (less? 0 i))
    (λ hc. let z : c ≡ 0 = omega arith in rw (z, add-zero i) (omega (arith, most_zero r f (from + i))))
    (less? 0 c)

pub most_upto : (r f : List ℕ) (from i n : ℕ) → i ≤ n → search_most r f from i ≤ search_most r f from n
most_upto r f from i n h = ⊎_elim
    (λ p. let d : n ≡ i + (n - i) = omega arith in omega (arith, most_some r f from i p, most_some r f from n (omega arith), ap (λ (x : ℕ). sum x (λ y. begun r f (from + y))) d, sum_append i (n - i) (λ x. begun r f (from + x))))
    (λ p. let z : i ≡ 0 = omega arith in rw z (omega (arith, most_zero r f from)))
    (less? 0 i)

-- ---- where a pair begins

-- the lesser of two, where it is less than the first
pub lesser_less : {a b r : ℕ} → r ≡ min a b → r < a → r ≡ b
lesser_less {a} {b} e h = ⊎_elim (λ l. let m : min a b ≡ a = min-eq_left (let w : a ≤ b = omega arith in w) in absurd (omega arith)) (λ l. e ∙ min-eq_right l) (less? a b)

module _ {table r f : List ℕ} {plan : List (List ℕ)} (N : Ready table r f plan) where
  pub begins_at : (p v : ℕ) → v < count f → p % width f ≡ offset f v → begins f p ≡ true
  unfolding offset
  begins_at p v h e =
      let o : offset_in plan v ≡ offset f v = offsets_are N v h in
      let L : Located (offset_in plan) (count f) (p % width f) v = record {
        low = h;
        from = λ z. omega arith;
        upto = λ z.
            let o1 : offset_in plan (v + 1) ≡ offset f (v + 1) = offsets_are N (v + 1) z in
            let one : offset f (v + 1) ≡ offset f v + suc (length (neighbours f v)) = rw (add-one v) in
            omega arith;
      } in
      let a : v_at f p ≡ v = number_v N p (count f) v refl L in
      let b : s_at f p ≡ v = number_s N p (count f) v 0 refl L (omega arith) in
      eq-eqb (s_at f p) (v_at f p) (b ∙ sym a)

  -- a row begins with a pair
  pub begins_row : (p c : ℕ) → c ≡ width f - p % width f → begins f (p + c) ≡ true
  unfolding offset
  begins_row p c e = begins_at (p + c) 0 (ready_accepted N).found.ends.some
      (let w = width_some N in
      let m : p % width f < width f = mod-lt p w in
      let d : p / width f * width f + p % width f ≡ p = div-add-mod' p (width f) in
      let s : p + c ≡ (p / width f + 1) * width f + 0 = omega arith in
      ap (λ (x : ℕ). x % width f) s ∙ digits_mod (p / width f + 1) w)

  -- the next vertex begins where one's choices end
  module _ {u rest from n : ℕ} (R : RowRun r f u rest from n) (i v : ℕ) (h : i < n) (hv : v < count f) (e : rest + i ≡ offset f v + (length (neighbours f v) + 1)) where
    next_offset : offset f (v + 1) ≡ rest + i
    unfolding offset
    next_offset = let one : offset f (v + 1) ≡ offset f v + suc (length (neighbours f v)) = rw (add-one v) in omega arith

    next_low : v + 1 < count f
    next_low =
        let l = R.left i h in
        let m : (from + i) % width f < width f = mod-lt (from + i) (width_some N) in
        let all : offset f (count f) ≡ width f = offset_all f (ready_accepted N).found.ends (ready_accepted N).found.tree in
        ⊎_elim (λ q. q) (λ q. let z : v + 1 ≡ count f = omega arith in absurd (omega (arith, ap (offset f) z, next_offset))) (less? (v + 1) (count f))

    pub begins_next : begins f (from + i) ≡ true
    begins_next = begins_at (from + i) (v + 1) next_low (let l = R.left i h in let o = next_offset in omega arith)

    pub next_located : {m : ℕ} → m ≡ count f → Located (offset_in plan) m (rest + i) (v + 1) × (0 ≡ rest + i - offset_in plan (v + 1))
    unfolding offset
    next_located {m} em =
        let o : offset_in plan (v + 1) ≡ offset f (v + 1) = offsets_are N (v + 1) next_low in
        let w = next_offset in (
          record {
            low = omega (arith, next_low);
            from = λ z. omega arith;
            upto = λ z.
                let o2 : offset_in plan (v + 1 + 1) ≡ offset f (v + 1 + 1) = offsets_are N (v + 1 + 1) (omega arith) in
                let one : offset f (v + 1 + 1) ≡ offset f (v + 1) + suc (length (neighbours f (v + 1))) = rw (add-one (v + 1)) in
                omega arith;
          },
          omega arith,
        )

  -- ---- no count is too great

  most_at_lem : (k : ℕ) → k < subproblems r f → most_at r f k ≤ 2 * degree_limit
  most_at_lem k h =
      let S = sub_at r f (ready_accepted N).recorded.ends (ready_accepted N).recorded.tree (ready_accepted N).found.ends (ready_accepted N).found.tree k h in
      let Q : Pair r f (u_at r f k) (v_at f k) = record { u_low = S.u_low; v_low = S.v_low } in
      omega (arith, children_few N Q, degree_few N Q)

  pub most_few : (from n : ℕ) → from + n ≤ subproblems r f → search_most r f from n ≤ far
  unfolding sum
  most_few from n h = ⊎_elim
      (λ hn.
      let a = most_at_lem from (omega arith) in
      let b = sum_few n (λ i l. most_at_lem (from + i) (omega arith)) in
      omega (arith, most_some r f from n hn, both r f from, number_few N))
      (λ hn. let z : n ≡ 0 = omega arith in rw z (omega (arith, most_zero r f from)))
      (less? 0 n)
    where
      begun_low : (k : ℕ) → begun r f k ≤ most_at r f k
      begun_low k = omega (arith, both r f k)

      sum_few : (n : ℕ) → ((i : ℕ) → i < n → most_at r f (from + i) ≤ 2 * degree_limit) → sum n (λ i. begun r f (from + i)) ≤ n * (2 * degree_limit)
      sum_few zero g = omega arith
      sum_few (suc n) g = omega (arith, sum_few n (λ i l. g i (omega arith)), g n (omega arith), begun_low (from + n))
