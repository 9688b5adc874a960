-- From a subproblem's number to its three vertices as the code finds them, and the steps of filling. Assumes nothing.
use Rattle.std.specs.Prelude.{◌≡◌, refl, true, false, List, ℕ, suc, ◌+◌, ◌-◌, ◌*◌, ◌/◌, ◌%◌, ◌≤◌, ◌<◌, min, T, eqb, ℤ}
use Rattle.std.proofs.Math.Path.{sym, ap, subst}
use Rattle.std.proofs.Common.{◌∙◌, inl, add-one, add-zero}
use native.Mathlib.Omega.{arith}
use Rattle.std.proofs.Math.Nat.{div-add-mod', le-min, min-le_left, min-le_right}
use Rattle.std.proofs.Math.Arith.{digits_div, digits_mod}
use Rattle.std.proofs.Math.ListN.{length, get_or}
use Rattle.foundations.specs.Members.{mem, mem_there, mem_ne, get_d_mem, del, del_mem}
use Rattle.model.specs.Limits.{forbidden, degree_limit}
use Rattle.model.specs.Weights.{is_forbidden, in_range, weighed, stored, plus_w}
use Rattle.model.specs.Tree.{count}
use Rattle.model.specs.Graph.{neighbours}
use Rattle.model.specs.Order.{children, postorder, offset, width, choices, index, subproblems, u_at, v_at, s_at}
use Rattle.model.specs.Pairs.{edge_pair}
use Rattle.model.specs.Values.{branch, recalled, solve_at, solve, fill}
use Rattle.trees.specs.Neighbours.{few_neighbours, once_neighbours, mem_adjacent, adjacent_mem, adjacent_back}
use Rattle.trees.specs.Rooted.{no_self, child_of_lem, once_children}
use Rattle.trees.specs.Positions.{sub_at, index_child}
use Rattle.assignment.specs.Matching.{cell}
use Rattle.subtrees.specs.Matching.{best_ext}
use Rattle.subtrees.proofs.Filling.{length_fill, fill_more, fill_keeps, solve_forbidden, solve_stored}
use Rattle.plan.specs.Plan.{degree_in, offset_in, order_in, Ready, Lent, Pair}
use Rattle.plan.specs.Numbers.{Located, ready_accepted, number_u, offsets_are, rest_in, number_v, number_s}
use Rattle.plan.specs.Pairs.{VertexPair, gain_at, Filled, weighed_none, weighed_number, children_few, degree_few}
use Rattle.solver.specs.Exact.{left_of, best_none}
use Rattle.solver.specs.Heaviest.{HeaviestMatching, Stands, small_heaviest, heaviest_best}
use Rattle.solver.specs.Numbers.{written, fill_written, PairTable, Numbers, table_at}

-- count subproblems from number `from` on, all of u; `rest` stands at the first
pub record RowRun (r f : List ℕ) (u rest from n : ℕ) : Type 0 where
  pub u_low : u < count r
  pub enough : from + n ≤ subproblems r f
  pub whose : (i : ℕ) → i < n → u_at r f (from + i) ≡ u
  pub left : (i : ℕ) → i < n → (from + i) % width f ≡ rest + i

-- and all of v; the first has the q-th choice of s
pub record PairRun (r f : List ℕ) (u v q from n : ℕ) : Type 0 where
  pub pair : Pair r f u v
  pub enough : from + n ≤ subproblems r f
  pub whose : (i : ℕ) → i < n → u_at r f (from + i) ≡ u
  pub where_v : (i : ℕ) → i < n → v_at f (from + i) ≡ v
  pub which_s : (i : ℕ) → i < n → s_at f (from + i) ≡ get_or (choices f v) (q + i) 0
  pub choice : (i : ℕ) → i < n → q + i ≤ length (neighbours f v)

-- the lesser of two numbers above 0
pub lesser_is : {a b r : ℕ} → r ≡ min a b → 1 ≤ a → 1 ≤ b → (1 ≤ r) × (r ≤ a) × (r ≤ b)
lesser_is {a} {b} e h k = rw e (le-min h k, min-le_left a b, min-le_right a b)

-- ---- a choice of s, and the column that it leaves out

choice_left : (f : List ℕ) (v c : ℕ) → mem v (neighbours f v) ≡ false → c ≤ length (neighbours f v) → (j : ℕ) → j < length (neighbours f v) → eqb (get_or (neighbours f v) j 0) (get_or (choices f v) c 0) ≡ eqb (j + 1) c
choice_left f v c out h = left_of (neighbours f v) (get_or (choices f v) c 0) c (once_neighbours f v) h
    (λ z j hj e. mem_ne (get_or (neighbours f v) j 0) v (neighbours f v) out (get_d_mem (neighbours f v) j hj) (e ∙ ap (λ (x : ℕ). get_or (choices f v) x 0) z))
    (λ j e. sym (ap (λ (x : ℕ). get_or (choices f v) x 0) (e ∙ add-one j)))

module _ {table r f : List ℕ} {plan : List (List ℕ)} (N : Ready table r f plan) where
  -- ---- a pair's table of gains stands for its choice c of s

  pub choice_stands : {u v : ℕ} → Pair r f u v → (work : List ℤ) (g : List ℕ) (k l c : ℕ) → k ≡ length (children r u) → l ≡ degree_in plan v → Filled (length (children r u)) (length (neighbours f v)) (gain_at table r f (recalled r f work) u v) g → c ≤ length (neighbours f v)
      → Stands k l c (branch table r f (recalled r f work) u v) (get_or (choices f v) c 0) (children r u) (neighbours f v) (cell g)
  unfolding gain_at
  choice_stands {u} {v} Q work g k l c ek el D h =
      let b : l ≡ length (neighbours f v) = el ∙ (N.planned.found v Q.v_low).degree in
      record {
        rows = sym ek;
        columns = sym b;
        rows_apart = once_children r u;
        columns_apart = once_neighbours f v;
        left = λ j hj. choice_left f v c (no_self f (ready_accepted N).found.ends (ready_accepted N).found.tree v Q.v_low) h j (omega arith);
        gains = λ x y hx hy. (D.get x y (omega arith) (omega arith)).0;
      }

  -- ---- one of a run of u and v

  module _ {u v q from n : ℕ} (R : PairRun r f u v q from n) where
    run_solve : (i : ℕ) → i < n → (work : List ℤ) → solve table r f work (from + i) ≡ solve_at table r f work u v (get_or (choices f v) (q + i) 0)
    unfolding solve
    run_solve i h work = rw (R.whose i h, R.where_v i h, R.which_s i h)

    -- a forbidden pair
    pub run_forbidden : (w : ℤ) → VertexPair table r f u v w → is_forbidden w ≡ true → (work : List ℤ) → written work from n (λ i. forbidden) ≡ fill table r f work from n
    run_forbidden w P e work = fill_written table r f work from n (λ i. forbidden) (λ i h. let x = fill table r f work from i in sym (run_solve i h x ∙ solve_forbidden table r f x u v _ (P.is ∙ weighed_none w e)))

    -- no children
    pub run_leaf : (w x : ℤ) → VertexPair table r f u v w → is_forbidden w ≡ false → length (children r u) ≡ 0 → x ≡ stored w 0 → (work : List ℤ) → written work from n (λ i. x) ≡ fill table r f work from n
    run_leaf w x P e none d work =
        fill_written table r f work from n (λ i. x) (λ i h. let y = fill table r f work from i in sym (run_solve i h y ∙ solve_stored table r f y u v _ w 0 (P.is ∙ weighed_number w e) (best_none _ _ _ none) ∙ sym d))

    -- the numbers behind the branches of u stay while u's are filled
    kept : (work : List ℤ) (i : ℕ) → i < n → (c x : ℕ) → T (mem c (children r u)) → T (mem x (neighbours f v)) → recalled r f (fill table r f work from i) c x v ≡ recalled r f work c x v
    unfolding recalled
    kept work i h c x tc tx =
        let er = (ready_accepted N).recorded.ends in
        let tr = (ready_accepted N).recorded.tree in
        let ef = (ready_accepted N).found.ends in
        let tf = (ready_accepted N).found.tree in
        let first : u_at r f from ≡ u = subst (λ (y : ℕ). u_at r f y ≡ u) (add-zero from) (R.whose 0 (omega arith)) in
        let S = sub_at r f er tr ef tf from (let m = R.enough in omega arith) in
        let a = mem_adjacent f v x tx in
        let k = child_of_lem r er tr u c R.pair.u_low tc in
        let low : index r f c x v < from = subst (λ (y : ℕ). index r f c x v < y) S.here (index_child r f er tr ef tf c x v (u_at r f from) (v_at f from) (s_at f from) k.0 k.1 (k.2 ∙ sym first) a.0 (mem_there v x (neighbours f x) (adjacent_mem f ef x v (adjacent_back f v x a.1)))) in
        ap weighed (fill_keeps table r f work from i (index r f c x v) (inl low))

    -- the table of gains, for a pair of weight w
    pub run_table : (work : List ℤ) (g : List ℕ) (k l : ℕ) → k ≡ length (children r u) → l ≡ degree_in plan v → Filled (length (children r u)) (length (neighbours f v)) (gain_at table r f (recalled r f work) u v) g → (w : ℤ) → in_range w ≡ true → Lent r f work → PairTable k l (cell g) w q from n work
    run_table work g k l ek el D w e L =
        let b : l ≡ length (neighbours f v) = el ∙ (N.planned.found v R.pair.v_low).degree in
        record {
          table = record {
            rows = omega (arith, ek, children_few N R.pair);
            columns = omega (arith, b, degree_few N R.pair);
            choice = omega arith;
            small = λ x y hx hy. (D.get x y (omega arith) (omega arith)).1;
          };
          number = e;
          enough = omega (arith, R.enough, L.enough);
          choice = λ i h. let d = R.choice i h in omega arith;
        }

    -- the number of the i-th
    run_number : (work : List ℤ) (g : List ℕ) (k l : ℕ) → k ≡ length (children r u) → l ≡ degree_in plan v → Filled (length (children r u)) (length (neighbours f v)) (gain_at table r f (recalled r f work) u v) g
        → (w : ℤ) → VertexPair table r f u v w → is_forbidden w ≡ false → (i : ℕ) → i < n → (total : ℕ) (x : ℤ) → HeaviestMatching k l (q + i) (cell g) total → x ≡ stored w total → x ≡ solve table r f (fill table r f work from i) (from + i)
    run_number work g k l ek el D w P e i h total x H d =
        d
        ∙ sym (solve_stored table r f (fill table r f work from i) u v s w total (P.is ∙ weighed_number w e)
        (best_ext (branch table r f (recalled r f (fill table r f work from i)) u v) (branch table r f (recalled r f work) u v) (children r u) (del s (neighbours f v)) (λ c y tc ty. ap (plus_w (edge_pair table r f u c v y)) (kept work i h c y tc (del_mem y s (neighbours f v) ty).0))
        ∙ heaviest_best stands H))
        ∙ sym (run_solve i h (fill table r f work from i))
      where
        s : ℕ
        s = get_or (choices f v) (q + i) 0

        stands : Stands k l (q + i) (branch table r f (recalled r f work) u v) s (children r u) (neighbours f v) (cell g)
        stands = choice_stands R.pair work g k l (q + i) ek el D (R.choice i h)

    -- the numbers of a table are those of filling
    pub run_numbers : (work : List ℤ) (g : List ℕ) (k l : ℕ) → k ≡ length (children r u) → l ≡ degree_in plan v → Filled (length (children r u)) (length (neighbours f v)) (gain_at table r f (recalled r f work) u v) g
        → (w : ℤ) → VertexPair table r f u v w → is_forbidden w ≡ false → PairTable k l (cell g) w q from n work → {work' : List ℤ} → Numbers k l (cell g) w q from n work work' → work' ≡ fill table r f work from n
    run_numbers work g k l ek el D w P e A M = M.is ∙ fill_written table r f work from n (λ i. stored w (M.total i))
        (λ i h. run_number work g k l ek el D w P e i h (M.total i) (stored w (M.total i)) (small_heaviest (table_at A i h) (M.heaviest i h)) refl)

  -- ---- the vertex of one of a run of u

  pub run_room : {u rest from n m v : ℕ} → RowRun r f u rest from n → (i : ℕ) → i < n → m ≡ count f → Located (offset_in plan) m (rest + i) v → (v < count f) × (offset_in plan v ≤ rest + i) × (rest + i - offset_in plan v ≤ degree_in plan v) × (degree_in plan v ≤ degree_limit)
  run_room {u} {rest} {from} {n} {m} {v} R i h e l =
      let a = rest_in N (from + i) m v e (rw (R.left i h) l) in
      let g = R.left i h in
      let o : offset_in plan v ≡ offset f v = a.1 in
      let low : offset f v ≤ (from + i) % width f = a.2 in
      let up : (from + i) % width f - offset f v ≤ length (neighbours f v) = a.3 in
      let d : degree_in plan v ≡ length (neighbours f v) = (N.planned.found v a.0).degree in
      let few : length (neighbours f v) ≤ degree_limit = few_neighbours f _ _ (ready_accepted N).found v a.0 in
      (a.0, omega arith, omega arith, omega arith)

  -- those of it that are v's too
  pub pair_run : {u rest from n m v q c : ℕ} → RowRun r f u rest from n → (i : ℕ) → i < n → m ≡ count f → Located (offset_in plan) m (rest + i) v → q ≡ rest + i - offset_in plan v → c ≤ n - i → c ≤ degree_in plan v + 1 - q → PairRun r f u v q (from + i) c
  unfolding offset
  pair_run {u} {rest} {from} {n} {m} {v} {q} {c} R i h e l eq ci cs =
      let a = run_room R i h e l in
      let lv : v < count f = a.0 in
      let from_v : offset_in plan v ≤ rest + i = a.1 in
      let up : rest + i - offset_in plan v ≤ degree_in plan v = a.2 in
      let d : degree_in plan v ≡ length (neighbours f v) = (N.planned.found v lv).degree in
      record {
        pair = record { u_low = R.u_low; v_low = lv };
        enough = let g = R.enough in omega arith;
        whose = λ j hj. let s : from + i + j ≡ from + (i + j) = omega arith in rw s (R.whose (i + j) (omega arith));
        where_v = λ j hj. number_v N (from + i + j) m v e (rw (here j hj) (inside j hj));
        which_s = λ j hj. number_s N (from + i + j) m v (q + j) e (rw (here j hj) (inside j hj)) (rw (here j hj) (omega arith));
        choice = λ j hj. omega arith;
      }
    where
      here : (j : ℕ) → j < c → (from + i + j) % width f ≡ rest + i + j
      here j hj =
          let s : from + i + j ≡ from + (i + j) = omega arith in
          let t : rest + i + j ≡ rest + (i + j) = omega arith in
          rw (s, t) (R.left (i + j) (omega arith))

      inside : (j : ℕ) → j < c → Located (offset_in plan) m (rest + i + j) v
      inside j hj =
          let a = run_room R i h e l in
          let from_v : offset_in plan v ≤ rest + i = a.1 in
          let d : degree_in plan v ≡ length (neighbours f v) = (N.planned.found v a.0).degree in
          record {
            low = l.low;
            from = λ z. omega arith;
            upto = λ z.
                let o : offset_in plan v ≡ offset f v = offsets_are N v a.0 in
                let o1 : offset_in plan (v + 1) ≡ offset f (v + 1) = offsets_are N (v + 1) (omega arith) in
                let one : offset f (v + 1) ≡ offset f v + suc (length (neighbours f v)) = rw (add-one v) in
                omega arith;
          }

  -- numbers that end where u's do, or before
  pub row_run : (p c : ℕ) → p + c ≤ subproblems r f → 1 ≤ c → c ≤ width f - p % width f → RowRun r f (order_in plan (p / width f)) (p % width f) p c
  unfolding u_at
  row_run p c h some fits =
      let low : p < subproblems r f = omega arith in
      let S = sub_at r f (ready_accepted N).recorded.ends (ready_accepted N).recorded.tree (ready_accepted N).found.ends (ready_accepted N).found.tree p low in
      record {
        u_low = rw (number_u N p low) S.u_low;
        enough = h;
        whose = λ i hi. ap (λ (z : ℕ). get_or (postorder r) z 0) (ap (λ (z : ℕ). z / width f) (split i) ∙ digits_div (p / width f) (room i hi)) ∙ sym (number_u N p low);
        left = λ i hi. ap (λ (z : ℕ). z % width f) (split i) ∙ digits_mod (p / width f) (room i hi);
      }
    where
      split : (i : ℕ) → p + i ≡ p / width f * width f + (p % width f + i)
      split i = let e : p / width f * width f + p % width f ≡ p = div-add-mod' p (width f) in omega arith

      room : (i : ℕ) → i < c → p % width f + i < width f
      room i hi = omega arith

pub fill_none : (table r f : List ℕ) (work : List ℤ) (k : ℕ) → work ≡ fill table r f work k 0
unfolding fill
fill_none table r f work k = refl

-- the work keeps its length
pub fill_lent : (table r f : List ℕ) (work w : List ℤ) (k c : ℕ) → Lent r f work → w ≡ fill table r f work k c → Lent r f w
fill_lent table r f work w k c l e = record { enough = rw (e, length_fill table r f work k c) l.enough }

-- and a slice more
pub fill_slice : (table r f : List ℕ) (work w x : List ℤ) (k i c : ℕ) → w ≡ fill table r f work k i → x ≡ fill table r f w (k + i) c → x ≡ fill table r f work k (i + c)
fill_slice table r f work w x k i c e h = h ∙ ap (λ (z : List ℤ). fill table r f z (k + i) c) e ∙ fill_more table r f work k i c
