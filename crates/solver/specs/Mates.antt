-- The choice that a matching makes for the children of a recorded vertex. Assumes nothing.
use Rattle.std.specs.Prelude.{◌≡◌, refl, ◌≢◌, Bool, false, cond, List, ℕ, ◌+◌, ◌≤◌, ◌<◌, length, set, eqb, ltb, ℤ}
use Rattle.std.proofs.Math.Path.{sym, ap, subst}
use Rattle.std.proofs.Common.{◌∙◌, true≢false, arith, not-suc-le-zero, length-set, get_or-set_same, get_or-set_other, eq-eqb, ne_eqb, lt-ltb, le-ltb}
use Rattle.std.proofs.Math.Logic.{⊎_elim}
use Rattle.std.proofs.Math.Bool.{true, not}
use Rattle.std.proofs.Math.ListN.{get_or}
use Rattle.std.proofs.Math.Dec.{T}
use Rattle.std.proofs.Math.IntN.{pos}
use Rattle.foundations.specs.Tests.{same?, less?}
use Rattle.foundations.specs.Sums.{pick, lsum}
use Rattle.foundations.specs.Members.{mem, mem_occ, get_d_mem, place, place_low, del}
use Rattle.model.specs.Limits.{no_vertex, degree_limit, vertex_limit}
use Rattle.model.specs.Weights.{Weight, some}
use Rattle.model.specs.Tree.{count}
use Rattle.model.specs.Graph.{neighbours}
use Rattle.model.specs.Order.{children}
use Rattle.model.specs.Values.{best, branch, recalled, Subproblem}
use Rattle.trees.specs.Neighbours.{mem_adjacent, once_neighbours}
use Rattle.trees.specs.Rooted.{once_children}
use Rattle.subtrees.specs.Matching.{Assign, assign_ext}
use Rattle.assignment.specs.Matching.{at, cell, out_of, gained}
use Rattle.assignment.specs.State.{Answer, Partner}
use Rattle.plan.specs.Plan.{neighbour_in, degree_in, Ready, Pair}
use Rattle.plan.specs.Numbers.{SlotAt, ready_accepted}
use Rattle.solver.specs.Choice.{mate_in, has_mate, ChoiceAt}
use Rattle.assignment.specs.State.{Dual}
use Rattle.solver.specs.Exact.{Gains, solved_dual, left_of, row_gain, column_of, Chosen, chosen_assign, chosen_best}
use Rattle.solver.specs.Heaviest.{Table, Stands, stands_gains}
use Rattle.plan.specs.Pairs.{gain_at, Filled, children_few, degree_few}

pub record Choice (w : ℕ → ℕ → Weight) (s : ℕ) (cs A mates : List ℕ) : Type 0 where
  pub gain : ℕ → ℕ
  pub assigned : Assign w cs (del s A) (has_mate cs mates) (mate_in cs mates) (λ c. pos (gain c))
  pub heaviest : best w cs (del s A) ≡ some (lsum cs (λ c. pick (has_mate cs mates c) (pos (gain c))))

-- row i's mate, by the column p that it has in the answer
unfoldable pub name_or : (ℕ → ℕ) → ℕ → ℕ
name_or names p = cond (ltb p degree_limit) (names p) no_vertex

pub record MateIs (l : ℕ) (g : ℕ → ℕ → ℕ) (m : ℕ → ℕ) (names : ℕ → ℕ) (i x : ℕ) : Type 0 where
  pub column : ℕ
  pub partner : Partner l g m i column
  pub name : x ≡ name_or names column

pub record MatesTo (l : ℕ) (g : ℕ → ℕ → ℕ) (m : ℕ → ℕ) (names : ℕ → ℕ) (i : ℕ) (mates : List ℕ) : Type 0 where
  pub long : length mates ≡ degree_limit
  pub get : (j : ℕ) → j < i → MateIs l g m names j (get_or mates j 0)

pub mates_none : (l : ℕ) (g : ℕ → ℕ → ℕ) (m : ℕ → ℕ) (names : ℕ → ℕ) (mates : List ℕ) → length mates ≡ degree_limit → MatesTo l g m names 0 mates
mates_none l g m names mates e = record { long = e; get = λ j h. absurd (not-suc-le-zero h) }

pub mates_more : (l : ℕ) (g : ℕ → ℕ → ℕ) (m : ℕ → ℕ) (names : ℕ → ℕ) (i p x : ℕ) (mates : List ℕ) → i < degree_limit → MatesTo l g m names i mates → Partner l g m i p → x ≡ name_or names p → MatesTo l g m names (i + 1) (set mates i x)
mates_more l g m names i p x mates h M P e =
    let n : length mates ≡ degree_limit = M.long in
    record {
      long = length-set mates i x ∙ n;
      get = λ j b. ⊎_elim
          (λ q. rw (q, get_or-set_same mates i x 0 (omega arith)) (record { column = p; partner = P; name = e }))
          (λ q. rw (get_or-set_other mates i j x 0 q) (M.get j (omega arith)))
          (same? j i);
    }

-- the rows' mates in a matching that duals show to be heaviest
pub record Mates (k l : ℕ) (h : ℕ → ℕ → ℕ) (names : ℕ → ℕ) (mates : List ℕ) : Type 0 where
  pub y : List ℕ
  pub z : List ℕ
  pub m : List ℕ
  pub answer : Answer k l (h) y z m
  pub each : MatesTo l (h) (at m) names k mates

-- a mate is a name, and its row has a gain; no mate, and it has none
module _ (l : ℕ) (g : ℕ → ℕ → ℕ) (m : ℕ → ℕ) (names : ℕ → ℕ) (A : List ℕ) (named : (j : ℕ) → j < l → names j ≡ get_or A j 0) (vertex : (j : ℕ) → j < l → get_or A j 0 < vertex_limit) where
  mate_some : (i x : ℕ) → MateIs l g m names i x → x ≢ no_vertex → (0 < gained l g m i) × (x ≡ get_or A (m i) 0)
  unfolding name_or gained
  mate_some i x M n = ⊎_elim
      (λ lt. let p = M.partner.pair lt in
      let e : M.column ≡ m i = p.0 in
      let low : m i < l = subst (λ (y : ℕ). y < l) e p.1 in
      (rw (lt-ltb (m i) l low) (subst (λ (y : ℕ). 0 < g i y) e p.2), M.name ∙ rw (lt-ltb M.column degree_limit lt) (named M.column p.1 ∙ ap (λ (y : ℕ). get_or A y 0) e)))
      (λ le. absurd (n (M.name ∙ rw (le-ltb M.column degree_limit le))))
      (less? M.column degree_limit)

  mate_none : (i x : ℕ) → MateIs l g m names i x → x ≡ no_vertex → gained l g m i ≡ 0
  unfolding name_or
  mate_none i x M e = ⊎_elim
      (λ lt. let p = M.partner.pair lt in
      let q : x ≡ get_or A M.column 0 = M.name ∙ rw (lt-ltb M.column degree_limit lt) (named M.column p.1) in
      let v : get_or A M.column 0 < vertex_limit = vertex M.column p.1 in
      absurd (omega arith))
      (λ le. M.partner.none le)
      (less? M.column degree_limit)

module _ {k l : ℕ} (c : ℕ) (g : List ℕ) {names : ℕ → ℕ} {mates : List ℕ} (A' : Mates k l (out_of c (cell g)) names mates)
    {w : ℕ → ℕ → Weight} {s : ℕ} {cs A : List ℕ} (S : Stands k l c w s cs A (cell g)) (named : (j : ℕ) → j < l → names j ≡ get_or A j 0) (vertex : (j : ℕ) → j < l → get_or A j 0 < vertex_limit) where
  abbrev h : ℕ → ℕ → ℕ
  h = out_of c (cell g)

  abbrev m : List ℕ
  m = A'.m

  left_gains : Gains w s cs A h
  left_gains = stands_gains S

  dual : Dual (length cs) (length A) h (at A'.y) (at A'.z) (at m)
  dual = rw (S.rows, S.columns) (solved_dual A'.answer.solved)

  row_of : (c : ℕ) → T (mem c cs) → MateIs l h (at m) names (place c cs) (mate_in cs mates c)
  unfolding mate_in
  row_of c t = A'.each.get (place c cs) (let h = place_low c cs (mem_occ c cs t) in omega (arith, S.rows))

  has_name : (c : ℕ) → T (has_mate cs mates c) → mate_in cs mates c ≢ no_vertex
  unfolding has_mate
  has_name c o e = subst (λ (b : Bool). T (not b)) (eq-eqb (mate_in cs mates c) no_vertex e) o

  no_name : (c : ℕ) → has_mate cs mates c ≡ false → mate_in cs mates c ≡ no_vertex
  unfolding has_mate
  no_name c e = ⊎_elim (λ q. q) (λ q. let t : not (eqb (mate_in cs mates c) no_vertex) ≡ true = rw (ne_eqb (mate_in cs mates c) no_vertex q) in absurd (true≢false (sym t ∙ e))) (same? (mate_in cs mates c) no_vertex)

  some_of : (c : ℕ) → T (mem c cs) → T (has_mate cs mates c) → (0 < gained l h (at m) (place c cs)) × (mate_in cs mates c ≡ get_or A (at m (place c cs)) 0)
  some_of c t o = mate_some l h (at m) names A named vertex (place c cs) (mate_in cs mates c) (row_of c t) (has_name c o)

  mates_chosen : Chosen cs A h (at m) (has_mate cs mates)
  unfolding row_gain
  mates_chosen = record {
    yes = λ c t o. rw S.columns (some_of c t o).0;
    no = λ c t e. rw S.columns (mate_none l h (at m) names A named vertex (place c cs) (mate_in cs mates c) (row_of c t) (no_name c e));
  }

  pub mates_choice : Choice w s cs A mates
  unfolding column_of
  mates_choice = record {
    gain = row_gain cs A h (at m);
    assigned = assign_ext w cs (del s A) (has_mate cs mates) (has_mate cs mates) (mate_in cs mates) (column_of cs A (at m)) (λ c. pos (row_gain cs A h (at m) c)) (λ c t. refl) (λ c t o. (some_of c t o).1)
        (chosen_assign w s cs A h (at A'.y) (at A'.z) (at m) left_gains dual S.rows_apart S.columns_apart (has_mate cs mates) mates_chosen);
    heaviest = chosen_best w s cs A h (at A'.y) (at A'.z) (at m) left_gains dual S.rows_apart S.columns_apart (has_mate cs mates) mates_chosen;
  }

-- over the trees
choice_at : (table r f : List ℕ) (work : List ℤ) (u v s : ℕ) (mates : List ℕ) → Choice (branch table r f (recalled r f work) u v) s (children r u) (neighbours f v) mates → ChoiceAt table r f work u v s mates
choice_at table r f work u v s mates c = record {
  gain = c.gain;
  free = c.assigned.free;
  apart = c.assigned.apart;
  branches = c.assigned.weighs;
  heaviest = c.heaviest;
}

pub sub_pair : {r f : List ℕ} {u v s : ℕ} → Subproblem r f u v s → Pair r f u v
sub_pair Q = record { u_low = Q.u_low; v_low = Q.v_low }

-- what a pair's table and its choice of s come to
module _ {table r f : List ℕ} {plan : List (List ℕ)} (N : Ready table r f plan) {u v s : ℕ} (Q : Subproblem r f u v s) (work : List ℤ) (g : List ℕ) (D : Filled (length (children r u)) (length (neighbours f v)) (gain_at table r f (recalled r f work) u v) g)
    {k l c : ℕ} (ek : k ≡ length (children r u)) (el : l ≡ degree_in plan v) (L : SlotAt plan v s c) where
  columns_are : l ≡ length (neighbours f v)
  columns_are = el ∙ (N.planned.found v Q.v_low).degree

  named_as : (j : ℕ) → j < l → neighbour_in plan v j ≡ get_or (neighbours f v) j 0
  named_as j h = (N.planned.found v Q.v_low).neighbour j (let e = columns_are in omega arith)

  pub sub_table : Table k l c (cell g)
  sub_table =
      let b = columns_are in
      record {
        rows = omega (arith, children_few N (sub_pair Q));
        columns = omega (arith, degree_few N (sub_pair Q));
        choice = omega (arith, L.low);
        small = λ x y hx hy. (D.get x y (omega arith) (omega arith)).1;
      }

  sub_stands : Stands k l c (branch table r f (recalled r f work) u v) s (children r u) (neighbours f v) (cell g)
  unfolding gain_at
  sub_stands =
      let b = columns_are in
      record {
        rows = sym ek;
        columns = sym b;
        rows_apart = once_children r u;
        columns_apart = once_neighbours f v;
        left = λ j hj. left_of (neighbours f v) s c (once_neighbours f v) (omega (arith, L.low)) (λ z x hx e. L.none z x (omega (arith, el)) (named_as x (omega arith) ∙ e)) (λ x z. sym (named_as x (omega (arith, L.low))) ∙ L.here x z) j (omega arith);
        gains = λ x y hx hy. (D.get x y (omega arith) (omega arith)).0;
      }

  pub sub_choice : {mates : List ℕ} → Mates k l (out_of c (cell g)) (neighbour_in plan v) mates → ChoiceAt table r f work u v s mates
  sub_choice {mates} M = choice_at table r f work u v s mates (mates_choice c g M sub_stands named_as (λ j hj.
      let few : count f ≤ vertex_limit = (ready_accepted N).found.ends.few in
      let b = columns_are in
      let a : get_or (neighbours f v) j 0 < count f = (mem_adjacent f v (get_or (neighbours f v) j 0) (get_d_mem (neighbours f v) j (omega arith))).0 in
      omega arith))
