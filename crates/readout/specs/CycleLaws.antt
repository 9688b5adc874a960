-- The steps of reading out in the terms of the code, for inputs that items 1 to 12, 25 and 26 let pass. Assumes nothing.
use Rattle.std.specs.Prelude.{◌≡◌, ◌≢◌, List, ◌++◌, ℕ, ◌+◌, ◌-◌, ◌≤◌, ◌<◌, get_or, length, set, take, drop, replicate, ℤ}
use Rattle.std.proofs.Common.{sym, ap, ◌∙◌, subst, arith, length-append, length-drop, take_at, drop_at}
use Rattle.std.proofs.lemmas.List.{length-replicate, get_or-replicate}
use Rattle.std.proofs.Math.ListN.{get_or-append}
use Rattle.foundations.specs.Members.{mem_here}
use Rattle.model.specs.Calls.{input_item}
use Rattle.model.specs.Graph.{neighbours}
use Rattle.model.specs.Limits.{no_vertex, degree_limit}
use Rattle.model.specs.Mapping.{partner}
use Rattle.model.specs.Order.{children}
use Rattle.model.specs.Tree.{count}
use Rattle.model.specs.Values.{Subproblem}
use Rattle.formats.specs.Inputs.{input_accepted}
use Rattle.subtrees.specs.Accepted.{recorded_tree, found_tree}
use Rattle.subtrees.proofs.Optimal.{no_no_vertex}
use Rattle.subtrees.specs.Trees.{IsTree}
use Rattle.solver.specs.Choice.{ChoiceAt}
use Rattle.plan.specs.Plan.{child_count_in, child_in, Ready}
use Rattle.readout.specs.Read.{Read, Reading, Room}
use Rattle.readout.specs.ReadSteps.{read_none, reading_start, reading_more, reading_done, read_front, read_rest, lies_low, room_deep, room_child, child_subproblem}

-- the n children of u, and in the same places their mates below (u, v, s)
pub record BranchPairs (table r f : List ℕ) (work : List ℤ) (u v s n : ℕ) (names : ℕ → ℕ) (mates : List ℕ) : Type 0 where
  pub used : n ≡ length (children r u)
  pub few : n ≤ degree_limit
  pub named : (i : ℕ) → i < n → names i ≡ get_or (children r u) i 0
  pub choice : ChoiceAt table r f work u v s mates

-- the first bytes of q are what is read out from (u, v) at the top, and the rest is p's
pub record ReadOut (table r f : List ℕ) (work : List ℤ) (u v : ℕ) (p q : List ℕ) : Type 0 where
  pub size : length q ≡ length p
  pub read : Read table r f work u v v (replicate (count r) no_vertex) (take (count r) q)
  pub rest : drop (count r) q ≡ drop (count r) p

-- what is cleared keeps its size
pub clear_size : (a : ℕ) (d : List ℕ) (i : ℕ) → i ≤ length d → length (replicate i a ++ drop i d) ≡ length d
clear_size a d i h = length-append (replicate i a) (drop i d) ∙ omega (arith, length-replicate i a, length-drop i d)

-- by the plan
pub branch_pairs : {table r f : List ℕ} {plan : List (List ℕ)} {work : List ℤ} {u v s n : ℕ} {mates : List ℕ} → Ready table r f plan → u < count r → n ≡ child_count_in plan u → ChoiceAt table r f work u v s mates → BranchPairs table r f work u v s n (child_in plan u) mates
branch_pairs {n = n} N lu e C =
    let R = N.planned.recorded _ lu in
    let a : n ≡ length (children _ _) = e ∙ R.child_count in
    record { used = a; few = let b = R.few in omega arith; named = λ i h. R.child i (omega arith); choice = C }

module _ (table r f : List ℕ) (work : List ℤ) (passes : input_item table r f ≡ 0) where
  abbrev tr : IsTree r
  tr = recorded_tree (input_accepted table r f passes)

  abbrev tf : IsTree f
  tf = found_tree (input_accepted table r f passes)

  pub depth_some : {u d : ℕ} {p : List ℕ} → Room r u d p → 1 ≤ d
  depth_some R = room_deep r tr _ _ _ R

  pub branch_none : {c d x s : ℕ} {p : List ℕ} → Room r c d p → x ≡ no_vertex → Read table r f work c x s p p
  branch_none {c} {d} {x} {s} {p} R e = subst (λ (y : ℕ). Read table r f work c y s p p) (sym e) (read_none r tr table f work c s p R.blank)

  pub pair_start : {u d v : ℕ} {mates p q : List ℕ} → q ≡ set p u v → Room r u d p → Reading table r f work u v mates p 0 q
  pair_start {u} {d} {v} {mates} {p} {q} e R =
      let a = R.low in
      let b = R.long in
      subst (λ (m : List ℕ). Reading table r f work u v mates p 0 m) (sym e) (reading_start r tr table f work u v mates p a (omega arith) R.blank)

  module _ {u v s d n : ℕ} {names : ℕ → ℕ} {mates p q : List ℕ} {i : ℕ} (R : Room r u d p) (B : BranchPairs table r f work u v s n names mates) (S : Reading table r f work u v mates p i q) where
    pub pair_done : n ≤ i → Subproblem r f u v s → Read table r f work u v s p q
    pair_done h P = let e = B.used in reading_done r tr table f work u v mates p R.low s i q (omega arith) P (no_no_vertex table r f tr tf v P.v_low) B.choice S

    module _ (l : i < n) where
      in_children : i < length (children r u)
      in_children = let e = B.used in omega arith

      pub branch_room : Room r (names i) (d - 1) q
      branch_room = subst (λ (c : ℕ). Room r c (d - 1) q) (sym (B.named i l)) (room_child r tr table f work u v d i mates p q R in_children S)

      pub branch_subproblem : get_or mates i 0 ≢ no_vertex → Subproblem r f (names i) (get_or mates i 0) v
      branch_subproblem h = subst (λ (c : ℕ). Subproblem r f c (get_or mates i 0) v) (sym (B.named i l)) (child_subproblem r tr f tf table work u v s i mates R.low in_children B.choice h)

      pub branch_more : {q' : List ℕ} → Read table r f work (names i) (get_or mates i 0) v q q' → Reading table r f work u v mates p (i + 1) q'
      branch_more {q'} D = reading_more r tr table f work u v mates p R.low i q q' in_children S (subst (λ (c : ℕ). Read table r f work c (get_or mates i 0) v q q') (B.named i l) D)

  -- ---- the whole

  pub top_subproblem : {u v : ℕ} → u < count r → v < count f → Subproblem r f u v v
  top_subproblem {u} {v} lu lv = record { u_low = lu; v_low = lv; s_in = mem_here v (neighbours f v) }

  module _ (u n : ℕ) (p q : List ℕ) (lu : u < count r) (e : n ≡ count r) (l : count r ≤ length p) (c : q ≡ replicate n no_vertex ++ drop n p) where
    cleared : q ≡ replicate (count r) no_vertex ++ drop (count r) p
    cleared = c ∙ ap (λ (k : ℕ). replicate k no_vertex ++ drop k p) e

    cleared_size : length q ≡ length p
    cleared_size = ap length cleared ∙ clear_size no_vertex p (count r) l

    pub top_room : Room r u n q
    top_room = record {
      low = lu;
      blank = λ x h. ap (λ (m : List ℕ). partner m x) cleared
          ∙ get_or-append (replicate (count r) no_vertex) (drop (count r) p) 0 x (subst (λ (k : ℕ). x < k) (sym (length-replicate (count r) no_vertex)) (lies_low r tr lu h))
          ∙ get_or-replicate (count r) x no_vertex 0 (lies_low r tr lu h);
      long = let g = cleared_size in omega arith;
      deep = omega arith;
    }

    pub read_out : {v : ℕ} {m : List ℕ} → Read table r f work u v v q m → ReadOut table r f work u v p m
    read_out {v} {m} R = record {
      size = R.size ∙ cleared_size;
      read = subst (λ (k : List ℕ). Read table r f work u v v k (take (count r) m)) (ap (take (count r)) cleared ∙ take_at (replicate (count r) no_vertex) (drop (count r) p) (count r) (length-replicate (count r) no_vertex))
          (read_front r tr table f work u v v q m lu (let g = cleared_size in omega arith) R);
      rest = read_rest r tr table f work u v v q m lu R ∙ ap (drop (count r)) cleared ∙ drop_at (replicate (count r) no_vertex) (drop (count r) p) (count r) (length-replicate (count r) no_vertex);
    }
