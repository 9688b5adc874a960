-- The bound: no mapping weighs more than 0 and the value of its top, for any values that bound. Put X u = the value of u's own
-- subproblem; at each mapped u its pair's weight and what its mapped children add is at most X u; summed over u, each X but the top's
-- stands on both sides. Assumes nothing.
use Rattle.std.specs.Prelude.{◌≡◌, refl, ◌⊎◌, ◌≢◌, Bool, true, false, ℕ, ◌<◌, ℤ, ◌+ℤ◌, ◌≤ℤ◌}
use Rattle.std.proofs.Common.{sym, ◌∙◌, arith}
use Rattle.std.proofs.Math.Path.{ap, subst}
use Rattle.std.proofs.Math.Logic.{inl, inr, ⊎_elim}
use Rattle.std.proofs.Math.IntN.{pos}
use Rattle.std.proofs.Math.Dec.{T}
use Rattle.foundations.specs.Members.{mem, mem_del}
use Rattle.foundations.specs.Sums.{sumℤ_unique}
use Rattle.foundations.specs.Sums.{pick, lsum}
use Rattle.model.specs.Mapping.{num}
use Rattle.model.specs.Values.{best}
use Rattle.model.specs.Weights.{Weight, some, ◌⊑◌, plus_w}
use Rattle.subtrees.specs.Connected.{inner_of, of_inner, of_top, Joined, OneTop, connected_top}
use Rattle.subtrees.specs.Matching.{Assign, gain, best_bounds}
use Rattle.subtrees.specs.Problem.{Instance, Mapping, vertex_w, edge_w, weight_of, Choice, choice_self, choice_near, branch_w, available, Solved, Bounding}
use Rattle.subtrees.specs.Rooted.{inner, top, total, total_le}
use Rattle.subtrees.specs.WeightLaws.{above_some, plus_mono, some_num}

pub solved_bounding : (P : Instance) (val : ℕ → ℕ → ℕ → Weight) → Solved P val → Bounding P val
solved_bounding P val S = record { over = λ u v s l k h z e on to g a. rw (S.is u v s l k h, e) (plus_mono z (gain (P.children u) on g) (best (branch_w P val u v) (P.children u) (available P v s)) (best_bounds (branch_w P val u v) on to g (P.children u) (available P v s) (P.rooted.once u) a)) }

-- the s of u's own subproblem: the partner of u's parent, or u's own
pick_s : (ℕ → ℕ) → (ℕ → ℕ) → Bool → ℕ → ℕ
pick_s parent to true u = to (parent u)
pick_s parent to false u = to u

pub own_s : (ℕ → ℕ) → (ℕ → Bool) → (ℕ → ℕ) → ℕ → ℕ
own_s parent on to u = pick_s parent to (inner parent on u) u

pub own_cases : (parent : ℕ → ℕ) (on : ℕ → Bool) (to : ℕ → ℕ) (u : ℕ) → (T (inner parent on u) × (own_s parent on to u ≡ to (parent u))) ⊎ (¬ (T (inner parent on u)) × (own_s parent on to u ≡ to u))
unfolding own_s pick_s
own_cases parent on to u = go (inner parent on u)
  where
    go : (b : Bool) → (T b × (pick_s parent to b u ≡ to (parent u))) ⊎ (¬ (T b) × (pick_s parent to b u ≡ to u))
    go true = inl (tt, refl)
    go false = inr (λ x. x, refl)

pub own_inner : (parent : ℕ → ℕ) (on : ℕ → Bool) (to : ℕ → ℕ) (u : ℕ) → T (inner parent on u) → own_s parent on to u ≡ to (parent u)
own_inner parent on to u i = ⊎_elim (λ q. q.1) (λ q. absurd (q.0 i)) (own_cases parent on to u)

-- the value of u's own subproblem
unfoldable pub own_v : (P : Instance) → (ℕ → ℕ → ℕ → Weight) → (ℕ → Bool) → (ℕ → ℕ) → ℕ → ℤ
own_v P val on to u = num (val u (to u) (own_s P.parent on to u))

module _ (P : Instance) (val : ℕ → ℕ → ℕ → Weight) (B : Bounding P val) (on : ℕ → Bool) (to : ℕ → ℕ) (M : Mapping P on to) where
  abbrev own_choice : ℕ → ℕ
  own_choice u = own_s P.parent on to u

  abbrev own : ℕ → ℤ
  own u = own_v P val on to u

  abbrev s_cases : (u : ℕ) → (T (inner P.parent on u) × (own_choice u ≡ to (P.parent u))) ⊎ (¬ (T (inner P.parent on u)) × (own_choice u ≡ to u))
  s_cases u = own_cases P.parent on to u

  own_choice_lem : (u : ℕ) → u < P.n → T (on u) → Choice P (to u) (own_choice u)
  unfolding Joined
  own_choice_lem u l o = ⊎_elim
      (λ q. let i = of_inner P.parent on u q.0 in
      choice_near P (to u) (own_choice u) (rw q.1 ((M.joins u (P.parent u) l (P.rooted.up u l i.1).0 o i.2).0 (inr (i.1, refl)))))
      (λ q. choice_self P (to u) (own_choice u) q.1)
      (s_cases u)

  own_is : (u : ℕ) → u < P.n → T (on u) → val u (to u) (own_choice u) ≡ some (own u)
  unfolding own_v num
  own_is u l o =
      let e = some_num (P.W u (to u)) (M.vertices u l o) in
      let a = B.over u (to u) (own_choice u) l (M.inside u l o) (own_choice_lem u l o) _ e (λ x. false) to (λ x. pos 0)
      (record { free = λ c m t. absurd t; apart = λ c d s m t. absurd t; weighs = λ c m t. absurd t }) in
      let q = above_some _ (val u (to u) (own_choice u)) a in
      q.1 ∙ ap some (sym (ap num q.1))

  -- the branch pair of c with its parent
  weighs_up : (c : ℕ) → c < P.n → T (inner P.parent on c) → branch_w P val (P.parent c) (to (P.parent c)) c (to c) ≡ some (edge_w P to c +ℤ own c)
  unfolding edge_w
  weighs_up c l i =
      ap (λ (x : Weight). plus_w x (val c (to c) (to (P.parent c)))) (some_num (P.E (P.parent c) c (to (P.parent c)) (to c)) (M.edges c l i))
      ∙ ap (plus_w (some (edge_w P to c))) (ap (val c (to c)) (sym (own_inner P.parent on to c i)) ∙ own_is c l (of_inner P.parent on c i).0)

  -- no child takes the partner of u's parent
  not_back : (u c : ℕ) → u < P.n → T (on u) → T (mem c (P.children u)) → T (on c) → to c ≢ own_choice u
  not_back u c l o t p e =
      let k = P.rooted.child u c l t in
      let d = (P.rooted.up c k.0 k.1).1 in
      ⊎_elim
      (λ q. let i = of_inner P.parent on u q.0 in let r = P.rooted.up u l i.1 in
      off₁ u c k.2 d r.1 (M.apart c (P.parent u) k.0 r.0 p i.2 (e ∙ q.1)))
      (λ q. off₂ u c k.2 d (M.apart c u k.0 l p o (e ∙ q.1)))
      (s_cases u)
    where
      off₁ : (u c : ℕ) → P.parent c ≡ u → P.depth (P.parent c) < P.depth c → P.depth (P.parent u) < P.depth u → c ≡ P.parent u → ⊥
      off₁ u c a d r e = omega (arith, ap P.depth a, ap P.depth e)

      off₂ : (u c : ℕ) → P.parent c ≡ u → P.depth (P.parent c) < P.depth c → c ≡ u → ⊥
      off₂ u c a d e = omega (arith, ap P.depth a, ap P.depth e)

  own_assign : (u : ℕ) → u < P.n → T (on u) → Assign (branch_w P val u (to u)) (P.children u) (available P (to u) (own_choice u)) on to (λ c. edge_w P to c +ℤ own c)
  unfolding Joined
  own_assign u l o = record {
    free = λ c t p. let k = P.rooted.child u c l t in
        mem_del (to c) (own_choice u) (P.neighbours (to u)) ((M.joins u c l k.0 o p).0 (inl (k.1, k.2))) (not_back u c l o t p);
    apart = λ c d t t' p p'. M.apart c d (P.rooted.child u c l t).0 (P.rooted.child u d l t').0 p p';
    weighs = λ c t p. let k = P.rooted.child u c l t in
        subst (λ (x : ℕ). branch_w P val x (to x) c (to c) ≡ some (edge_w P to c +ℤ own c)) k.2
        (weighs_up c k.0 (inner_of P.parent on c p k.1 (subst (λ (x : ℕ). T (on x)) (sym k.2) o)));
  }

  one_step : (u : ℕ) → u < P.n → T (on u) → (vertex_w P to u +ℤ lsum (P.children u) (λ c. pick (on c) (edge_w P to c +ℤ own c))) ≤ℤ own u
  unfolding vertex_w
  one_step u l o = rw (own_is u l o) at (B.over u (to u) (own_choice u) l (M.inside u l o) (own_choice_lem u l o) (num (P.W u (to u))) (some_num (P.W u (to u)) (M.vertices u l o)) on to (λ c. edge_w P to c +ℤ own c) (own_assign u l o))

  -- no mapping weighs more than 0 and the value of its top
  pub upper : (weight_of P on to ≤ℤ pos 0) ⊎ ((t : ℕ) × (t < P.n) × (to t < P.m) × (some (weight_of P on to) ⊑ val t (to t) (to t)))
  unfolding weight_of OneTop
  upper =
      let a = total_le P.n P.children P.parent P.depth P.rooted on (vertex_w P to) (edge_w P to) own one_step in
      ⊎_elim
      (λ q. inl (rw q.1 at a))
      (λ q. let t = q.0 in let h = of_top P.parent on t q.2 in
      inr (t, q.1, M.inside t q.1 h.0, at_top t q.1 h.0 h.1 (rw q.3 at a)))
      (sumℤ_unique P.n (top P.parent on) own one)
    where
      one : (i j : ℕ) → i < P.n → j < P.n → T (top P.parent on i) → T (top P.parent on j) → i ≡ j
      one = connected_top P.n P.parent on M.connected

      at_top : (t : ℕ) → t < P.n → T (on t) → ¬ (T (inner P.parent on t)) → total P.n P.parent on (vertex_w P to) (edge_w P to) ≤ℤ own t → some (total P.n P.parent on (vertex_w P to) (edge_w P to)) ⊑ val t (to t) (to t)
      at_top t l o h k = ⊎_elim
          (λ q. absurd (h q.0))
          (λ q. subst (λ (x : Weight). some (total P.n P.parent on (vertex_w P to) (edge_w P to)) ⊑ x) (sym (own_is t l o) ∙ ap (val t (to t)) q.1) k)
          (s_cases t)
