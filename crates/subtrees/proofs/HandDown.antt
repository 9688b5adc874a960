-- Partners handed down from the top: a heaviest choice at each pair reads out a mapping of the top's value. Assumes nothing.
use Rattle.std.specs.Prelude.{◌≡◌, ◌⊎◌, ◌≢◌, Bool, cond, ℤ, ◌+ℤ◌, eqb}
use Rattle.std.proofs.Math.Path.{refl, ap, subst}
use Rattle.std.proofs.Common.{sym, ◌∙◌, inl, inr, arith, not-suc-le-zero}
use Rattle.std.proofs.Math.Logic.{⊎_elim}
use Rattle.std.proofs.Math.Bool.{true, false}
use Prim.Native.Nat.{ℕ, zero, suc, ◌≤◌, ◌<◌}
use Rattle.std.proofs.Math.Dec.{T}
use borrow.Author.Tests.{ne_eqb}
use Rattle.foundations.specs.Members.{mem, del_mem, lsum_ext}
use Rattle.foundations.specs.Sums.{pick}
use Rattle.foundations.specs.Tests.{same, eqb_same}
use Rattle.model.specs.Values.{best}
use Rattle.model.specs.Weights.{Weight, some, plus_w}
use Rattle.subtrees.proofs.Bound.{own_s, own_cases, own_inner}
use Rattle.subtrees.specs.Connected.{inner_of, of_inner, set_ind}
use Rattle.subtrees.specs.Matching.{Assign, gain, Attained, best_attained, assign_ext}
use Rattle.subtrees.specs.Problem.{Instance, Mapping, weight_of, Choice, choice_self, choice_near, branch_w, available, Solved}
use Rattle.subtrees.specs.Quick.{FoundRooting}
use Rattle.subtrees.proofs.Readout.{readout_is_mapping, readout_value, Chosen, Reads, reads_readout, reads_tight}
use Rattle.subtrees.specs.Rooted.{inner}
use Rattle.subtrees.specs.WeightLaws.{plus_some, some_inj}

-- where a vertex is put: nowhere, or with a partner and the s of its subproblem
data Spot : Type 0 where
  off : Spot
  put : ℕ → ℕ → Spot

abbrev is_put : Spot → Bool
is_put off = false
is_put (put v s) = true

abbrev mate_of : Spot → ℕ
mate_of off = 0
mate_of (put v s) = v

-- What each pair (u, v) with s lists: `has u v s c` says that there is a branch pair of the child c, `mate u v s c` is its found vertex.
-- One that attains the heaviest matching:
record AttainsAt (P : Instance) (val : ℕ → ℕ → ℕ → Weight) (has : ℕ → ℕ → ℕ → ℕ → Bool) (mate : ℕ → ℕ → ℕ → ℕ → ℕ) (worth : ℕ → ℕ → ℕ → ℕ → ℤ) (u v s : ℕ) : Type 0 where
  assign : Assign (branch_w P val u v) (P.children u) (available P v s) (has u v s) (mate u v s) (worth u v s)
  heaviest : best (branch_w P val u v) (P.children u) (available P v s) ≡ some (gain (P.children u) (has u v s) (worth u v s))

module _ (P : Instance) (has : ℕ → ℕ → ℕ → ℕ → Bool) (mate : ℕ → ℕ → ℕ → ℕ → ℕ) where
  unfoldable give : Bool → ℕ → ℕ → Spot
  give true x v = put x v
  give false x v = off

  unfoldable next : Spot → ℕ → Spot
  next off x = off
  next (put v s) x = give (has (P.parent x) v s x) (mate (P.parent x) v s x) v

  -- the spots below t, whose own is i
  spot_to : ℕ → Spot → ℕ → ℕ → Spot
  spot_to t i zero x = off
  spot_to t i (suc k) x = cond (eqb x t) i (cond (eqb x 0) off (next (spot_to t i k (P.parent x)) x))

  -- enough steps are enough
  spot_enough : (t : ℕ) (i : Spot) (k j x : ℕ) → x < P.n → P.depth x < k → P.depth x < j → spot_to t i k x ≡ spot_to t i j x
  unfolding spot_to
  spot_enough t i zero j x l h h' = absurd (not-suc-le-zero h)
  spot_enough t i (suc k) zero x l h h' = absurd (not-suc-le-zero h')
  spot_enough t i (suc k) (suc j) x l h h' = ⊎_elim
      (λ e. rw e.1)
      (λ e. let r = P.rooted.up x l e.0 in rw (spot_enough t i k j (P.parent x) r.0 (omega (arith, r.1)) (omega (arith, r.1))))
      (same x 0)

  -- the spot of x in the read-out from t, whose own spot is i
  spot : ℕ → Spot → ℕ → Spot
  spot t i x = spot_to t i (suc (P.depth x)) x

  spot_top : (t : ℕ) (i : Spot) → spot t i t ≡ i
  unfolding spot spot_to
  spot_top t i = rw (eqb_same t)

  spot_root : (t : ℕ) (i : Spot) → 0 ≢ t → spot t i 0 ≡ off
  unfolding spot spot_to
  spot_root t i h = rw (ne_eqb 0 t h)

  spot_next : (t : ℕ) (i : Spot) (x : ℕ) → x < P.n → x ≢ t → x ≢ 0 → spot t i x ≡ next (spot t i (P.parent x)) x
  unfolding spot spot_to
  spot_next t i x l h z = let r = P.rooted.up x l z in
      rw (ne_eqb x t h, ne_eqb x 0 z) (ap (λ (s : Spot). next s x) (spot_enough t i (P.depth x) (suc (P.depth (P.parent x))) (P.parent x) r.0 r.1 (omega arith)))

module _ (P : Instance) (has : ℕ → ℕ → ℕ → ℕ → Bool) (mate : ℕ → ℕ → ℕ → ℕ → ℕ) (t v₀ : ℕ) (lt : t < P.n) (lv : v₀ < P.m) where
  abbrev sp : ℕ → Spot
  sp x = spot P has mate t (put v₀ v₀) x

  unfoldable handed_on : ℕ → Bool
  handed_on x = is_put (sp x)

  unfoldable handed_to : ℕ → ℕ
  handed_to x = mate_of (sp x)

  sp_t : sp t ≡ put v₀ v₀
  sp_t = spot_top P has mate t (put v₀ v₀)

  sp_0 : 0 ≢ t → sp 0 ≡ off
  sp_0 = spot_root P has mate t (put v₀ v₀)

  abbrev nextₜ : Spot → ℕ → Spot
  nextₜ = next P has mate

  abbrev giveₜ : Bool → ℕ → ℕ → Spot
  giveₜ = give P has mate

  sp_next : (x : ℕ) → x < P.n → x ≢ t → x ≢ 0 → sp x ≡ nextₜ (sp (P.parent x)) x
  sp_next = spot_next P has mate t (put v₀ v₀)

  -- where a vertex that is no top stands
  record Stands (x : ℕ) : Type 0 where
    v : ℕ
    s : ℕ
    zero_not : x ≢ 0
    above : sp (P.parent x) ≡ put v s
    spot_is : sp x ≡ put (mate (P.parent x) v s x) v

  stands : (x : ℕ) → x < P.n → x ≢ t → T (handed_on x) → Stands x
  unfolding handed_on handed_to next give
  stands x l h o = ⊎_elim
      (λ e. absurd (subst (λ (s : Spot). T (is_put s)) (ap sp e.0 ∙ sp_0 (λ q. h (e.0 ∙ q))) o))
      (λ e. go e.0 (sp (P.parent x)) refl (sp_next x l h e.0))
      (same x 0)
    where
      last : (z : x ≢ 0) (v s : ℕ) → sp (P.parent x) ≡ put v s → (b : Bool) → sp x ≡ giveₜ b (mate (P.parent x) v s x) v → Stands x
      last z v s a true e = record { v = v; s = s; zero_not = z; above = a; spot_is = e }
      last z v s a false e = absurd (subst (λ (s : Spot). T (is_put s)) e o)

      go : x ≢ 0 → (s : Spot) → sp (P.parent x) ≡ s → sp x ≡ nextₜ s x → Stands x
      go z off a e = absurd (subst (λ (s : Spot). T (is_put s)) e o)
      go z (put v s) a e = last z v s a (has (P.parent x) v s x) e

  on_put : (x v s : ℕ) → sp x ≡ put v s → T (handed_on x)
  unfolding handed_on
  on_put x v s e = subst (λ (y : Spot). T (is_put y)) (sym e) tt

  to_put : (x v s : ℕ) → sp x ≡ put v s → handed_to x ≡ v
  unfolding handed_to
  to_put x v s e = ap mate_of e

  only : (x : ℕ) → x < P.n → T (handed_on x) → (x ≡ t) ⊎ T (inner P.parent handed_on x)
  only x l o = ⊎_elim
      (λ e. inl e.0)
      (λ e. let h = stands x l e.0 o in inr (inner_of P.parent handed_on x o h.zero_not (on_put (P.parent x) h.v h.s h.above)))
      (same x t)

  deep : (x : ℕ) → x < P.n → T (handed_on x) → P.depth t ≤ P.depth x
  deep = set_ind P.n P.parent P.depth P.rooted.up handed_on t only (λ x. P.depth t ≤ P.depth x) (omega arith)
      (λ c l i h. omega (arith, (P.rooted.up c l (of_inner P.parent handed_on c i).1).1))

  -- a child of a vertex of the set is not the top
  not_t : (u c : ℕ) → u < P.n → T (handed_on u) → c < P.n → c ≢ 0 → P.parent c ≡ u → c ≢ t
  not_t u c l o k z e q = clash (deep u l o) (P.rooted.up c k z).1 (ap P.depth e) (ap P.depth q)
    where
      clash : P.depth t ≤ P.depth u → P.depth (P.parent c) < P.depth c → P.depth (P.parent c) ≡ P.depth u → P.depth c ≡ P.depth t → ⊥
      clash a b d e = omega arith

  no_inner : ¬ (T (inner P.parent handed_on t))
  no_inner i = let j = of_inner P.parent handed_on t i in not_t (P.parent t) t (P.rooted.up t lt j.1).0 j.2 lt j.1 refl refl

  -- a vertex's spot says its partner and its own s
  abbrev own : ℕ → ℕ
  own u = own_s P.parent handed_on handed_to u

  to_t : handed_to t ≡ v₀
  to_t = to_put t v₀ v₀ sp_t

  own_t : own t ≡ v₀
  own_t = ⊎_elim (λ q. absurd (no_inner q.0)) (λ q. q.1 ∙ to_t) (own_cases P.parent handed_on handed_to t)

  spot_own : (u : ℕ) → u < P.n → T (handed_on u) → sp u ≡ put (handed_to u) (own u)
  spot_own u l o = ⊎_elim
      (λ q. let j = of_inner P.parent handed_on u q.0 in
      let h = stands u l (not_t (P.parent u) u (P.rooted.up u l j.1).0 j.2 l j.1 refl) o in
      h.spot_is ∙ ap (λ (x : ℕ). put x h.v) (sym (to_put u _ h.v h.spot_is)) ∙ ap (put (handed_to u)) (sym (to_put (P.parent u) h.v h.s h.above) ∙ sym q.1))
      (λ q. ⊎_elim
      (λ e. subst (λ (x : ℕ). sp x ≡ put (handed_to x) (own x)) (sym e) (sp_t ∙ ap (λ (x : ℕ). put x v₀) (sym to_t) ∙ ap (put (handed_to t)) (sym own_t)))
      (λ i. absurd (q.0 i))
      (only u l o))
      (own_cases P.parent handed_on handed_to u)

  -- the spot of a child
  child_spot : (u c : ℕ) → u < P.n → T (handed_on u) → T (mem c (P.children u)) → sp c ≡ giveₜ (has u (handed_to u) (own u) c) (mate u (handed_to u) (own u) c) (handed_to u)
  unfolding next
  child_spot u c l o m =
      let k = P.rooted.child u c l m in
      subst (λ (x : ℕ). sp c ≡ giveₜ (has x (handed_to x) (own x) c) (mate x (handed_to x) (own x) c) (handed_to x)) k.2
      (sp_next c k.0 (not_t u c l o k.0 k.1 k.2) k.1
      ∙ ap (λ (y : Spot). nextₜ y c) (spot_own (P.parent c) (P.rooted.up c k.0 k.1).0 (subst (λ (x : ℕ). T (handed_on x)) (sym k.2) o)))

  child_on : (u c : ℕ) → u < P.n → T (handed_on u) → T (mem c (P.children u)) → handed_on c ≡ has u (handed_to u) (own u) c
  unfolding handed_on give
  child_on u c l o m = ap is_put (child_spot u c l o m) ∙ same_on (has u (handed_to u) (own u) c)
    where
      same_on : (b : Bool) → is_put (giveₜ b (mate u (handed_to u) (own u) c) (handed_to u)) ≡ b
      same_on true = refl
      same_on false = refl

  child_to : (u c : ℕ) → u < P.n → T (handed_on u) → T (mem c (P.children u)) → T (handed_on c) → handed_to c ≡ mate u (handed_to u) (own u) c
  unfolding handed_to give
  child_to u c l o m p = ap mate_of (child_spot u c l o m) ∙ same_to (has u (handed_to u) (own u) c) (subst T (child_on u c l o m) p)
    where
      same_to : (b : Bool) → T b → mate_of (giveₜ b (mate u (handed_to u) (own u) c) (handed_to u)) ≡ mate u (handed_to u) (own u) c
      same_to true h = refl
      same_to false h = absurd h

  own_up : (c : ℕ) → T (inner P.parent handed_on c) → own c ≡ handed_to (P.parent c)
  own_up c i = own_inner P.parent handed_on handed_to c i

  -- what a child stands on
  record Child (c : ℕ) : Type 0 where
    le : P.parent c < P.n
    up_on : T (handed_on (P.parent c))
    child : T (mem c (P.children (P.parent c)))
    took : T (has (P.parent c) (handed_to (P.parent c)) (own (P.parent c)) c)
    with : handed_to c ≡ mate (P.parent c) (handed_to (P.parent c)) (own (P.parent c)) c

  child_facts : (c : ℕ) → c < P.n → T (inner P.parent handed_on c) → Child c
  child_facts c l i =
      let j = of_inner P.parent handed_on c i in let r = P.rooted.up c l j.1 in let m = P.rooted.child_of_lem c l j.1 in
      record { le = r.0; up_on = j.2; child = m; took = subst T (child_on (P.parent c) c r.0 j.2 m) j.0; with = child_to (P.parent c) c r.0 j.2 m j.0 }

  -- a choice that attains the values reads out a mapping of the top's value
  module _ (val : ℕ → ℕ → ℕ → Weight) (S : Solved P val) (worth : ℕ → ℕ → ℕ → ℕ → ℤ)
      (A : (u v s : ℕ) → u < P.n → v < P.m → Choice P v s → AttainsAt P val has mate worth u v s) (z₀ : ℤ) (e₀ : val t v₀ v₀ ≡ some z₀) where
    record Good (u : ℕ) : Type 0 where
      small : handed_to u < P.m
      choice : Choice P (handed_to u) (own u)
      y : ℤ
      allowed : val u (handed_to u) (own u) ≡ some y

    chosen : (u : ℕ) → u < P.n → T (handed_on u) → Good u → Chosen P val handed_on handed_to u
    chosen u l o h =
        let r = A u (handed_to u) (own u) l h.small h.choice in
        let x = gain (P.children u) (has u (handed_to u) (own u)) (worth u (handed_to u) (own u)) in
        let e : val u (handed_to u) (own u) ≡ plus_w (P.W u (handed_to u)) (some x) = S.is u (handed_to u) (own u) l h.small h.choice ∙ ap (plus_w (P.W u (handed_to u))) r.heaviest in
        let p = plus_some (P.W u (handed_to u)) (some x) h.y (sym e ∙ h.allowed) in
        record {
          z = p.0;
          g = worth u (handed_to u) (own u);
          vertex = p.2;
          assign = assign_ext _ (P.children u) (available P (handed_to u) (own u)) handed_on (has u (handed_to u) (own u)) handed_to (mate u (handed_to u) (own u)) (worth u (handed_to u) (own u)) (λ c m. child_on u c l o m) (λ c m q. child_to u c l o m q) r.assign;
          value = e ∙ ap (λ (x : Weight). plus_w x (some (gain (P.children u) (has u (handed_to u) (own u)) (worth u (handed_to u) (own u))))) p.2
              ∙ ap (λ (x : ℤ). some (p.0 +ℤ x)) (lsum_ext (P.children u) (λ c. pick (has u (handed_to u) (own u) c) (worth u (handed_to u) (own u) c)) (λ c. pick (handed_on c) (worth u (handed_to u) (own u) c)) (λ c m. ap (λ (b : Bool). pick b (worth u (handed_to u) (own u) c)) (sym (child_on u c l o m))));
        }

    good : (u : ℕ) → u < P.n → T (handed_on u) → Good u
    good = set_ind P.n P.parent P.depth P.rooted.up handed_on t only Good
        (record { small = rw to_t lv; choice = choice_self P (handed_to t) (own t) (own_t ∙ sym to_t); y = z₀; allowed = rw (to_t, own_t) e₀ })
        (λ c l i h. let j = of_inner P.parent handed_on c i in
        let k = child_facts c l i in
        let a = (chosen (P.parent c) k.le k.up_on h).assign in
        let f = P.symmetric (handed_to (P.parent c)) (handed_to c) h.small (del_mem (handed_to c) (own (P.parent c)) (P.neighbours (handed_to (P.parent c))) (a.free c k.child j.0)).0 in
        let w = plus_some (P.E (P.parent c) c (handed_to (P.parent c)) (handed_to c)) (val c (handed_to c) (handed_to (P.parent c))) _ (a.weighs c k.child j.0) in
        let s = own_up c i in
        record { small = f.0; choice = choice_near P (handed_to c) (own c) (rw s f.1); y = w.1; allowed = rw s w.3 })

    choice_reads : Reads P val t handed_on handed_to
    choice_reads = record { root = (lt, on_put t v₀ v₀ sp_t, rw to_t lv, no_inner); only = only; chosen = λ u l o. chosen u l o (good u l o) }

    choice_mapping : (fpar fdep : ℕ → ℕ) → FoundRooting P fpar fdep → Mapping P handed_on handed_to × (weight_of P handed_on handed_to ≡ z₀)
    choice_mapping fpar fdep F = (
      readout_is_mapping P fpar fdep F t handed_on handed_to (reads_readout P val t handed_on handed_to choice_reads),
      some_inj _ _ (sym (readout_value P fpar fdep F t handed_on handed_to (reads_readout P val t handed_on handed_to choice_reads) val (reads_tight P val t handed_on handed_to choice_reads)) ∙ ap (λ (x : ℕ). val t x x) to_t ∙ e₀),
    )

-- the lower bound: an allowed value at s = v is the weight of a mapping
pub attained : (P : Instance) (val : ℕ → ℕ → ℕ → Weight) → Solved P val → (t v₀ : ℕ) → t < P.n → v₀ < P.m → (z₀ : ℤ) → val t v₀ v₀ ≡ some z₀ →
    (fpar fdep : ℕ → ℕ) → FoundRooting P fpar fdep → (on : ℕ → Bool) × (to : ℕ → ℕ) × Mapping P on to × (weight_of P on to ≡ z₀)
attained P val S t v₀ lt lv z₀ e₀ fpar fdep F =
    let r = choice_mapping P has mate t v₀ lt lv val S worth (λ u v s l k h. record { assign = (choice u v s).assign; heaviest = (choice u v s).heaviest }) z₀ e₀ fpar fdep F in
    (handed_on P has mate t v₀ lt lv, handed_to P has mate t v₀ lt lv, r.0, r.1)
  where
    choice : (u v s : ℕ) → Attained (branch_w P val u v) (P.children u) (available P v s)
    choice u v s = best_attained (branch_w P val u v) (P.children u) (available P v s) (P.rooted.once u)

    has : ℕ → ℕ → ℕ → ℕ → Bool
    has u v s = (choice u v s).on

    mate : ℕ → ℕ → ℕ → ℕ → ℕ
    mate u v s = (choice u v s).to

    worth : ℕ → ℕ → ℕ → ℕ → ℤ
    worth u v s = (choice u v s).g
