-- Laws of the heaviest matching `best`: no assignment weighs more, and one weighs as much. Assumes nothing.
use Rattle.std.specs.Prelude.{◌≡◌, ◌≢◌, cond, ℤ, pos, ◌+ℤ◌, eqb}
use Rattle.std.proofs.Math.Path.{refl, sym, ap, subst}
use Rattle.std.proofs.Common.{◌∙◌, ne_eqb}
use Rattle.std.proofs.Math.Logic.{⊎_elim}
use Rattle.std.proofs.Math.Bool.{Bool, true, false}
use mathlib.Core.List.{List, [], ◌∷◌}
use Prim.Native.Nat.{ℕ}
use Rattle.std.proofs.Math.IntN.{+ℤ_idl}
use Rattle.std.proofs.Math.Dec.{T}
use Rattle.std.specs.Int.Signed.{≤ℤ_refl}
use Rattle.foundations.specs.Members.{mem, mem_here, mem_there, mem_cases, mem_ne, Distinct, del, mem_del, del_mem, lsum_ext}
use Rattle.foundations.specs.Sums.{pick, lsum}
use Rattle.foundations.specs.Tests.{eqb_same, true→T}
use Rattle.model.specs.Values.{greatest, best}
use Rattle.model.specs.Weights.{Weight, some, ◌⊑◌, plus_w}
use Rattle.subtrees.specs.WeightLaws.{⊑_trans, plus_some, above_some, plus_mono, greatest_default, greatest_at, greatest_is}

-- ---- no assignment weighs more

-- an assignment: `on c` says that c has a partner, `to c` is it, and g c is the pair's weight
pub record Assign (w : ℕ → ℕ → Weight) (cs A : List ℕ) (on : ℕ → Bool) (to : ℕ → ℕ) (g : ℕ → ℤ) : Type 0 where
  pub free : (c : ℕ) → T (mem c cs) → T (on c) → T (mem (to c) A)
  pub apart : (c d : ℕ) → T (mem c cs) → T (mem d cs) → T (on c) → T (on d) → to c ≡ to d → c ≡ d
  pub weighs : (c : ℕ) → T (mem c cs) → T (on c) → w c (to c) ≡ some (g c)

abbrev pub gain : List ℕ → (ℕ → Bool) → (ℕ → ℤ) → ℤ
gain cs on g = lsum cs (λ c. pick (on c) (g c))

module _ (w : ℕ → ℕ → Weight) (on : ℕ → Bool) (to : ℕ → ℕ) (g : ℕ → ℤ) where
  pub assign_skip : (c : ℕ) (cs A : List ℕ) → Assign w (c ∷ cs) A on to g → Assign w cs A on to g
  assign_skip c cs A a = record {
    free = λ x t. a.free x (mem_there x c cs t);
    apart = λ x y s t. a.apart x y (mem_there x c cs s) (mem_there y c cs t);
    weighs = λ x t. a.weighs x (mem_there x c cs t);
  }

  pub assign_take : (c : ℕ) (cs A : List ℕ) → mem c cs ≡ false → T (on c) → Assign w (c ∷ cs) A on to g → Assign w cs (del (to c) A) on to g
  assign_take c cs A d o a = record {
    free = λ x t p. mem_del (to x) (to c) A (a.free x (mem_there x c cs t) p)
        (λ e. mem_ne x c cs d t (a.apart x c (mem_there x c cs t) (mem_here c cs) p o e));
    apart = λ x y s t. a.apart x y (mem_there x c cs s) (mem_there y c cs t);
    weighs = λ x t. a.weighs x (mem_there x c cs t);
  }

  bounds_step : (c : ℕ) (cs A : List ℕ) (b : Bool) → on c ≡ b → Assign w (c ∷ cs) A on to g →
      some (gain cs on g) ⊑ best w cs A → (T (on c) → some (gain cs on g) ⊑ best w cs (del (to c) A)) →
      some (gain (c ∷ cs) on g) ⊑ best w (c ∷ cs) A
  unfolding best lsum
  bounds_step c cs A true e a h k =
      let o : T (on c) = true→T e in
      rw e (⊑_trans (some (g c +ℤ gain cs on g)) (plus_w (w c (to c)) (best w cs (del (to c) A))) (best w (c ∷ cs) A)
      (rw (a.weighs c (mem_here c cs) o) (plus_mono (g c) (gain cs on g) (best w cs (del (to c) A)) (k o)))
      (greatest_at A (λ v. plus_w (w c v) (best w cs (del v A))) (best w cs A) (to c) (a.free c (mem_here c cs) o)))
  bounds_step c cs A false e a h k =
      rw (e, +ℤ_idl (gain cs on g)) (⊑_trans (some (gain cs on g)) (best w cs A) (best w (c ∷ cs) A) h
      (greatest_default A (λ v. plus_w (w c v) (best w cs (del v A))) (best w cs A)))

  pub best_bounds : (cs A : List ℕ) → Distinct cs → Assign w cs A on to g → some (gain cs on g) ⊑ best w cs A
  unfolding best lsum
  best_bounds [] A d a = ≤ℤ_refl _
  best_bounds (c ∷ cs) A d a = bounds_step c cs A (on c) refl a
      (best_bounds cs A d.1 (assign_skip c cs A a))
      (λ o. best_bounds cs (del (to c) A) d.1 (assign_take c cs A d.0 o a))

-- ---- and an assignment attains it

-- f with b at c
upd {ℓ} : {X : Type ℓ} → (ℕ → X) → ℕ → X → ℕ → X
upd f c b x = cond (eqb x c) b (f x)

upd_same {ℓ} : {X : Type ℓ} (f : ℕ → X) (c : ℕ) (b : X) → upd f c b c ≡ b
unfolding upd
upd_same f c b = rw (eqb_same c)

upd_other {ℓ} : {X : Type ℓ} (f : ℕ → X) (c : ℕ) (b : X) (x : ℕ) → x ≢ c → upd f c b x ≡ f x
unfolding upd
upd_other f c b x h = rw (ne_eqb x c h)

pub record Attained (w : ℕ → ℕ → Weight) (cs A : List ℕ) : Type 0 where
  pub on : ℕ → Bool
  pub to : ℕ → ℕ
  pub g : ℕ → ℤ
  pub assign : Assign w cs A on to g
  pub heaviest : best w cs A ≡ some (gain cs on g)

module _ (w : ℕ → ℕ → Weight) (c : ℕ) (cs A : List ℕ) (d : mem c cs ≡ false) where
  att_skip : Attained w cs A → best w (c ∷ cs) A ≡ best w cs A → Attained w (c ∷ cs) A
  unfolding lsum
  att_skip r e = record {
    on = upd r.on c false;
    to = r.to;
    g = r.g;
    assign = record {
      free = λ x s t. let q = pull x s t in r.assign.free x q.0 q.1;
      apart = λ x y s s' t t'. let q = pull x s t in let q' = pull y s' t' in r.assign.apart x y q.0 q'.0 q.1 q'.1;
      weighs = λ x s t. let q = pull x s t in r.assign.weighs x q.0 q.1;
    };
    heaviest = e ∙ r.heaviest ∙ ap some (sym (
        ap (λ (b : Bool). pick b (r.g c) +ℤ gain cs (upd r.on c false) r.g) (upd_same r.on c false)
        ∙ +ℤ_idl (gain cs (upd r.on c false) r.g)
        ∙ lsum_ext cs (λ x. pick (upd r.on c false x) (r.g x)) (λ x. pick (r.on x) (r.g x)) (λ x t. ap (λ (b : Bool). pick b (r.g x)) (upd_other r.on c false x (mem_ne x c cs d t)))));
  }
    where
      pull : (x : ℕ) → T (mem x (c ∷ cs)) → T (upd r.on c false x) → T (mem x cs) × T (r.on x)
      pull x s t = ⊎_elim
          (λ e. absurd (subst T (upd_same r.on c false) (subst (λ (y : ℕ). T (upd r.on c false y)) e t)))
          (λ m. (m, subst T (upd_other r.on c false x (mem_ne x c cs d m)) t))
          (mem_cases x c cs s)

  att_take : (v : ℕ) (y : ℤ) → T (mem v A) → w c v ≡ some y → (r : Attained w cs (del v A)) → best w (c ∷ cs) A ≡ some (y +ℤ gain cs r.on r.g) → Attained w (c ∷ cs) A
  unfolding lsum
  att_take v y m wy r e = record {
    on = on';
    to = to';
    g = g';
    assign = record {
      free = λ x s t. ⊎_elim
          (λ q. subst (λ (z : ℕ). T (mem z A)) (sym (ap to' q ∙ upd_same r.to c v)) m)
          (λ s. rw (to≠ x s) (del_mem _ v A (r.assign.free x s (on≠ x s t))).0)
          (mem_cases x c cs s);
      apart = λ x x' s s' t t' e. ⊎_elim
          (λ q. ⊎_elim
          (λ q'. q ∙ sym q')
          (λ s'. absurd ((del_mem (r.to x') v A (r.assign.free x' s' (on≠ x' s' t'))).1 (sym (to≠ x' s') ∙ sym e ∙ ap to' q ∙ upd_same r.to c v)))
          (mem_cases x' c cs s'))
          (λ s. ⊎_elim
          (λ q'. absurd ((del_mem (r.to x) v A (r.assign.free x s (on≠ x s t))).1 (sym (to≠ x s) ∙ e ∙ ap to' q' ∙ upd_same r.to c v)))
          (λ s'. r.assign.apart x x' s s' (on≠ x s t) (on≠ x' s' t') (sym (to≠ x s) ∙ e ∙ to≠ x' s'))
          (mem_cases x' c cs s'))
          (mem_cases x c cs s);
      weighs = λ x s t. ⊎_elim
          (λ q. rw q (rw (upd_same r.to c v, upd_same r.g c y) wy))
          (λ s. rw (to≠ x s, g≠ x s) (r.assign.weighs x s (on≠ x s t)))
          (mem_cases x c cs s);
    };
    heaviest = e ∙ ap some (sym (
        rw (upd_same r.on c true, upd_same r.g c y) (ap (λ (z : ℤ). y +ℤ z) (lsum_ext cs (λ x. pick (on' x) (g' x)) (λ x. pick (r.on x) (r.g x))
        (λ x s. rw (upd_other r.on c true x (mem_ne x c cs d s), g≠ x s))))));
  }
    where
      on' : ℕ → Bool
      on' = upd r.on c true

      to' : ℕ → ℕ
      to' = upd r.to c v

      g' : ℕ → ℤ
      g' = upd r.g c y

      to≠ : (x : ℕ) → T (mem x cs) → to' x ≡ r.to x
      to≠ x s = upd_other r.to c v x (mem_ne x c cs d s)

      g≠ : (x : ℕ) → T (mem x cs) → g' x ≡ r.g x
      g≠ x s = upd_other r.g c y x (mem_ne x c cs d s)

      on≠ : (x : ℕ) → T (mem x cs) → T (on' x) → T (r.on x)
      on≠ x s t = subst T (upd_other r.on c true x (mem_ne x c cs d s)) t

-- the heaviest matching is never forbidden
pub best_some : (w : ℕ → ℕ → Weight) (cs A : List ℕ) → (z : ℤ) × (best w cs A ≡ some z)
unfolding best
best_some w [] A = (pos 0, refl)
best_some w (c ∷ cs) A = let q = best_some w cs A in
    above_some q.0 (best w (c ∷ cs) A) (subst (λ (x : Weight). x ⊑ best w (c ∷ cs) A) q.1 (greatest_default A (λ v. plus_w (w c v) (best w cs (del v A))) (best w cs A)))

attain_step : (w : ℕ → ℕ → Weight) (c : ℕ) (cs A : List ℕ) → mem c cs ≡ false → ((B : List ℕ) → Attained w cs B) → Attained w (c ∷ cs) A
unfolding best
attain_step w c cs A d ih = ⊎_elim
    (λ e. att_skip w c cs A d (ih A) e)
    (λ q. let v = q.0 in let r = ih (del v A) in go v r q.1 (q.2 ∙ ap (plus_w (w c v)) r.heaviest))
    (greatest_is A (λ v. plus_w (w c v) (best w cs (del v A))) (best w cs A))
  where
    go : (v : ℕ) (r : Attained w cs (del v A)) → T (mem v A) → best w (c ∷ cs) A ≡ plus_w (w c v) (some (gain cs r.on r.g)) → Attained w (c ∷ cs) A
    go v r m e =
        let z = best_some w (c ∷ cs) A in
        let p = plus_some (w c v) (some (gain cs r.on r.g)) z.0 (sym e ∙ z.1) in
        att_take w c cs A d v p.0 m p.2 r (e ∙ ap (λ (x : Weight). plus_w x (some (gain cs r.on r.g))) p.2)

pub best_attained : (w : ℕ → ℕ → Weight) (cs A : List ℕ) → Distinct cs → Attained w cs A
unfolding best lsum
best_attained w [] A d = record {
  on = λ x. false;
  to = λ x. x;
  g = λ x. pos 0;
  assign = record { free = λ x s t. absurd t; apart = λ x y s s' t. absurd t; weighs = λ x s t. absurd t };
  heaviest = refl;
}
best_attained w (c ∷ cs) A d = attain_step w c cs A d.0 (λ B. best_attained w cs B d.1)

-- more to choose from, no lighter
pub best_mono : (w : ℕ → ℕ → Weight) (cs A B : List ℕ) → Distinct cs → ((x : ℕ) → T (mem x A) → T (mem x B)) → best w cs A ⊑ best w cs B
best_mono w cs A B d h = let r = best_attained w cs A d in
    rw r.heaviest (best_bounds w r.on r.to r.g cs B d (record { free = λ c m o. h (r.to c) (r.assign.free c m o); apart = r.assign.apart; weighs = r.assign.weighs }))

-- another assignment that agrees on the list
pub assign_ext : (w : ℕ → ℕ → Weight) (cs A : List ℕ) (on on' : ℕ → Bool) (to to' : ℕ → ℕ) (g : ℕ → ℤ) →
    ((c : ℕ) → T (mem c cs) → on c ≡ on' c) → ((c : ℕ) → T (mem c cs) → T (on c) → to c ≡ to' c) → Assign w cs A on' to' g → Assign w cs A on to g
assign_ext w cs A on on' to to' g e f a = record {
  free = λ c m o. rw (f c m o) (a.free c m (subst T (e c m) o));
  apart = λ c d m k o p q. a.apart c d m k (subst T (e c m) o) (subst T (e d k) p) (sym (f c m o) ∙ q ∙ f d k p);
  weighs = λ c m o. rw (f c m o) (a.weighs c m (subst T (e c m) o));
}

-- ---- only the weights of pairs matter

pub greatest_ext : (l : List ℕ) (f g : ℕ → Weight) (d e : Weight) → ((x : ℕ) → T (mem x l) → f x ≡ g x) → d ≡ e → greatest l f d ≡ greatest l g e
unfolding greatest
greatest_ext [] f g d e h k = k
greatest_ext (x ∷ l) f g d e h k = rw (h x (mem_here x l), greatest_ext l f g d e (λ y t. h y (mem_there y x l t)) k)

pub best_ext : (w w' : ℕ → ℕ → Weight) (cs A : List ℕ) → ((c x : ℕ) → T (mem c cs) → T (mem x A) → w c x ≡ w' c x) → best w cs A ≡ best w' cs A
unfolding best
best_ext w w' [] A h = refl
best_ext w w' (c ∷ cs) A h = greatest_ext A _ _ _ _
    (λ x t. rw (h c x (mem_here c cs) t, best_ext w w' cs (del x A) (λ d y m n. h d y (mem_there d c cs m) (del_mem y x A n).0)))
    (best_ext w w' cs A (λ d y m n. h d y (mem_there d c cs m) n))

-- a matching may be empty
pub best_nonneg : (w : ℕ → ℕ → Weight) (cs A : List ℕ) → some (pos 0) ⊑ best w cs A
unfolding best
best_nonneg w [] A = ≤ℤ_refl (pos 0)
best_nonneg w (c ∷ cs) A = ⊑_trans (some (pos 0)) (best w cs A) (best w (c ∷ cs) A) (best_nonneg w cs A) (greatest_default A (λ v. plus_w (w c v) (best w cs (del v A))) (best w cs A))
