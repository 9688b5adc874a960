-- Members of a list of numbers: membership, deletion, how often and where a number stands. Assumes nothing.
use Rattle.std.specs.Prelude.{◌≡◌, ◌⊎◌, ◌≢◌, Bool, true, false, ◌||◌, ◌&&◌, cond, List, [], ◌∷◌, ◌++◌, ℕ, zero, suc, ◌+◌, ◌≤◌, ◌<◌, length, get_or, T, eqb, ℤ, pos, ◌+ℤ◌, ◌≤ℤ◌}
use Rattle.std.proofs.Math.Path.{refl}
use Rattle.std.proofs.Common.{sym, ap, ◌∙◌, subst, inl, inr, ⊎_elim, append-nil, arith, not-suc-le-zero, eq-eqb, ne_eqb}
use Rattle.std.proofs.Math.Decide.{ℕ_discrete, dec_lt}
use Rattle.std.proofs.Math.IntN.{+ℤ_idl, +ℤ_idr}
use Rattle.foundations.specs.Tests.{same, eqb_same, not_T→false, or_assoc}
use Rattle.std.specs.Int.Signed.{≤ℤ_refl}
use Rattle.foundations.specs.Int.{int, plus, +ℤ_mono}
use Rattle.foundations.specs.Sums.{pick, sumℤ, sumℤ_ext, sumℤ_add, sumℤ_zero, sumℤ_first, sumℤ_one, lsum}
use Rattle.foundations.specs.Counting.{cnt, pigeon, Twice}
use Rattle.foundations.specs.Lists.{below, cat, cat_append}

-- ---- membership

unfoldable pub mem : ℕ → List ℕ → Bool
mem x [] = false
mem x (y ∷ l) = eqb x y || mem x l

pub mem_nil : (x : ℕ) → T (mem x []) → ⊥
unfolding mem
mem_nil x t = t

pub mem_here : (x : ℕ) (l : List ℕ) → T (mem x (x ∷ l))
unfolding mem
mem_here x l = rw (eqb_same x) tt

pub mem_there : (x y : ℕ) (l : List ℕ) → T (mem x l) → T (mem x (y ∷ l))
unfolding mem
mem_there x y l t = go (eqb x y)
  where
    go : (b : Bool) → T (b || mem x l)
    go true = tt
    go false = t

pub mem_cases : (x y : ℕ) (l : List ℕ) → T (mem x (y ∷ l)) → (x ≡ y) ⊎ T (mem x l)
unfolding mem
mem_cases x y l t = ⊎_elim (λ e. inl e.0) (λ e. inr (rw e.1 at t)) (same x y)

pub mem_ne : (x y : ℕ) (l : List ℕ) → mem y l ≡ false → T (mem x l) → x ≢ y
mem_ne x y l d t e = subst T d (rw e at t)

pub mem_append : (x : ℕ) (l m : List ℕ) → mem x (l ++ m) ≡ (mem x l || mem x m)
unfolding mem
mem_append x [] m = refl
mem_append x (y ∷ l) m = rw (mem_append x l m) (sym (or_assoc (eqb x y) (mem x l) (mem x m)))

or_cases : (a b : Bool) → T (a || b) → T a ⊎ T b
or_cases true b t = inl tt
or_cases false b t = inr t

or_left : (a b : Bool) → T a → T (a || b)
or_left true b t = tt
or_left false b t = absurd t

or_right : (a b : Bool) → T b → T (a || b)
or_right true b t = tt
or_right false b t = t

pub append_cases : (x : ℕ) (l m : List ℕ) → T (mem x (l ++ m)) → T (mem x l) ⊎ T (mem x m)
append_cases x l m t = or_cases (mem x l) (mem x m) (subst T (mem_append x l m) t)

pub append_left : (x : ℕ) (l m : List ℕ) → T (mem x l) → T (mem x (l ++ m))
append_left x l m t = subst T (sym (mem_append x l m)) (or_left (mem x l) (mem x m) t)

pub append_right : (x : ℕ) (l m : List ℕ) → T (mem x m) → T (mem x (l ++ m))
append_right x l m t = subst T (sym (mem_append x l m)) (or_right (mem x l) (mem x m) t)

pub get_d_mem : (l : List ℕ) (i : ℕ) → i < length l → T (mem (get_or l i 0) l)
get_d_mem [] i h = absurd (not-suc-le-zero h)
get_d_mem (y ∷ l) zero h = mem_here y l
get_d_mem (y ∷ l) (suc i) h = mem_there (get_or l i 0) y l (get_d_mem l i (omega arith))

-- ---- no member twice, each below n

abbrev pub Distinct : List ℕ → Type 0
Distinct [] = Unit {0}
Distinct (x ∷ l) = (mem x l ≡ false) × Distinct l

abbrev pub Below : ℕ → List ℕ → Type 0
Below n [] = Unit {0}
Below n (x ∷ l) = (x < n) × Below n l

pub below_of : (n : ℕ) (l : List ℕ) → ((x : ℕ) → T (mem x l) → x < n) → Below n l
below_of n [] h = tt
below_of n (x ∷ l) h = (h x (mem_here x l), below_of n l (λ y t. h y (mem_there y x l t)))

-- ---- the numbers below k that pass a test

pub mem_below : (p : ℕ → Bool) (k x : ℕ) → T (mem x (below p k)) → (x < k) × (p x ≡ true)
unfolding below
mem_below p zero x t = absurd (mem_nil x t)
mem_below p (suc k) x t = ⊎_elim (λ q. let r = mem_below p k x q in (omega (arith, r.0), r.1)) (last (p k) refl) (append_cases x (below p k) (cond (p k) (k ∷ []) []) t)
  where
    last : (b : Bool) → p k ≡ b → T (mem x (cond b (k ∷ []) [])) → (x < suc k) × (p x ≡ true)
    last true e t = ⊎_elim (λ q. (omega (arith, q), ap p q ∙ e)) (λ q. absurd (mem_nil x q)) (mem_cases x k [] t)
    last false e t = absurd (mem_nil x t)

pub below_mem : (p : ℕ → Bool) (k x : ℕ) → x < k → p x ≡ true → T (mem x (below p k))
unfolding below
below_mem p zero x l e = absurd (not-suc-le-zero l)
below_mem p (suc k) x l e = ⊎_elim
    (λ q. append_right x (below p k) (cond (p k) (k ∷ []) []) (rw (sym (ap p q.0) ∙ e, q.0) (mem_here k [])))
    (λ q. append_left x (below p k) (cond (p k) (k ∷ []) []) (below_mem p k x (lower q.0) e))
    (same x k)
  where
    lower : x ≢ k → x < k
    lower h = omega arith

pub distinct_snoc : (l : List ℕ) (k : ℕ) → Distinct l → mem k l ≡ false → Distinct (l ++ (k ∷ []))
unfolding mem
distinct_snoc [] k d h = (refl, tt)
distinct_snoc (x ∷ l) k d h = (
  not_T→false (mem x (l ++ (k ∷ []))) (λ t. ⊎_elim (λ q. subst T d.0 q) (λ q. ⊎_elim (λ e. subst T h (subst (λ (z : ℕ). T (mem z (x ∷ l))) e (mem_here x l))) (mem_nil x) (mem_cases x k [] q)) (append_cases x l (k ∷ []) t)),
  distinct_snoc l k d.1 (not_T→false (mem k l) (λ t. subst T h (mem_there k x l t))),
)

pub distinct_below : (p : ℕ → Bool) (k : ℕ) → Distinct (below p k)
unfolding below
distinct_below p zero = tt
distinct_below p (suc k) = step (p k) (distinct_below p k)
  where
    out : mem k (below p k) ≡ false
    out = not_T→false _ (λ t. let r = mem_below p k k t in absurd (omega (arith, r.0)))

    step : (b : Bool) → Distinct (below p k) → Distinct (below p k ++ cond b (k ∷ []) [])
    step true d = distinct_snoc (below p k) k d out
    step false d = rw append-nil d

-- ---- deletion

unfoldable pub del : ℕ → List ℕ → List ℕ
del v [] = []
del v (x ∷ l) = cond (eqb v x) (del v l) (x ∷ del v l)

pub mem_del : (x v : ℕ) (l : List ℕ) → T (mem x l) → x ≢ v → T (mem x (del v l))
unfolding del
mem_del x v [] t h = t
mem_del x v (y ∷ l) t h = ⊎_elim
    (λ e. rw e.1 (⊎_elim (λ q. absurd (h (q ∙ sym e.0))) (λ q. mem_del x v l q h) (mem_cases x y l t)))
    (λ e. rw e.1 (⊎_elim (λ q. rw q (mem_here y (del v l))) (λ q. mem_there x y (del v l) (mem_del x v l q h)) (mem_cases x y l t)))
    (same v y)

pub del_mem : (x v : ℕ) (l : List ℕ) → T (mem x (del v l)) → T (mem x l) × (x ≢ v)
unfolding del
del_mem x v [] t = absurd (mem_nil x t)
del_mem x v (y ∷ l) t = ⊎_elim
    (λ e. let r = del_mem x v l (rw e.1 at t) in (mem_there x y l r.0, r.1))
    (λ e. ⊎_elim (λ q. (rw q (mem_here y l), λ p. e.0 (sym (sym q ∙ p)))) (λ q. let r = del_mem x v l q in (mem_there x y l r.0, r.1))
    (mem_cases x y (del v l) (rw e.1 at t)))
    (same v y)

pub distinct_del : (v : ℕ) (l : List ℕ) → Distinct l → Distinct (del v l)
unfolding del
distinct_del v [] d = tt
distinct_del v (x ∷ l) d = ⊎_elim
    (λ e. rw e.1 (distinct_del v l d.1))
    (λ e. rw e.1 (not_T→false _ (λ t. subst T d.0 (del_mem x v l t).0), distinct_del v l d.1))
    (same v x)

-- what is no member leaves the list as it is; a member leaves it one shorter
pub del_out : (v : ℕ) (l : List ℕ) → mem v l ≡ false → del v l ≡ l
unfolding del
del_out v [] h = refl
del_out v (x ∷ l) h = ⊎_elim
    (λ e. absurd (subst T h (rw e.0 (mem_here x l))))
    (λ e. rw e.1 (ap (λ (m : List ℕ). x ∷ m) (del_out v l (not_T→false (mem v l) (λ t. subst T h (mem_there v x l t))))))
    (same v x)

pub length_del : (v : ℕ) (l : List ℕ) → Distinct l → T (mem v l) → length (del v l) + 1 ≡ length l
unfolding del
length_del v [] d t = absurd (mem_nil v t)
length_del v (x ∷ l) d t = ⊎_elim
    (λ e. let q : del v l ≡ l = ap (λ w. del w l) e.0 ∙ del_out x l d.0 in rw (e.1, q) (omega arith))
    (λ e. rw e.1 (⊎_elim (λ q. absurd (e.0 q)) (λ q. let i = length_del v l d.1 q in omega arith) (mem_cases v x l t)))
    (same v x)

-- ---- a list's sum as a sum over a range

pub lsum_ext : (l : List ℕ) (f g : ℕ → ℤ) → ((x : ℕ) → T (mem x l) → f x ≡ g x) → lsum l f ≡ lsum l g
unfolding lsum
lsum_ext [] f g h = refl
lsum_ext (x ∷ l) f g h = rw (lsum_ext l f g (λ y t. h y (mem_there y x l t)), h x (mem_here x l))

pick_mem : (x y : ℕ) (l : List ℕ) (f : ℕ → ℤ) → mem x l ≡ false → pick (eqb y x || mem y l) (f y) ≡ pick (eqb x y) (f y) +ℤ pick (mem y l) (f y)
pick_mem x y l f d = ⊎_elim
    (λ e. rw (e.1, e.0, d, eqb_same x) (sym (+ℤ_idr (f x))))
    (λ e. rw (e.1, ne_eqb x y (λ q. e.0 (sym q))) (sym (+ℤ_idl _)))
    (same y x)

pub lsum_sumℤ : (n : ℕ) (l : List ℕ) (f : ℕ → ℤ) → Distinct l → Below n l → lsum l f ≡ sumℤ n (λ c. pick (mem c l) (f c))
unfolding lsum mem
lsum_sumℤ n [] f d b = sym (sumℤ_zero n)
lsum_sumℤ n (x ∷ l) f d b =
    ap (λ (z : ℤ). f x +ℤ z) (lsum_sumℤ n l f d.1 b.1)
    ∙ ap (λ (z : ℤ). z +ℤ sumℤ n (λ c. pick (mem c l) (f c))) (sym (sumℤ_one n x f b.0))
    ∙ sym (sumℤ_add n (λ c. pick (eqb x c) (f c)) (λ c. pick (mem c l) (f c)))
    ∙ sumℤ_ext n _ _ (λ c h. sym (pick_mem x c l f d.0))

-- ---- sums of terms that are not negative

pub lsum_nonneg : (l : List ℕ) (b : ℕ → ℤ) → ((x : ℕ) → T (mem x l) → pos 0 ≤ℤ b x) → pos 0 ≤ℤ lsum l b
unfolding lsum
lsum_nonneg [] b h = ≤ℤ_refl _
lsum_nonneg (x ∷ l) b h = let i = lsum_nonneg l b (λ y t. h y (mem_there y x l t)) in let k = h x (mem_here x l) in omega int

lsum_del_le : (v : ℕ) (l : List ℕ) (b : ℕ → ℤ) → ((x : ℕ) → T (mem x l) → pos 0 ≤ℤ b x) → lsum (del v l) b ≤ℤ lsum l b
unfolding lsum del
lsum_del_le v [] b h = ≤ℤ_refl _
lsum_del_le v (x ∷ l) b h =
    let i = lsum_del_le v l b (λ y t. h y (mem_there y x l t)) in
    let k = h x (mem_here x l) in
    ⊎_elim (λ e. rw e.1 (omega int)) (λ e. rw e.1 (+ℤ_mono (≤ℤ_refl (b x)) i)) (same v x)

-- what is taken out of the list
pub lsum_del : (v : ℕ) (l : List ℕ) (b : ℕ → ℤ) → ((x : ℕ) → T (mem x l) → pos 0 ≤ℤ b x) → T (mem v l) → (b v +ℤ lsum (del v l) b) ≤ℤ lsum l b
unfolding lsum del
lsum_del v [] b h t = absurd (mem_nil v t)
lsum_del v (x ∷ l) b h t =
    ⊎_elim
    (λ e. rw e.1 (subst (λ w. (b w +ℤ lsum (del w l) b) ≤ℤ (b x +ℤ lsum l b)) (sym e.0) (+ℤ_mono (≤ℤ_refl (b x)) (lsum_del_le x l b (λ y t. h y (mem_there y x l t))))))
    (λ e. rw e.1 (⊎_elim
    (λ q. absurd (e.0 q))
    (λ m. let i = lsum_del v l b (λ y t. h y (mem_there y x l t)) m in omega (int, plus (b x) (lsum (del v l) b)))
    (mem_cases v x l t)))
    (same v x)

-- ---- how often

-- How often x stands in a list.
unfoldable pub occ : ℕ → List ℕ → ℕ
occ x [] = 0
occ x (y ∷ l) = cond (eqb x y) 1 0 + occ x l

pub occ_append : (x : ℕ) (l m : List ℕ) → occ x (l ++ m) ≡ occ x l + occ x m
unfolding occ
occ_append x [] m = omega arith
occ_append x (y ∷ l) m = rw (occ_append x l m) (omega arith)

pub occ_cat : (x : ℕ) (f : ℕ → List ℕ) (p q : ℕ → Bool) (k : ℕ) → ((w : ℕ) → w < k → occ x (f w) ≡ cond (q w) 1 0) → occ x (cat f (below p k)) ≡ cnt (λ w. p w && q w) k
unfolding below cnt cat occ
occ_cat x f p q zero h = refl
occ_cat x f p q (suc k) h =
    ap (occ x) (cat_append f (below p k) (cond (p k) (k ∷ []) [])) ∙ occ_append x (cat f (below p k)) (cat f (cond (p k) (k ∷ []) [])) ∙ step (p k) (occ_cat x f p q k (λ w l. h w (omega arith)))
  where
    step : (t : Bool) → occ x (cat f (below p k)) ≡ cnt (λ w. p w && q w) k → occ x (cat f (below p k)) + occ x (cat f (cond t (k ∷ []) [])) ≡ cnt (λ w. p w && q w) k + cond (t && q k) 1 0
    step true e = rw (e, append-nil, h k (omega arith))
    step false e = rw e

pub mem_occ : (x : ℕ) (l : List ℕ) → T (mem x l) → 1 ≤ occ x l
unfolding occ
mem_occ x [] t = absurd (mem_nil x t)
mem_occ x (y ∷ l) t = ⊎_elim (λ e. rw (eq-eqb x y e) (omega arith)) (λ q. let r = mem_occ x l q in omega arith) (mem_cases x y l t)

pub out_occ : (x : ℕ) (l : List ℕ) → mem x l ≡ false → occ x l ≡ 0
unfolding occ
out_occ x [] h = refl
out_occ x (y ∷ l) h = rw (ne_eqb x y (λ e. subst T h (rw e (mem_here y l))), out_occ x l (not_T→false (mem x l) (λ t. subst T h (mem_there x y l t))))

pub distinct_occ : (x : ℕ) (l : List ℕ) → Distinct l → occ x l ≤ 1
unfolding occ
distinct_occ x [] d = omega arith
distinct_occ x (y ∷ l) d = ⊎_elim
    (λ e. let z : occ x l ≡ 0 = rw e.0 (out_occ y l d.0) in rw (eq-eqb x y e.0, z) (omega arith))
    (λ e. let z : occ x l ≤ 1 = distinct_occ x l d.1 in rw (ne_eqb x y e.0) (omega arith))
    (same x y)

-- ---- places in a list

-- The place of the first x, and the length where there is none.
unfoldable pub place : ℕ → List ℕ → ℕ
place x [] = 0
place x (y ∷ l) = cond (eqb x y) 0 (suc (place x l))

pub place_low : (x : ℕ) (l : List ℕ) → 1 ≤ occ x l → place x l < length l
unfolding occ place
place_low x [] h = absurd (omega arith)
place_low x (y ∷ l) h = step (ℕ_discrete x y) (place_low x l)
  where
    step : Dec (x ≡ y) → (1 ≤ occ x l → place x l < length l) → cond (eqb x y) 0 (suc (place x l)) < suc (length l)
    step (yes e) r = rw (eq-eqb x y e) (omega arith)
    step (no e) r = let g : 1 ≤ 0 + occ x l = rw (ne_eqb x y e) at h in let q : place x l < length l = r (omega arith) in rw (ne_eqb x y e) (omega arith)

pub place_at : (x : ℕ) (l : List ℕ) → 1 ≤ occ x l → get_or l (place x l) 0 ≡ x
unfolding occ place
place_at x [] h = absurd (omega arith)
place_at x (y ∷ l) h = step (ℕ_discrete x y) (place_at x l)
  where
    step : Dec (x ≡ y) → (1 ≤ occ x l → get_or l (place x l) 0 ≡ x) → get_or (y ∷ l) (cond (eqb x y) 0 (suc (place x l))) 0 ≡ x
    step (yes e) r = rw (eq-eqb x y e) (sym e)
    step (no e) r = let g : 1 ≤ 0 + occ x l = rw (ne_eqb x y e) at h in rw (ne_eqb x y e) (r (omega arith))

pub place_in : (x : ℕ) (l m : List ℕ) → 1 ≤ occ x l → place x (l ++ m) ≡ place x l
unfolding occ place
place_in x [] m h = absurd (omega arith)
place_in x (y ∷ l) m h = step (ℕ_discrete x y) (place_in x l m)
  where
    step : Dec (x ≡ y) → (1 ≤ occ x l → place x (l ++ m) ≡ place x l) → cond (eqb x y) 0 (suc (place x (l ++ m))) ≡ cond (eqb x y) 0 (suc (place x l))
    step (yes e) r = rw (eq-eqb x y e)
    step (no e) r = let g : 1 ≤ 0 + occ x l = rw (ne_eqb x y e) at h in let q : 1 ≤ occ x l = omega arith in rw (r q)

pub place_out : (x : ℕ) (l m : List ℕ) → occ x l ≡ 0 → place x (l ++ m) ≡ length l + place x m
unfolding occ place
place_out x [] m h = omega arith
place_out x (y ∷ l) m h = step (ℕ_discrete x y) (place_out x l m)
  where
    step : Dec (x ≡ y) → (occ x l ≡ 0 → place x (l ++ m) ≡ length l + place x m) → cond (eqb x y) 0 (suc (place x (l ++ m))) ≡ suc (length l) + place x m
    step (yes e) r = let g : 1 + occ x l ≡ 0 = rw (eq-eqb x y e) at h in absurd (omega arith)
    step (no e) r = let g : 0 + occ x l ≡ 0 = rw (ne_eqb x y e) at h in let q : place x (l ++ m) ≡ length l + place x m = r (omega arith) in rw (ne_eqb x y e) (omega arith)

-- A place where x stands is the first, if x stands once.
pub place_one : (x : ℕ) (l : List ℕ) (i : ℕ) → occ x l ≤ 1 → i < length l → get_or l i 0 ≡ x → place x l ≡ i
unfolding occ place
place_one x [] i h l e = absurd (omega arith)
place_one x (y ∷ l) zero h b e = rw (eq-eqb x y (sym e))
place_one x (y ∷ l) (suc i) h b e = step (ℕ_discrete x y) (place_one x l i)
  where
    here : (m : List ℕ) (j : ℕ) → j < length m → get_or m j 0 ≡ x → 1 ≤ occ x m
    here [] j b e = absurd (omega arith)
    here (z ∷ m) zero b e = rw (eq-eqb x z (sym e)) (omega arith)
    here (z ∷ m) (suc j) b e = let q : 1 ≤ occ x m = here m j (omega arith) e in omega arith

    step : Dec (x ≡ y) → (occ x l ≤ 1 → i < length l → get_or l i 0 ≡ x → place x l ≡ i) → cond (eqb x y) 0 (suc (place x l)) ≡ suc i
    step (yes q) r = let g : 1 + occ x l ≤ 1 = rw (eq-eqb x y q) at h in let k : 1 ≤ occ x l = here l i (omega arith) e in absurd (omega arith)
    step (no q) r = let g : 0 + occ x l ≤ 1 = rw (ne_eqb x y q) at h in rw (ne_eqb x y q) (ap suc (r (omega arith) (omega arith) e))

place_of : (l : List ℕ) (i : ℕ) → Distinct l → i < length l → place (get_or l i 0) l ≡ i
place_of l i d h = place_one (get_or l i 0) l i (distinct_occ (get_or l i 0) l d) h refl

-- two places with the same element are the same
pub at_once : (l : List ℕ) (i j : ℕ) → Distinct l → i < length l → j < length l → get_or l i 0 ≡ get_or l j 0 → i ≡ j
at_once l i j d hi hj e = sym (place_of l i d hi) ∙ ap (λ (x : ℕ). place x l) e ∙ place_of l j d hj

-- a sum over a list's members by their places
place_here : (y : ℕ) (l : List ℕ) → place y (y ∷ l) ≡ 0
unfolding place
place_here y l = rw (eqb_same y)

place_there : (x y : ℕ) (l : List ℕ) → x ≢ y → place x (y ∷ l) ≡ suc (place x l)
unfolding place
place_there x y l h = rw (ne_eqb x y h)

pub lsum_place : (l : List ℕ) (f : ℕ → ℤ) → Distinct l → lsum l (λ x. f (place x l)) ≡ sumℤ (length l) f
unfolding lsum
lsum_place [] f d = unfold sumℤ in refl
lsum_place (y ∷ l) f d =
    ap (λ (i : ℕ). f i +ℤ lsum l (λ x. f (place x (y ∷ l)))) (place_here y l)
    ∙ ap (λ (z : ℤ). f 0 +ℤ z) (lsum_ext l (λ x. f (place x (y ∷ l))) (λ x. f (suc (place x l))) (λ x t. ap f (place_there x y l (mem_ne x y l d.0 t))) ∙ lsum_place l (λ i. f (suc i)) d.1)
    ∙ sym (sumℤ_first (length l) f)

-- w stands in the list, before x.
pub record Ahead (w x : ℕ) (l : List ℕ) : Type 0 where
  pub there : 1 ≤ occ w l
  pub first : place w l < place x l

pub ahead_append : (w x : ℕ) (l m : List ℕ) → (1 ≤ occ x l → Ahead w x l) → (1 ≤ occ x m → Ahead w x m) → 1 ≤ occ x (l ++ m) → Ahead w x (l ++ m)
ahead_append w x l m f g h = step (ℕ_discrete (occ x l) 0) (ℕ_discrete (occ w l) 0)
  where
    ow : occ w (l ++ m) ≡ occ w l + occ w m
    ow = occ_append w l m

    ox : occ x (l ++ m) ≡ occ x l + occ x m
    ox = occ_append x l m

    step : Dec (occ x l ≡ 0) → Dec (occ w l ≡ 0) → Ahead w x (l ++ m)
    step (no d) e =
        let a = f (omega arith) in
        let b : place w l < place x l = a.first in
        record { there = omega (arith, ow, a.there); first = rw (place_in w l m a.there, place_in x l m (omega arith)) b }
    step (yes d) (no e) =
        let b : place w l < length l = place_low w l (omega arith) in
        record { there = omega (arith, ow); first = rw (place_in w l m (omega arith), place_out x l m d) (omega arith) }
    step (yes d) (yes e) =
        let a = g (omega (arith, ox)) in
        let b : place w m < place x m = a.first in
        record { there = omega (arith, ow, a.there); first = rw (place_out w l m e, place_out x l m d) (omega arith) }

pub ahead_cat : (w x : ℕ) (f : ℕ → List ℕ) (p : ℕ → Bool) (k : ℕ) → ((c : ℕ) → c < k → p c ≡ true → 1 ≤ occ x (f c) → Ahead w x (f c)) → 1 ≤ occ x (cat f (below p k)) → Ahead w x (cat f (below p k))
unfolding cat below occ
ahead_cat w x f p zero h o = absurd (omega arith)
ahead_cat w x f p (suc k) h o = subst (λ l. 1 ≤ occ x l → Ahead w x l) (sym (cat_append f (below p k) (cond (p k) (k ∷ []) []))) (ahead_append w x (cat f (below p k)) (cat f (cond (p k) (k ∷ []) [])) (ahead_cat w x f p k (λ c l. h c (omega arith))) (step (p k) refl)) o
  where
    step : (t : Bool) → p k ≡ t → 1 ≤ occ x (cat f (cond t (k ∷ []) [])) → Ahead w x (cat f (cond t (k ∷ []) []))
    step true e q = rw append-nil (h k (omega arith) e (rw append-nil at q))
    step false e q = absurd (omega arith)

-- ---- lists of numbers below n

-- Every member is below n.
abbrev pub AllLow : ℕ → List ℕ → Type 0
AllLow n l = (i : ℕ) → i < length l → get_or l i 0 < n

pub low_append : (n : ℕ) (l m : List ℕ) → AllLow n l → AllLow n m → AllLow n (l ++ m)
low_append n [] m f g i h = g i h
low_append n (x ∷ l) m f g zero h = f 0 (omega arith)
low_append n (x ∷ l) m f g (suc i) h = low_append n l m (λ j b. f (suc j) (omega arith)) g i (omega arith)

pub low_cat : (n : ℕ) (f : ℕ → List ℕ) (p : ℕ → Bool) (k : ℕ) → ((c : ℕ) → c < k → AllLow n (f c)) → AllLow n (cat f (below p k))
unfolding cat below
low_cat n f p zero h = λ i b. absurd (omega arith)
low_cat n f p (suc k) h = subst (λ l. AllLow n l) (sym (cat_append f (below p k) (cond (p k) (k ∷ []) []))) (low_append n (cat f (below p k)) (cat f (cond (p k) (k ∷ []) [])) (low_cat n f p k (λ c l. h c (omega arith))) (step (p k)))
  where
    step : (t : Bool) → AllLow n (cat f (cond t (k ∷ []) []))
    step true = subst (λ l. AllLow n l) (sym (append-nil (f k))) (h k (omega arith))
    step false = λ i b. absurd (omega arith)

-- A list of numbers below n in which each stands once has n members.
module _ (n : ℕ) (l : List ℕ) (once : (x : ℕ) → x < n → occ x l ≡ 1) (low : AllLow n l) where
  not_more : n < length l → ⊥
  not_more h = clash (pigeon n (λ i. get_or l i 0) (λ i b. low i (omega arith)))
    where
      clash : Twice (λ i. get_or l i 0) (suc n) → ⊥
      clash t =
          let a : t.one < t.two = t.less in
          let b : t.two < suc n = t.low in
          let o : occ (get_or l t.one 0) l ≡ 1 = once (get_or l t.one 0) (low t.one (omega arith)) in
          let p : place (get_or l t.one 0) l ≡ t.one = place_one (get_or l t.one 0) l t.one (omega arith) (omega arith) refl in
          let q : place (get_or l t.one 0) l ≡ t.two = place_one (get_or l t.one 0) l t.two (omega arith) (omega arith) (sym t.equal) in
          omega arith

  not_less : length l < n → ⊥
  not_less h = clash (pigeon (length l) (λ x. place x l) (λ x b. place_low x l (let o : occ x l ≡ 1 = once x (omega arith) in omega arith)))
    where
      clash : Twice (λ x. place x l) (suc (length l)) → ⊥
      clash t =
          let a : t.one < t.two = t.less in
          let b : t.two < suc (length l) = t.low in
          let p : occ t.one l ≡ 1 = once t.one (omega arith) in
          let q : occ t.two l ≡ 1 = once t.two (omega arith) in
          let e : t.one ≡ t.two = sym (place_at t.one l (omega arith)) ∙ ap (λ i. get_or l i 0) t.equal ∙ place_at t.two l (omega arith) in
          omega arith

  pub length_once : length l ≡ n
  length_once = step (dec_lt n (length l)) (dec_lt (length l) n)
    where
      step : Dec (n < length l) → Dec (length l < n) → length l ≡ n
      step (yes h) d = absurd (not_more h)
      step (no h) (yes d) = absurd (not_less d)
      step (no h) (no d) = omega arith
