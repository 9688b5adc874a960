-- From the heaviest matching of natural gains, with its duals, to the model's `best` of the branches that they stand for. Assumes nothing.
use Rattle.std.specs.Prelude.{◌≡◌, ◌≢◌, Bool, cond, List, [], ◌∷◌, ℕ, zero, suc, ◌+◌, ◌≤◌, ◌<◌, length, ℤ, negsuc, T, eqb, ltb}
use Rattle.std.proofs.Math.Path.{refl, sym, ap}
use Rattle.std.proofs.Common.{◌∙◌, subst, ⊎_elim, zero-le, arith, lt-ltb, le-ltb, ltb-true, ltb-false, eq-eqb, ne_eqb}
use Rattle.std.proofs.Math.Bool.{true, false}
use Rattle.std.proofs.Math.ListN.{get_or}
use Rattle.std.proofs.Math.IntN.{pos}
use Rattle.foundations.specs.Tests.{same, same?, less?, eqb_same, T→true}
use Rattle.foundations.specs.Int.{int, canon}
use Rattle.foundations.specs.Sums.{sum, pick, lsum, sum_first}
use Rattle.foundations.specs.Members.{mem, mem_nil, mem_here, mem_there, mem_cases, mem_ne, get_d_mem, Distinct, del, mem_del, del_mem, lsum_ext, mem_occ, place, place_low, place_at, at_once}
use Rattle.model.specs.Weights.{Weight, none, some, ◌⊑◌, plus_w, max_w}
use Rattle.model.specs.Values.{greatest, best}
use Rattle.subtrees.specs.WeightLaws.{⊑_antisym, max_either}
use Rattle.subtrees.specs.Matching.{Assign, gain, best_bounds}
use Rattle.assignment.specs.Matching.{gained, weight}
use Rattle.assignment.specs.State.{Solved, Dual}
use Rattle.plan.specs.Pairs.{up_w}

-- ---- places of a list without repeats

place_below : (c : ℕ) (l : List ℕ) → T (mem c l) → place c l < length l
place_below c l t = place_low c l (mem_occ c l t)

at_place : (c : ℕ) (l : List ℕ) → T (mem c l) → get_or l (place c l) 0 ≡ c
at_place c l t = place_at c l (mem_occ c l t)

-- s is the element before place c, or no element where c is 0
pub left_of : (l : List ℕ) (s c : ℕ) → Distinct l → c ≤ length l → (c ≡ 0 → (j : ℕ) → j < length l → get_or l j 0 ≡ s → ⊥) → ((j : ℕ) → c ≡ j + 1 → get_or l j 0 ≡ s) → (j : ℕ) → j < length l → eqb (get_or l j 0) s ≡ eqb (j + 1) c
left_of l s zero d b bare here j h = ne_eqb (get_or l j 0) s (bare refl j h) ∙ sym (ne_eqb (j + 1) 0 (λ e. omega arith))
left_of l s (suc c) d b bare here j h =
    let e : get_or l c 0 ≡ s = here c (omega arith) in
    ⊎_elim
    (λ q. eq-eqb (get_or l j 0) s (ap (λ (x : ℕ). get_or l x 0) q ∙ e) ∙ sym (eq-eqb (j + 1) (suc c) (omega arith)))
    (λ n. ne_eqb (get_or l j 0) s (λ q. n (at_once l j c d h b (q ∙ sym e))) ∙ sym (ne_eqb (j + 1) (suc c) (λ q. n (omega arith))))
    (same? j c)

-- ---- sums of natural numbers over a list

unfoldable pub nsum : List ℕ → (ℕ → ℕ) → ℕ
nsum [] f = 0
nsum (x ∷ l) f = f x + nsum l f

nsum_ext : (l : List ℕ) (f g : ℕ → ℕ) → ((x : ℕ) → T (mem x l) → f x ≡ g x) → nsum l f ≡ nsum l g
unfolding nsum
nsum_ext [] f g h = refl
nsum_ext (x ∷ l) f g h = rw (h x (mem_here x l), nsum_ext l f g (λ y t. h y (mem_there y x l t)))

del_le : (v : ℕ) (l : List ℕ) (b : ℕ → ℕ) → nsum (del v l) b ≤ nsum l b
unfolding nsum del
del_le v [] b = zero-le
del_le v (x ∷ l) b = let i = del_le v l b in ⊎_elim (λ e. rw e.1 (omega arith)) (λ e. rw e.1 (omega arith)) (same v x)

del_sum : (v : ℕ) (l : List ℕ) (b : ℕ → ℕ) → T (mem v l) → b v + nsum (del v l) b ≤ nsum l b
unfolding nsum del
del_sum v [] b t = absurd (mem_nil v t)
del_sum v (x ∷ l) b t = ⊎_elim
    (λ e. let i : b v + nsum (del v l) b ≤ b x + nsum l b = subst (λ w. b w + nsum (del w l) b ≤ b x + nsum l b) (sym e.0) (let i = del_le x l b in omega arith) in rw e.1 i)
    (λ e. rw e.1 (⊎_elim (λ q. absurd (e.0 q)) (λ m. let i = del_sum v l b m in omega arith) (mem_cases v x l t)))
    (same v x)

-- over the elements by their places, as over the places
nsum_place : (l : List ℕ) (f : ℕ → ℕ) → Distinct l → nsum l (λ c. f (place c l)) ≡ sum (length l) f
unfolding nsum place sum
nsum_place [] f d = refl
nsum_place (x ∷ l) f d =
    let e : nsum l (λ c. f (cond (eqb c x) 0 (suc (place c l)))) ≡ nsum l (λ c. f (suc (place c l))) = nsum_ext l _ _ (λ c t. rw (ne_eqb c x (mem_ne c x l d.0 t))) in
    rw (eqb_same x) (omega (arith, e, nsum_place l (λ i. f (suc i)) d.1, sum_first (length l) f))

lsum_pos : (l : List ℕ) (f : ℕ → ℕ) → lsum l (λ c. pos (f c)) ≡ pos (nsum l f)
unfolding nsum lsum
lsum_pos [] f = refl
lsum_pos (x ∷ l) f = rw (lsum_pos l f)

-- ---- weak duality: bounds of rows and columns that cover every branch bound the heaviest matching

max_least : (x y z : Weight) → x ⊑ z → y ⊑ z → max_w x y ⊑ z
max_least x y z h k = ⊎_elim (λ e. rw e h) (λ e. rw e k) (max_either x y)

greatest_least : (l : List ℕ) (f : ℕ → Weight) (d z : Weight) → d ⊑ z → ((x : ℕ) → T (mem x l) → f x ⊑ z) → greatest l f d ⊑ z
unfolding greatest
greatest_least [] f d z h k = h
greatest_least (x ∷ l) f d z h k = max_least (f x) (greatest l f d) z (k x (mem_here x l)) (greatest_least l f d z h (λ y t. k y (mem_there y x l t)))

-- no branch weighs more than its two bounds
record Covered (w : ℕ → ℕ → Weight) (cs A : List ℕ) (a b : ℕ → ℕ) : Type 0 where
  pub cover : (c x : ℕ) → T (mem c cs) → T (mem x A) → w c x ⊑ some (pos (a c + b x))

plus_most : (x y : Weight) (p q r : ℕ) → x ⊑ some (pos p) → y ⊑ some (pos q) → p + q ≤ r → plus_w x y ⊑ some (pos r)
plus_most none y p q r h k s = tt
plus_most (some a) none p q r h k s = tt
plus_most (some a) (some b) p q r h k s = omega int

most_more : (x : Weight) (p q : ℕ) → x ⊑ some (pos p) → p ≤ q → x ⊑ some (pos q)
most_more none p q h s = tt
most_more (some a) p q h s = omega int

best_most : (w : ℕ → ℕ → Weight) (a b : ℕ → ℕ) (cs A : List ℕ) → Covered w cs A a b → best w cs A ⊑ some (pos (nsum cs a + nsum A b))
unfolding best nsum
best_most w a b [] A C = omega int
best_most w a b (c ∷ cs) A C =
    greatest_least A (λ v. plus_w (w c v) (best w cs (del v A))) (best w cs A) (some (pos ((a c + nsum cs a) + nsum A b)))
    (most_more (best w cs A) (nsum cs a + nsum A b) ((a c + nsum cs a) + nsum A b)
    (best_most w a b cs A (record { cover = λ d x t s. C.cover d x (mem_there d c cs t) s })) (omega arith))
    (λ v t. plus_most (w c v) (best w cs (del v A)) (a c + b v) (nsum cs a + nsum (del v A) b) ((a c + nsum cs a) + nsum A b)
    (C.cover c v (mem_here c cs) t)
    (best_most w a b cs (del v A) (record { cover = λ d x s r. C.cover d x (mem_there d c cs s) (del_mem x v A r).0 }))
    (omega (arith, del_sum v A b t)))

-- ---- gains

-- the gain of a branch: none where its column is s
unfoldable pub branch_gain : (ℕ → ℕ → Weight) → ℕ → ℕ → ℕ → ℕ
branch_gain w s c x = cond (eqb x s) 0 (up_w (w c x))

-- the table's gains are those of the branches, by place
pub record Gains (w : ℕ → ℕ → Weight) (s : ℕ) (cs A : List ℕ) (g : ℕ → ℕ → ℕ) : Type 0 where
  pub is : (i j : ℕ) → i < length cs → j < length A → g i j ≡ branch_gain w s (get_or cs i 0) (get_or A j 0)

up_most : (x : Weight) (n : ℕ) → up_w x ≤ n → x ⊑ some (pos n)
unfolding up_w
up_most none n h = tt
up_most (some a) n h = omega (int, canon a)

up_is : (x : Weight) → 0 < up_w x → x ≡ some (pos (up_w x))
unfolding up_w
up_is none h = let x : ⊥ = omega arith in absurd x
up_is (some (pos n)) h = refl
up_is (some (negsuc n)) h = let x : ⊥ = omega arith in absurd x

gain_other : (w : ℕ → ℕ → Weight) (s c x : ℕ) → x ≢ s → branch_gain w s c x ≡ up_w (w c x)
unfolding branch_gain
gain_other w s c x h = rw (ne_eqb x s h)

gain_some : (w : ℕ → ℕ → Weight) (s c x : ℕ) → 0 < branch_gain w s c x → (x ≢ s) × (w c x ≡ some (pos (branch_gain w s c x)))
unfolding branch_gain
gain_some w s c x h = ⊎_elim
    (λ e. let x : ⊥ = off e.1 in absurd x)
    (λ e. (e.0, rw e.1 (up_is (w c x) (rw e.1 at h))))
    (same x s)
  where
    off : eqb x s ≡ true → ⊥
    off e = let k : 0 < 0 = rw e at h in omega arith

-- what a row gains has a column
gained_some : (l : ℕ) (g : ℕ → ℕ → ℕ) (m : ℕ → ℕ) (i : ℕ) → 0 < gained l g m i → (m i < l) × (gained l g m i ≡ g i (m i))
unfolding gained
gained_some l g m i h = ⊎_elim
    (λ lt. (lt, rw (lt-ltb (m i) l lt)))
    (λ le. let k : 0 < 0 = rw (le-ltb (m i) l le) at h in let x : ⊥ = omega arith in absurd x)
    (less? (m i) l)

-- the gain and the column of the row in which c stands
unfoldable pub row_gain : List ℕ → List ℕ → (ℕ → ℕ → ℕ) → (ℕ → ℕ) → ℕ → ℕ
row_gain cs A g m c = gained (length A) g m (place c cs)

unfoldable pub column_of : List ℕ → List ℕ → (ℕ → ℕ) → ℕ → ℕ
column_of cs A m c = get_or A (m (place c cs)) 0

-- `on` says which rows have a gain
pub record Chosen (cs A : List ℕ) (g : ℕ → ℕ → ℕ) (m : ℕ → ℕ) (on : ℕ → Bool) : Type 0 where
  pub yes : (c : ℕ) → T (mem c cs) → T (on c) → 0 < row_gain cs A g m c
  pub no : (c : ℕ) → T (mem c cs) → on c ≡ false → row_gain cs A g m c ≡ 0

pub solved_dual : {k l : ℕ} {g : ℕ → ℕ → ℕ} {y z m : ℕ → ℕ} → Solved k l g y z m → Dual k l g y z m
solved_dual S = record { feasible = S.feasible; injective = S.injective; equal = S.equal }

module _ (w : ℕ → ℕ → Weight) (s : ℕ) (cs A : List ℕ) (g : ℕ → ℕ → ℕ) (y z m : ℕ → ℕ) (G : Gains w s cs A g) (S : Dual (length cs) (length A) g y z m) (dc : Distinct cs) (dA : Distinct A) where
  -- a row with a gain has a column, and the gain is its branch's
  row_branch : (c : ℕ) → T (mem c cs) → 0 < row_gain cs A g m c → (m (place c cs) < length A) × (column_of cs A m c ≢ s) × (w c (column_of cs A m c) ≡ some (pos (row_gain cs A g m c)))
  unfolding column_of row_gain
  row_branch c t o =
      let i = place c cs in
      let a = gained_some (length A) g m i o in
      let e : gained (length A) g m i ≡ branch_gain w s c (get_or A (m i) 0) = a.1 ∙ G.is i (m i) (place_below c cs t) a.0 ∙ ap (λ (x : ℕ). branch_gain w s x (get_or A (m i) 0)) (at_place c cs t) in
      let b = gain_some w s c (get_or A (m i) 0) (subst (λ (n : ℕ). 0 < n) e o) in
      (a.0, b.0, b.1 ∙ ap (λ (n : ℕ). some (pos n)) (sym e))

  module _ (on : ℕ → Bool) (N : Chosen cs A g m on) where
    pub chosen_assign : Assign w cs (del s A) on (column_of cs A m) (λ c. pos (row_gain cs A g m c))
    unfolding column_of
    chosen_assign = record {
      free = λ c t o. let r = row_branch c t (N.yes c t o) in mem_del (column_of cs A m c) s A (get_d_mem A (m (place c cs)) r.0) r.1;
      apart = λ c d t u o p e.
          let r = row_branch c t (N.yes c t o) in
          let q = row_branch d u (N.yes d u p) in
          let f = S.injective (place c cs) (place d cs) (place_below c cs t) (place_below d cs u) r.0 (at_once A (m (place c cs)) (m (place d cs)) dA r.0 q.0 e) in
          sym (at_place c cs t) ∙ ap (λ (x : ℕ). get_or cs x 0) f ∙ at_place d cs u;
      weighs = λ c t o. (row_branch c t (N.yes c t o)).2;
    }

    pub chosen_gain : gain cs on (λ c. pos (row_gain cs A g m c)) ≡ pos (weight (length cs) (length A) g m)
    unfolding row_gain weight
    chosen_gain =
        lsum_ext cs _ (λ c. pos (row_gain cs A g m c)) (λ c t. picked (on c) (row_gain cs A g m c) (N.no c t))
        ∙ lsum_pos cs (λ c. row_gain cs A g m c)
        ∙ ap pos (nsum_place cs (gained (length A) g m) dc)
      where
        picked : (b : Bool) (n : ℕ) → (b ≡ false → n ≡ 0) → pick b (pos n) ≡ pos n
        picked true n h = refl
        picked false n h = ap pos (sym (h refl))

  covered : Covered w cs (del s A) (λ c. y (place c cs)) (λ x. z (place x A))
  covered = record {
    cover = λ c x t u.
        let q = del_mem x s A u in
        up_most (w c x) (y (place c cs) + z (place x A))
        (let e = G.is (place c cs) (place x A) (place_below c cs t) (place_below x A q.0) in
        let f : branch_gain w s (get_or cs (place c cs) 0) (get_or A (place x A) 0) ≡ branch_gain w s c x = rw (at_place c cs t, at_place x A q.0) in
        omega (arith, e, f, gain_other w s c x q.1, S.feasible (place c cs) (place x A) (place_below c cs t) (place_below x A q.0)));
  }

  positive : Chosen cs A g m (λ c. ltb 0 (row_gain cs A g m c))
  positive = record { yes = λ c t o. ltb-true 0 (row_gain cs A g m c) (T→true _ o); no = λ c t e. let h = ltb-false 0 (row_gain cs A g m c) e in omega arith }

  -- the heaviest matching is the sum of the duals
  pub solved_best : best w cs (del s A) ≡ some (pos (sum (length cs) y + sum (length A) z))
  solved_best = ⊑_antisym (best w cs (del s A)) (some (pos duals)) upper
      (subst (λ (x : ℤ). some x ⊑ best w cs (del s A)) (chosen_gain (λ c. ltb 0 (row_gain cs A g m c)) positive ∙ ap pos S.equal)
      (best_bounds w (λ c. ltb 0 (row_gain cs A g m c)) (column_of cs A m) (λ c. pos (row_gain cs A g m c)) cs (del s A) dc (chosen_assign (λ c. ltb 0 (row_gain cs A g m c)) positive)))
    where
      duals : ℕ
      duals = sum (length cs) y + sum (length A) z

      upper : best w cs (del s A) ⊑ some (pos duals)
      upper = most_more (best w cs (del s A)) (nsum cs (λ c. y (place c cs)) + nsum (del s A) (λ x. z (place x A))) duals
          (best_most w (λ c. y (place c cs)) (λ x. z (place x A)) cs (del s A) covered)
          (omega (arith, del_le s A (λ x. z (place x A)), nsum_place cs y dc, nsum_place A z dA))

  -- and what any choice of the rows with a gain weighs
  pub chosen_best : (on : ℕ → Bool) → Chosen cs A g m on → best w cs (del s A) ≡ some (gain cs on (λ c. pos (row_gain cs A g m c)))
  chosen_best on N = solved_best ∙ ap some (ap pos (sym S.equal) ∙ sym (chosen_gain on N))

-- a vertex without children
pub best_none : (w : ℕ → ℕ → Weight) (cs A : List ℕ) → length cs ≡ 0 → best w cs A ≡ some (pos 0)
unfolding best
best_none w [] A e = refl
best_none w (c ∷ cs) A e = absurd (omega arith)
