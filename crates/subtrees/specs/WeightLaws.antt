-- Laws of weights: the order in which forbidden is least, sums, the greatest over a list. Assumes nothing.
use Rattle.std.specs.Prelude.{◌≡◌, refl, ◌⊎◌, ◌≢◌, Bool, true, false, cond, List, [], ◌∷◌, ℕ, ℤ, ◌+ℤ◌, T}
use Rattle.std.proofs.Common.{sym, ap, ◌∙◌, subst, inl, inr, ⊎_elim}
use Rattle.std.specs.Int.Signed.{≤ℤ_refl, le_z, le_z_yes}
use Rattle.foundations.specs.Int.{ints, ≤ℤ_antisym, ≤ℤ_trans, +ℤ_mono}
use Rattle.foundations.specs.Members.{mem, mem_nil, mem_here, mem_there, mem_cases}
use Rattle.foundations.specs.Tests.{true→T}
use Rattle.model.specs.Mapping.{num}
use Rattle.model.specs.Values.{greatest}
use Rattle.model.specs.Weights.{Weight, none, some, ◌⊑◌, plus_w, max_w}

pub ⊑_refl : (x : Weight) → x ⊑ x
⊑_refl none = tt
⊑_refl (some a) = ≤ℤ_refl a

pub ⊑_trans : (x y z : Weight) → x ⊑ y → y ⊑ z → x ⊑ z
⊑_trans none y z h k = tt
⊑_trans (some a) none z h k = absurd h
⊑_trans (some a) (some b) none h k = k
⊑_trans (some a) (some b) (some c) h k = ≤ℤ_trans h k

pub ⊑_antisym : (x y : Weight) → x ⊑ y → y ⊑ x → x ≡ y
⊑_antisym none none h k = refl
⊑_antisym none (some b) h k = absurd k
⊑_antisym (some a) none h k = absurd h
⊑_antisym (some a) (some b) h k = ap some (≤ℤ_antisym h k)

pub max_l : (x y : Weight) → x ⊑ max_w x y
max_l none y = tt
max_l (some a) none = ≤ℤ_refl a
max_l (some a) (some b) = go (le_z a b) refl
  where
    go : (t : Bool) → le_z a b ≡ t → some a ⊑ cond t (some b) (some a)
    go true e = le_z_yes (true→T e)
    go false e = ≤ℤ_refl a

pub max_r : (x y : Weight) → y ⊑ max_w x y
max_r none y = ⊑_refl y
max_r (some a) none = tt
max_r (some a) (some b) = go (le_z a b) refl
  where
    go : (t : Bool) → le_z a b ≡ t → some b ⊑ cond t (some b) (some a)
    go true e = ≤ℤ_refl b
    go false e = omega ints

pub max_either : (x y : Weight) → (max_w x y ≡ x) ⊎ (max_w x y ≡ y)
max_either none y = inr refl
max_either (some a) none = inl refl
max_either (some a) (some b) = go (le_z a b)
  where
    go : (t : Bool) → (cond t (some b) (some a) ≡ some a) ⊎ (cond t (some b) (some a) ≡ some b)
    go true = inr refl
    go false = inl refl

is_some : Weight → Bool
is_some none = false
is_some (some z) = true

pub none≢some : (z : ℤ) → none ≢ some z
unfolding is_some
none≢some z e = subst (λ (x : Weight). T (is_some x)) (sym e) tt

pub plus_some : (x y : Weight) (z : ℤ) → plus_w x y ≡ some z → (a : ℤ) × (b : ℤ) × (x ≡ some a) × (y ≡ some b) × (z ≡ a +ℤ b)
plus_some none y z e = absurd (none≢some z e)
plus_some (some a) none z e = absurd (none≢some z e)
plus_some (some a) (some b) z e = (a, b, refl, refl, cc)

pub above_some : (z : ℤ) (x : Weight) → some z ⊑ x → (y : ℤ) × (x ≡ some y)
above_some z none h = absurd h
above_some z (some y) h = (y, refl)

pub plus_mono : (x z : ℤ) (y : Weight) → some z ⊑ y → some (x +ℤ z) ⊑ plus_w (some x) y
plus_mono x z none h = h
plus_mono x z (some y) h = +ℤ_mono (≤ℤ_refl x) h

pub plus_right : (x y z : Weight) → y ⊑ z → plus_w x y ⊑ plus_w x z
plus_right none y z h = tt
plus_right (some a) none z h = tt
plus_right (some a) (some b) none h = h
plus_right (some a) (some b) (some c) h = +ℤ_mono (≤ℤ_refl a) h

pub some_num : (x : Weight) → x ≢ none → x ≡ some (num x)
unfolding num
some_num none h = absurd (h refl)
some_num (some z) h = refl

pub some_inj : (a b : ℤ) → some a ≡ some b → a ≡ b
some_inj a b e = cc

-- ---- the greatest of d and f x for the x of a list

pub greatest_default : (l : List ℕ) (f : ℕ → Weight) (d : Weight) → d ⊑ greatest l f d
unfolding greatest
greatest_default [] f d = ⊑_refl d
greatest_default (x ∷ l) f d = ⊑_trans d _ _ (greatest_default l f d) (max_r (f x) (greatest l f d))

pub greatest_at : (l : List ℕ) (f : ℕ → Weight) (d : Weight) (x : ℕ) → T (mem x l) → f x ⊑ greatest l f d
unfolding greatest
greatest_at [] f d x t = absurd (mem_nil x t)
greatest_at (y ∷ l) f d x t = ⊎_elim
    (λ e. rw e (max_l (f y) (greatest l f d)))
    (λ q. ⊑_trans (f x) _ _ (greatest_at l f d x q) (max_r (f y) (greatest l f d)))
    (mem_cases x y l t)

pub greatest_is : (l : List ℕ) (f : ℕ → Weight) (d : Weight) → (greatest l f d ≡ d) ⊎ ((x : ℕ) × T (mem x l) × (greatest l f d ≡ f x))
unfolding greatest
greatest_is [] f d = inl refl
greatest_is (y ∷ l) f d = ⊎_elim
    (λ e. inr (y, mem_here y l, e))
    (λ e. ⊎_elim (λ q. inl (e ∙ q)) (λ q. inr (q.0, mem_there q.0 y l q.1, e ∙ q.2)) (greatest_is l f d))
    (max_either (f y) (greatest l f d))
