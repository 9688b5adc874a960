-- Item 24: the greater of 0 and the largest recorded value with s = v, vertex by vertex, is the model's. Assumes nothing.
use Rattle.std.specs.Prelude.{◌≡◌, refl, Bool, true, false, cond, List, [], ◌∷◌, ◌++◌, ℕ, zero, suc, ◌+◌, ◌*◌, ◌≤◌, ◌<◌, max, length, ℤ, pos, negsuc, ◌+ℤ◌}
use Rattle.std.proofs.Common.{sym, ◌∙◌, add-one}
use Rattle.std.proofs.Math.Path.{ap}
use native.Mathlib.Omega.{arith}
use Rattle.std.specs.Int.Signed.{le_z}
use Rattle.foundations.specs.Int.{up, int, ints, canon}
use Rattle.foundations.specs.Lists.{below}
use Rattle.model.specs.Certificate.{certificate_length, value_in, value_of, eq_z}
use Rattle.model.specs.Lengths.{certificate_head_length}
use Rattle.model.specs.Mapping.{num}
use Rattle.model.specs.Order.{width, offset, index}
use Rattle.model.specs.Tree.{count}
use Rattle.model.specs.Values.{greatest, vertices, largest}
use Rattle.model.specs.Weights.{Weight, none, some, weighed, max_w, is_forbidden}
use Rattle.trees.specs.Positions.{index_own, position_low}
use Rattle.plan.specs.Plan.{place_in, offset_in}
use Rattle.plan.specs.Pairs.{up_w}
use Rattle.records.specs.Places.{Laid, inputs_recorded}
use Rattle.check_records.specs.Gains.{Sits}

-- ---- the greatest of F 0, F 1, .. below n, and 0

unfoldable pub most : (ℕ → ℕ) → ℕ → ℕ
most F zero = 0
most F (suc n) = max (most F n) (F n)

pub most_none : (F : ℕ → ℕ) → 0 ≡ most F 0
unfolding most
most_none F = refl

pub most_more : (F : ℕ → ℕ) (n w x y : ℕ) → w ≡ most F n → x ≡ F n → y ≡ max w x → y ≡ most F (n + 1)
unfolding most
most_more F n w x y a b c = c ∙ rw (add-one n, a, b)

most_ext : (F G : ℕ → ℕ) (n : ℕ) → ((k : ℕ) → F k ≡ G k) → most F n ≡ most G n
unfolding most
most_ext F G zero h = refl
most_ext F G (suc n) h = rw (most_ext F G n h, h n)

-- of u's values
unfoldable pub own_most : List ℕ → List ℕ → List ℕ → ℕ → ℕ
own_most r f z u = most (λ v. up_w (value_of r f z u v v)) (count f)

-- ---- weights as numbers, 0 for a negative or forbidden one

pub up_weighed : (y : ℤ) → up y ≡ up_w (weighed y)
unfolding weighed is_forbidden up_w
up_weighed (pos n) = refl
up_weighed (negsuc n) = go (is_forbidden (negsuc n))
  where
    go : (b : Bool) → up (negsuc n) ≡ up_w (cond b none (some (negsuc n)))
    go true = refl
    go false = refl

up_max : (x y : Weight) → up_w (max_w x y) ≡ max (up_w x) (up_w y)
unfolding up_w
up_max none y = omega arith
up_max (some a) none = omega arith
up_max (some a) (some b) = go (le_z a b) refl
  where
    go : (t : Bool) → le_z a b ≡ t → up_w (cond t (some b) (some a)) ≡ max (up a) (up b)
    go true e = let h : up a ≤ up b = omega (ints, canon a, canon b) in omega arith
    go false e = let h : up b ≤ up a = omega (ints, canon a, canon b) in omega arith

greatest_two : (l m : List ℕ) (F : ℕ → Weight) (d : Weight) → greatest (l ++ m) F d ≡ greatest l F (greatest m F d)
unfolding greatest
greatest_two [] m F d = refl
greatest_two (x ∷ l) m F d = rw (greatest_two l m F d)

up_greatest : (n : ℕ) (F : ℕ → Weight) (d : Weight) → up_w (greatest (below (λ v. true) n) F d) ≡ max (most (λ v. up_w (F v)) n) (up_w d)
unfolding below greatest most
up_greatest zero F d = omega arith
up_greatest (suc n) F d =
    let a = up_greatest n F (max_w (F n) d) in
    let b = up_max (F n) d in
    ap up_w (greatest_two (below (λ v. true) n) (n ∷ []) F d) ∙ a ∙ rw b (omega arith)

-- with 0 among them, the greatest is a number that is not negative
greatest_natural : (l : List ℕ) (F : ℕ → Weight) → (n : ℕ) × (greatest l F (some (pos 0)) ≡ some (pos n))
unfolding greatest
greatest_natural [] F = (0, refl)
greatest_natural (x ∷ l) F = let g = greatest_natural l F in rw g.1 (go (F x) g.0)
  where
    go : (a : Weight) (n : ℕ) → (m : ℕ) × (max_w a (some (pos n)) ≡ some (pos m))
    go none n = (n, refl)
    go (some y) n = pick (le_z y (pos n)) refl
      where
        pick : (t : Bool) → le_z y (pos n) ≡ t → (m : ℕ) × (cond t (some (pos n)) (some y) ≡ some (pos m))
        pick true h = (n, refl)
        pick false h = (up y, ap some (let e : y ≡ pos (up y) = omega (ints, canon y) in e))

greatest_num : (l : List ℕ) (F : ℕ → Weight) → num (greatest l F (some (pos 0))) ≡ pos (up_w (greatest l F (some (pos 0))))
unfolding num up_w
greatest_num l F = rw (greatest_natural l F).1

-- of all it is the model's
pub most_largest : (r f z : List ℕ) (w : ℕ) → w ≡ most (own_most r f z) (count r) → largest r f (value_of r f z) ≡ pos w
unfolding largest own_most
most_largest r f z w e =
    let R = vertices r in
    let F : ℕ → Weight = λ u. greatest (vertices f) (λ v. value_of r f z u v v) none in
    greatest_num R F ∙ ap pos (up_greatest (count r) F (some (pos 0)) ∙ zero_up ∙ most_ext (λ u. up_w (F u)) (own_most r f z) (count r) (λ u. up_greatest (count f) (λ v. value_of r f z u v v) none ∙ zero_row u) ∙ sym e)
  where
    zero_row : (u : ℕ) → max (most (λ v. up_w (value_of r f z u v v)) (count f)) (up_w none) ≡ most (λ v. up_w (value_of r f z u v v)) (count f)
    zero_row u = unfold up_w in omega arith

    zero_up : max (most (λ u. up_w (greatest (vertices f) (λ v. value_of r f z u v v) none)) (count r)) (up_w (some (pos 0))) ≡ most (λ u. up_w (greatest (vertices f) (λ v. value_of r f z u v v) none)) (count r)
    zero_up = unfold up_w in omega arith

-- ---- where the values stand

module _ {r f : List ℕ} {plan places : List (List ℕ)} (L : Laid r f plan places) where
  pub place_low : (u : ℕ) → u < count r → place_in plan u < count r
  place_low u l = rw (L.inputs.ready.planned.recorded u l).place (position_low r (inputs_recorded L.inputs).passed.ends (inputs_recorded L.inputs).passed.tree u l)

  pub own_sits : (v b : ℕ) → v < count f → b ≡ offset_in plan v → Sits f v b
  own_sits v b l e =
      let o : offset_in plan v ≡ offset f v = (L.inputs.ready.planned.found v l).begins in
      record { low = l; from = omega arith; upto = omega arith }

  pub own_value : (z : List ℕ) (u v row b x : ℕ) (y : ℤ) → u < count r → v < count f → row ≡ place_in plan u → b ≡ offset_in plan v → y ≡ value_in r f z (row * width f + b) → x ≡ up y → x ≡ up_w (value_of r f z u v v)
  unfolding value_of
  own_value z u v row b x y lu lv er eb ey ex =
      let n : row * width f + b ≡ index r f u v v = rw (er, eb, (L.inputs.ready.planned.recorded u lu).place, (L.inputs.ready.planned.found v lv).begins) (sym (index_own r f u v)) in
      ex ∙ up_weighed y ∙ ap (λ (t : ℤ). up_w (weighed t)) (ey ∙ ap (value_in r f z) n)

-- ---- item 24's test

-- the head is there
pub long_head : (r f z : List ℕ) → length z ≡ certificate_length r f → certificate_head_length ≤ length z
unfolding certificate_length
long_head r f z e = omega arith

-- a natural number as a sum
pub zero_sum : (x y : ℤ) (w : ℕ) → y ≡ pos w → eq_z x (pos 0 +ℤ pos w) ≡ eq_z x y
zero_sum x y w e = let s : pos 0 +ℤ pos w ≡ y = omega int in ap (eq_z x) s
