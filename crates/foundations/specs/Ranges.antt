-- What iterator chains give, in the words of these laws: `all` is `every`, an array's `map` and `from_fn` are `tab`, `position` is the first place that passes. Assumes nothing.
use Rattle.std.specs.Prelude.{◌≡◌, Bool, true, false, ◌&&◌, Option, Some, None, [], ◌∷◌, length, get_or, take}
use Rattle.std.proofs.Math.Path.{refl}
use Rattle.std.proofs.Common.{Iter, sym, subst, ⊎_elim, ap, ◌∙◌, arith, ℕ, zero, suc, ◌+◌, ◌-◌, ◌<◌, ◌≤◌, List}
use Rattle.std.specs.List.{list_all, range_with_len, FoldsTo, AllWithin, HoldsAt}
use Rattle.std.specs.Array.{IsMapOf, MapsFrom, IsFromFnResult, IsFromFnResultFrom}
use Rattle.std.specs.Slice.Iter.{iter_rest}
use Rattle.std.proofs.lemmas.List.{same_lists, get_or-take, length-take-le}
use denote.Ref.{Bor}
use Rattle.std.specs.Iterator.{YieldsThen}
use Rattle.std.specs.Option.{MatchOption, unwrap_or}
use Rattle.std.proofs.lemmas.List.FromFn.{length-range_with_len, get_or-range_with_len}
use Rattle.std.specs.Fn.{Called}
use Rattle.std.specs.declared.ops.Range.{Range}
use Rattle.std.proofs.iter.Yields.{nat_range_steps, fronts}
use Rattle.std.proofs.lemmas.Iterator.{YieldsList-from_range, YieldsList-from_slice, IsFirst-from_position}
use Rattle.std.proofs.lemmas.Iterator.Search.{all_from_yields_List}
use denote.Param.Members.{Mut}
use Rattle.foundations.specs.Tests.{same?}
use Rattle.foundations.specs.Lists.{every, every_first, every_ext, tab, length_tab, get_d_tab}

-- the test of every number from a on
all_range : (p : ℕ → Bool) (a n : ℕ) → list_all p (range_with_len a n) ≡ every (λ k. p (a + k)) n
unfolding every
all_range p a zero = refl
all_range p a (suc n) = rw (all_range p (a + 1) n) (sym (every_first p a n))

pub every_from_all : {F : Type 0} {g : Mut F (ℕ × Unit {0}) Bool} {s : Range ℕ} (p : ℕ → Bool) (u : Range ℕ) (f : F) (r : Bool)
    → (xs : List ℕ) × (o : Option ℕ) × (j : F) × YieldsThen nat_range_steps s xs o u × FoldsTo (λ q x t. Called g q (x, tt) true t) f xs j
    × MatchOption o (r ≡ true) (λ x. (r ≡ false) × ((h : F) × Called g j (x, tt) false h))
    → s.start ≡ 0 → ((x : ℕ) (b : Bool) (q : F) → Called g f (x, tt) b q → (q ≡ f) × (b ≡ p x)) → r ≡ every p s.end
every_from_all {s = s} p u f r d z k =
    let e : s.end - s.start ≡ s.end = omega arith in
    all_from_yields_List p u f r d (YieldsList-from_range s.start s.end s.end refl e) k ∙ (ap (λ a. list_all p (range_with_len a s.end)) z ∙ (all_range p 0 s.end ∙ every_ext (λ k. p (0 + k)) p s.end (λ k l. let g : 0 + k ≡ k = omega arith in ap p g)))

-- the test of every element
all_list : (p : ℕ → Bool) (xs : List ℕ) → list_all p xs ≡ every (λ k. p (get_or xs k 0)) (length xs)
unfolding every
all_list p [] = refl
all_list p (x ∷ xs) =
    ap (λ b. p x && b) (all_list p xs ∙ every_ext (λ k. p (get_or xs k 0)) (λ k. p (get_or (x ∷ xs) (0 + 1 + k) 0)) (length xs) (λ k l. let g : 0 + 1 + k ≡ suc k = omega arith in rw g))
    ∙ (sym (every_first (λ k. p (get_or (x ∷ xs) k 0)) 0 (length xs)) ∙ every_ext (λ k. p (get_or (x ∷ xs) (0 + k) 0)) (λ k. p (get_or (x ∷ xs) k 0)) (suc (length xs)) (λ k l. let g : 0 + k ≡ k = omega arith in rw g))

pub every_from_slice : {F : Type 0} {g : Mut F (Bor ℕ × Unit {0}) Bool} {s : Iter ℕ} (p : ℕ → Bool) (u : Iter ℕ) (f : F) (r : Bool)
    → (xs : List (Bor ℕ)) × (o : Option (Bor ℕ)) × (j : F) × YieldsThen fronts s xs o u × FoldsTo (λ q x t. Called g q (x, tt) true t) f xs j
    × MatchOption o (r ≡ true) (λ x. (r ≡ false) × ((h : F) × Called g j (x, tt) false h))
    → (xs : List ℕ) → iter_rest s ≡ xs → ((x : Bor ℕ) (b : Bool) (q : F) → Called g f (x, tt) b q → (q ≡ f) × (b ≡ p x.now)) → r ≡ every (λ k. p (get_or xs k 0)) (length xs)
every_from_slice p u f r d xs e k = all_from_yields_List {v = λ y. y.now} p u f r d (YieldsList-from_slice xs e) k ∙ all_list p xs

-- the same over the first n elements, `xs[..n]`
pub every_from_front : {F : Type 0} {g : Mut F (Bor ℕ × Unit {0}) Bool} {s : Iter ℕ} (p : ℕ → Bool) (u : Iter ℕ) (f : F) (r : Bool)
    → (xs : List (Bor ℕ)) × (o : Option (Bor ℕ)) × (j : F) × YieldsThen fronts s xs o u × FoldsTo (λ q x t. Called g q (x, tt) true t) f xs j
    × MatchOption o (r ≡ true) (λ x. (r ≡ false) × ((h : F) × Called g j (x, tt) false h))
    → (n : ℕ) (xs : List ℕ) → iter_rest s ≡ take n xs → n ≤ length xs → ((x : Bor ℕ) (b : Bool) (q : F) → Called g f (x, tt) b q → (q ≡ f) × (b ≡ p x.now)) → r ≡ every (λ k. p (get_or xs k 0)) n
every_from_front p u f r d n xs e l k =
    let t : length (take n xs) ≡ n = length-take-le n xs l in
    every_from_slice p u f r d (take n xs) e k ∙ (ap (every (λ k. p (get_or (take n xs) k 0))) t ∙ every_ext (λ k. p (get_or (take n xs) k 0)) (λ k. p (get_or xs k 0)) n (λ k b. ap p (get_or-take n xs k 0 b)))

-- ---- arrays made by a closure

-- what a relation of each call's number and result says of the two arrays
maps_at : {F A : Type 0} {g : Mut F (ℕ × Unit {0}) A} {f : F} (xs : List ℕ) (ys : List A) (R : ℕ → A → Type 0) → ((x : ℕ) (y : A) (q : F) → Called g f (x, tt) y q → (q ≡ f) × R x y)
    → (n i k : ℕ) (d : A) → MapsFrom g f xs ys i n → i ≤ k → k < i + n → R (get_or xs k 0) (get_or ys k d)
maps_at xs ys R c zero i k d m l u = absurd (omega arith)
maps_at {g = g} {f} xs ys R c (suc n) i k d m l u = ⊎_elim
    (λ e. subst (λ z. R (get_or xs z 0) (get_or ys z d)) (sym e) (subst (λ z. R z (get_or ys i d)) (sym (m.3.1 0)) (subst (R m.1) (sym (m.4.1 d)) (c m.1 m.2 m.0 m.5).1)))
    (λ e. maps_at xs ys R c n (i + 1) k d (subst (λ q. MapsFrom g q xs ys (i + 1) n) (c m.1 m.2 m.0 m.5).0 m.6) (omega arith) (omega arith))
    (same? k i)

pub relates_from_map : {F A : Type 0} {g : Mut F (ℕ × Unit {0}) A} {f : F} {xs : List ℕ} {ys : List A} {n : ℕ} (R : ℕ → A → Type 0) → IsMapOf g f xs ys n → ((x : ℕ) (y : A) (q : F) → Called g f (x, tt) y q → (q ≡ f) × R x y) → (k : ℕ) (d : A) → k < n → R (get_or xs k 0) (get_or ys k d)
relates_from_map {xs = xs} {ys} {n} R m c k d l = maps_at xs ys R c n 0 k d m.each (omega arith) (omega arith)

pub tab_from_map : {F A : Type 0} {g : Mut F (ℕ × Unit {0}) A} {f : F} {xs : List ℕ} {ys : List A} {n : ℕ} (h : ℕ → A) → IsMapOf g f xs ys n → ((x : ℕ) (y : A) (q : F) → Called g f (x, tt) y q → (q ≡ f) × (y ≡ h x)) → ys ≡ tab (λ i. h (get_or xs i 0)) n
tab_from_map {xs = xs} {ys} {n} h m c =
    same_lists ys (tab (λ i. h (get_or xs i 0)) n) (m.long ∙ sym (length_tab (λ i. h (get_or xs i 0)) n))
    (λ k d l. let b : k < n = let e = m.long in omega arith in relates_from_map (λ x y. y ≡ h x) m c k d b ∙ sym (get_d_tab (λ i. h (get_or xs i 0)) n k d b))

calls_at : {F A : Type 0} {g : Mut F (ℕ × Unit {0}) A} {f : F} (ys : List A) (h : ℕ → A) (e : ℕ) → ((x : ℕ) (y : A) (q : F) → x < e → Called g f (x, tt) y q → (q ≡ f) × (y ≡ h x))
    → (n i k : ℕ) (d : A) → IsFromFnResultFrom g f ys i n → i + n ≤ e → i ≤ k → k < i + n → get_or ys k d ≡ h k
calls_at ys h e c zero i k d m o l u = absurd (omega arith)
calls_at {g = g} {f} ys h e c (suc n) i k d m o l u =
    let r = c i m.1 m.0 (omega arith) m.3 in
    ⊎_elim
    (λ q. rw q (m.2.1 d ∙ r.1))
    (λ q. calls_at ys h e c n (i + 1) k d (subst (λ t. IsFromFnResultFrom g t ys (i + 1) n) r.0 m.4) (omega arith) (omega arith) (omega arith))
    (same? k i)

pub tab_from_fn : {F A : Type 0} {g : Mut F (ℕ × Unit {0}) A} {f : F} {ys : List A} {n : ℕ} (h : ℕ → A) → IsFromFnResult g f ys n → ((x : ℕ) (y : A) (q : F) → x < n → Called g f (x, tt) y q → (q ≡ f) × (y ≡ h x)) → ys ≡ tab h n
tab_from_fn {ys = ys} {n} h m c =
    same_lists ys (tab h n) (m.long ∙ sym (length_tab h n)) (λ k d l. let b : k < n = let e = m.long in omega arith in calls_at ys h n c n 0 k d m.each (omega arith) (omega arith) (omega arith) ∙ sym (get_d_tab h n k d b))

-- ---- the first place at which a test passes

-- among the n places from 0 on, `position` gave r
abbrev pub FirstOf : (ℕ → Bool) → ℕ → Option ℕ → Type 0
FirstOf p n r = MatchOption r ((k : ℕ) → k < n → p k ≡ false) (λ i. (i < n) × (p i ≡ true) × ((k : ℕ) → k < i → p k ≡ false))

first_of_list : (p : ℕ → Bool) (xs : List ℕ) (r : Option ℕ) → MatchOption r (AllWithin (λ x. p x ≡ false) xs 0 (length xs)) (λ i. (i < length xs) × HoldsAt (λ x. p x ≡ true) xs i × AllWithin (λ x. p x ≡ false) xs 0 i) → FirstOf (λ k. p (get_or xs k 0)) (length xs) r
first_of_list p xs None h = λ k l. h k 0 (omega arith) l
first_of_list p xs (Some i) h = (h.0, h.1 0, λ k l. h.2 k 0 (omega arith) l)

pub first_from_slice : {F : Type 0} {g : Mut F (Bor ℕ × Unit {0}) Bool} {s : Iter ℕ} (p : ℕ → Bool) (u : Iter ℕ) (f : F) (r : Option ℕ)
    → (xs : List (Bor ℕ)) × (o : Option (Bor ℕ)) × (j : F) × YieldsThen fronts s xs o u × FoldsTo (λ q x t. Called g q (x, tt) false t) f xs j
    × MatchOption o (r ≡ None) (λ x. (r ≡ Some (length xs)) × ((h : F) × Called g j (x, tt) true h))
    → (xs : List ℕ) → iter_rest s ≡ xs → ((x : Bor ℕ) (b : Bool) (q : F) → Called g f (x, tt) b q → (q ≡ f) × (b ≡ p x.now)) → FirstOf (λ k. p (get_or xs k 0)) (length xs) r
first_from_slice p u f r d xs e k = first_of_list p xs r (IsFirst-from_position {v = λ y. y.now} u f r (λ x. p x ≡ true) (λ x. p x ≡ false) d (YieldsList-from_slice xs e) (λ x q c. sym (k x true q c).1) (λ x q c. ((k x false q c).0, sym (k x false q c).1)))

first_in_range : (p : ℕ → Bool) (a n : ℕ) (r : Option ℕ) → a ≡ 0 → MatchOption r (AllWithin (λ x. p x ≡ false) (range_with_len a n) 0 (length (range_with_len a n))) (λ i. (i < length (range_with_len a n)) × HoldsAt (λ x. p x ≡ true) (range_with_len a n) i × AllWithin (λ x. p x ≡ false) (range_with_len a n) 0 i) → FirstOf p n r
first_in_range p a n None z h = λ k l.
    let e = length-range_with_len a n in
    let g : a + k ≡ k = omega arith in ap p (sym (get_or-range_with_len a n k 0 l ∙ g)) ∙ h k 0 (omega arith) (omega arith)
first_in_range p a n (Some i) z h =
    let e = length-range_with_len a n in
    let l : i < n = let low = h.0 in omega arith in
    let g : (k : ℕ) → k < n → get_or (range_with_len a n) k 0 ≡ k = λ k b. let y : a + k ≡ k = omega arith in get_or-range_with_len a n k 0 b ∙ y in
    (l, ap p (sym (g i l)) ∙ h.1 0, λ k b. ap p (sym (g k (omega arith))) ∙ h.2 k 0 (omega arith) b)

pub first_from_range : {F : Type 0} {g : Mut F (ℕ × Unit {0}) Bool} {s : Range ℕ} (p : ℕ → Bool) (u : Range ℕ) (f : F) (r : Option ℕ)
    → (xs : List ℕ) × (o : Option ℕ) × (j : F) × YieldsThen nat_range_steps s xs o u × FoldsTo (λ q x t. Called g q (x, tt) false t) f xs j
    × MatchOption o (r ≡ None) (λ x. (r ≡ Some (length xs)) × ((h : F) × Called g j (x, tt) true h))
    → s.start ≡ 0 → ((x : ℕ) (b : Bool) (q : F) → Called g f (x, tt) b q → (q ≡ f) × (b ≡ p x)) → FirstOf p s.end r
first_from_range {s = s} p u f r d z k =
    let e : s.end - s.start ≡ s.end = omega arith in
    first_in_range p s.start s.end r z (IsFirst-from_position u f r (λ x. p x ≡ true) (λ x. p x ≡ false) d (YieldsList-from_range s.start s.end s.end refl e) (λ x q c. sym (k x true q c).1) (λ x q c. ((k x false q c).0, sym (k x false q c).1)))

-- with n for none
pub record FirstOr (p : ℕ → Bool) (n i : ℕ) : Type 0 where
  pub few : i ≤ n
  pub before : (k : ℕ) → k < i → p k ≡ false
  pub here : i < n → p i ≡ true

pub first_or : {p : ℕ → Bool} {n : ℕ} (r : Option ℕ) → FirstOf p n r → FirstOr p n (unwrap_or r n)
first_or None h = record { few = omega arith; before = h; here = λ l. absurd (omega arith) }
first_or (Some i) h = record { few = let l = h.0 in omega arith; before = h.2; here = λ l. h.1 }
