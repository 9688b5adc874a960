-- Lists that loops build: tests over a range, tables filled from the front, numbers that pass a test, fixed places. Assumes nothing.
use Rattle.std.specs.Prelude.{◌≡◌, Bool, true, false, ◌&&◌, cond, length, set, take, drop, replicate}
use Rattle.std.proofs.Math.Path.{refl}
use Rattle.std.proofs.Common.{sym, ap, ◌∙◌, ⊎_elim, arith, add-one, length-append, drop_of_length-le, take_all, take-suc}
use mathlib.Core.List.{List, [], ◌∷◌, ◌++◌, append_assoc, append-nil}
use Prim.Native.Nat.{ℕ, zero, suc, ◌+◌, ◌-◌, ◌≤◌, ◌<◌, min}
use Rattle.std.proofs.Math.Decide.{ℕ_discrete}
use Rattle.std.proofs.Math.ListN.{get_or, get_or-append}
use Rattle.std.proofs.lemmas.List.{length-replicate, get_or_at, take-append-le}
use Rattle.std.proofs.Math.Seq.{set_at, drop-cons}
use Rattle.foundations.specs.Tests.{and_split, and_false, same?}
use Rattle.foundations.specs.Counting.{cnt}

-- ---- every number below k passes the test

unfoldable pub every : (ℕ → Bool) → ℕ → Bool
every p zero = true
every p (suc k) = every p k && p k

-- a loop that gathers a test: one turn, and the end
pub every_step : (p : ℕ → Bool) (i : ℕ) (ok k : Bool) → ok ≡ every p i → k ≡ p i → (ok && k) ≡ every p (i + 1)
unfolding every
every_step p i ok k h e = rw (add-one, every, h, e)

pub every_end : (p : ℕ → Bool) (i n : ℕ) (ok : Bool) → ok ≡ every p i → i ≡ n → ok ≡ every p n
every_end p i n ok h e = rw (← e) h

pub every_at : (p : ℕ → Bool) (k n : ℕ) → every p n ≡ true → k < n → p k ≡ true
unfolding every
every_at p k zero h l = absurd (omega arith)
every_at p k (suc n) h l = go (ℕ_discrete k n) (every_at p k n (and_split (every p n) (p n) h).0)
  where
    go : Dec (k ≡ n) → (k < n → p k ≡ true) → p k ≡ true
    go (yes q) r = rw q (and_split (every p n) (p n) h).1
    go (no q) r = r (omega arith)

pub every_all : (p : ℕ → Bool) (n : ℕ) → ((k : ℕ) → k < n → p k ≡ true) → every p n ≡ true
unfolding every
every_all p zero h = refl
every_all p (suc n) h = rw (every_all p n (λ k l. h k (omega arith)), h n (omega arith))

pub every_ext : (p q : ℕ → Bool) (n : ℕ) → ((k : ℕ) → k < n → p k ≡ q k) → every p n ≡ every q n
unfolding every
every_ext p q zero h = refl
every_ext p q (suc n) h = rw (every_ext p q n (λ k l. h k (omega arith)), h n (omega arith))

pub every_fails : (p : ℕ → Bool) (k n : ℕ) → k < n → p k ≡ false → every p n ≡ false
unfolding every
every_fails p k zero h e = absurd (omega arith)
every_fails p k (suc n) h e = go (ℕ_discrete k n) (λ l. every_fails p k n l e)
  where
    go : Dec (k ≡ n) → (k < n → every p n ≡ false) → (every p n && p n) ≡ false
    go (yes q) r = rw (← q, e) (and_false (every p k))
    go (no q) r = rw (r (omega arith))

and_assoc : (a b c : Bool) → (a && (b && c)) ≡ ((a && b) && c)
and_assoc true b c = refl
and_assoc false b c = refl

and_one : (a : Bool) → a ≡ (a && true)
and_one true = refl
and_one false = refl

-- a test over a + b numbers
pub every_sum : (p : ℕ → Bool) (a b : ℕ) → every p (a + b) ≡ (every p a && every (λ k. p (a + k)) b)
unfolding every
every_sum p a zero = let e : a + 0 ≡ a = omega arith in rw e (and_one (every p a))
every_sum p a (suc b) = let e : a + suc b ≡ suc (a + b) = omega arith in rw (e, every_sum p a b) (sym (and_assoc (every p a) (every (λ k. p (a + k)) b) (p (a + b))))

-- the first of n + 1 numbers, and the others
pub every_first : (p : ℕ → Bool) (a n : ℕ) → every (λ k. p (a + k)) (suc n) ≡ (p a && every (λ k. p (a + 1 + k)) n)
unfolding every
every_first p a n =
    let e : suc n ≡ 1 + n = omega arith in
    let z : a + 0 ≡ a = omega arith in
    ap (every (λ k. p (a + k))) e ∙ (every_sum (λ k. p (a + k)) 1 n ∙ (ap (λ x. p x && every (λ k. p (a + (1 + k))) n) z
    ∙ ap (λ b. p a && b) (every_ext (λ k. p (a + (1 + k))) (λ k. p (a + 1 + k)) n (λ k l. let g : a + (1 + k) ≡ a + 1 + k = omega arith in ap p g))))

-- ---- the values of f at 0, 1, .. below k

module _ {A : Type 0} where
  unfoldable pub tab : (ℕ → A) → ℕ → List A
  tab f zero = []
  tab f (suc k) = tab f k ++ (f k ∷ [])

module _ {A : Type 0} (f : ℕ → A) where
  pub length_tab : (k : ℕ) → length (tab f k) ≡ k
  unfolding tab
  length_tab zero = refl
  length_tab (suc k) = simp (length-append, length_tab k, add-one)

  pub get_d_tab : (k i : ℕ) (d : A) → i < k → get_or (tab f k) i d ≡ f i
  unfolding tab
  get_d_tab zero i d h = absurd (omega arith)
  get_d_tab (suc k) i d h = go (ℕ_discrete i k) (get_d_tab k i d)
    where
      go : Dec (i ≡ k) → (i < k → get_or (tab f k) i d ≡ f i) → get_or (tab f k ++ (f k ∷ [])) i d ≡ f i
      go (yes q) r = rw q (get_or_at (tab f k) (f k) [] d k (length_tab k))
      go (no q) r = get_or-append (tab f k) (f k ∷ []) d i (rw length_tab (omega arith)) ∙ r (omega arith)

  -- over a list d that is longer: one more value stored
  pub tab_more : (d : List A) (v : ℕ) → v < length d → set (tab f v ++ drop v d) v (f v) ≡ tab f (v + 1) ++ drop (v + 1) d
  unfolding tab
  tab_more d v h = rw (add-one, drop-cons d v (f v) h, set_at (tab f v) (get_or d v (f v)) (drop (suc v) d) (f v) v (length_tab v), append_assoc)

pub tab_ext : {A : Type 0} (f g : ℕ → A) (k : ℕ) → ((x : ℕ) → x < k → f x ≡ g x) → tab f k ≡ tab g k
unfolding tab
tab_ext f g zero h = refl
tab_ext f g (suc k) h = rw (tab_ext f g k (λ x l. h x (omega arith)), h k (omega arith))

pub take_tab : {A : Type 0} (g : ℕ → A) (k n : ℕ) → k ≤ n → take k (tab g n) ≡ tab g k
unfolding tab
take_tab g k zero h = let e : k ≡ 0 = omega arith in rw e
take_tab g k (suc n) h = ⊎_elim
    (λ e. rw e (take_all (suc n) (tab g n ++ (g n ∷ [])) (rw (length-append, length_tab) (omega arith))))
    (λ e. let l : k ≤ n = omega arith in take-append-le k (tab g n) (g n ∷ []) (rw length_tab l) ∙ take_tab g k n l)
    (same? k (suc n))

-- ---- the numbers below k that pass a test, ascending

unfoldable pub below : (ℕ → Bool) → ℕ → List ℕ
below p zero = []
below p (suc k) = below p k ++ cond (p k) (k ∷ []) []

pub below_ext : (p q : ℕ → Bool) (k : ℕ) → ((w : ℕ) → w < k → p w ≡ q w) → below p k ≡ below q k
unfolding below
below_ext p q zero h = refl
below_ext p q (suc k) h = rw (below_ext p q k (λ w l. h w (omega arith)), h k (omega arith))

pub length_below : (p : ℕ → Bool) (k : ℕ) → length (below p k) ≡ cnt p k
unfolding below cnt
length_below p zero = refl
length_below p (suc k) = length-append (below p k) (cond (p k) (k ∷ []) []) ∙ step (p k) (length_below p k)
  where
    step : (t : Bool) → length (below p k) ≡ cnt p k → length (below p k) + length (cond t (k ∷ []) []) ≡ cnt p k + cond t 1 0
    step true e = omega arith
    step false e = omega arith

-- ---- n places: a list's first n, then z

module _ {A : Type 0} where
  unfoldable pub places : ℕ → A → List A → List A
  places n z l = take n l ++ replicate (n - length l) z

-- an array that holds a list in n places, and how many of them are used
pub record Holds (n z : ℕ) (l at : List ℕ) (len : ℕ) : Type 0 where
  pub held : at ≡ places n z l
  pub used : len ≡ min n (length l)

pub holds_none : (n z : ℕ) → Holds n z [] (replicate n z) 0
unfolding places
holds_none n z = record { held = none n; used = omega arith }
  where
    none : (n : ℕ) → replicate n z ≡ take n [] ++ replicate (n - 0) z
    none zero = refl
    none (suc n) = let e : suc n - 0 ≡ suc n = omega arith in rw e

pub holds_more : (n z : ℕ) (l at : List ℕ) (len x : ℕ) → Holds n z l at len → len < n → Holds n z (l ++ (x ∷ [])) (set at len x) (len + 1)
unfolding places
holds_more n z l at len x h less =
    let u : len ≡ min n (length l) = h.used in
    let k : len ≡ length l = omega arith in
    let long : length (l ++ (x ∷ [])) ≡ length l + 1 = length-append l (x ∷ []) in
    let a : n - length l ≡ suc (n - suc (length l)) = omega arith in
    let b : n - length (l ++ (x ∷ [])) ≡ n - suc (length l) = omega arith in
    record {
      held = rw (h.held, take_all n l (omega arith), take_all n (l ++ (x ∷ [])) (omega arith), k, a, b, set_at l z (replicate (n - suc (length l)) z) x (length l) refl) (sym (append_assoc l (x ∷ []) (replicate (n - suc (length l)) z)));
      used = omega arith;
    }

pub holds_full : (n z : ℕ) (l at : List ℕ) (len x : ℕ) → Holds n z l at len → n ≤ len → Holds n z (l ++ (x ∷ [])) at len
unfolding places
holds_full n z l at len x h full =
    let u : len ≡ min n (length l) = h.used in
    let long : length (l ++ (x ∷ [])) ≡ length l + 1 = length-append l (x ∷ []) in
    let a : n - length l ≡ 0 = omega arith in
    let b : n - length (l ++ (x ∷ [])) ≡ 0 = omega arith in
    record { held = rw (take-append-le n l (x ∷ []) (omega arith), b) (rw a at h.held); used = omega arith }

-- a list that fits stands in its places whole
pub places_fit : {A : Type 0} (n : ℕ) (z : A) (l : List A) → length l ≤ n → places n z l ≡ l ++ replicate (n - length l) z
unfolding places
places_fit n z l h = rw (take_all n l h)

-- ---- the lists that f gives for the elements of a list, one after the other

unfoldable pub cat : (ℕ → List ℕ) → List ℕ → List ℕ
cat f [] = []
cat f (x ∷ l) = f x ++ cat f l

pub cat_append : (f : ℕ → List ℕ) (l m : List ℕ) → cat f (l ++ m) ≡ cat f l ++ cat f m
unfolding cat
cat_append f [] m = refl
cat_append f (x ∷ l) m = rw (cat_append f l m, append_assoc)

pub cat_none : (f : ℕ → List ℕ) (x k : ℕ) → f x ≡ [] → cat f (replicate k x) ≡ []
unfolding cat
cat_none f x zero h = refl
cat_none f x (suc k) h = rw (h, cat_none f x k h)

pub cat_filter : (g : ℕ → List ℕ) (p q : ℕ → Bool) (k : ℕ) → cat (λ w. cond (q w) (g w) []) (below p k) ≡ cat g (below (λ w. p w && q w) k)
unfolding cat below
cat_filter g p q zero = refl
cat_filter g p q (suc k) =
    cat_append (λ w. cond (q w) (g w) []) (below p k) (cond (p k) (k ∷ []) [])
    ∙ ap (λ m. m ++ cat (λ w. cond (q w) (g w) []) (cond (p k) (k ∷ []) [])) (cat_filter g p q k)
    ∙ ap (λ m. cat g (below (λ w. p w && q w) k) ++ m) (step (p k) (q k) refl)
    ∙ sym (cat_append g (below (λ w. p w && q w) k) (cond (p k && q k) (k ∷ []) []))
  where
    step : (t u : Bool) → q k ≡ u → cat (λ w. cond (q w) (g w) []) (cond t (k ∷ []) []) ≡ cat g (cond (t && u) (k ∷ []) [])
    step true true e = rw e
    step true false e = rw e
    step false u e = refl

pub cat_ext : (g h : ℕ → List ℕ) (p : ℕ → Bool) (k : ℕ) → ((w : ℕ) → w < k → p w ≡ true → g w ≡ h w) → cat g (below p k) ≡ cat h (below p k)
unfolding cat below
cat_ext g h p zero e = refl
cat_ext g h p (suc k) e =
    cat_append g (below p k) (cond (p k) (k ∷ []) [])
    ∙ ap (λ m. m ++ cat g (cond (p k) (k ∷ []) [])) (cat_ext g h p k (λ w l. e w (omega arith)))
    ∙ ap (λ m. cat h (below p k) ++ m) (step (p k) refl)
    ∙ sym (cat_append h (below p k) (cond (p k) (k ∷ []) []))
  where
    step : (t : Bool) → p k ≡ t → cat g (cond t (k ∷ []) []) ≡ cat h (cond t (k ∷ []) [])
    step true q = rw (e k (omega arith) q)
    step false q = refl

-- the same by index: of a list's first i places
unfoldable pub gather : (ℕ → List ℕ) → List ℕ → ℕ → List ℕ
gather f row zero = []
gather f row (suc i) = gather f row i ++ f (get_or row i 0)

pub gather_cat : (f : ℕ → List ℕ) (row : List ℕ) (i : ℕ) → i ≤ length row → gather f row i ≡ cat f (take i row)
unfolding gather cat
gather_cat f row zero h = refl
gather_cat f row (suc i) h = rw (take-suc row i 0 h, cat_append, gather_cat f row i (omega arith)) (ap (λ m. cat f (take i row) ++ m) (sym (append-nil (f (get_or row i 0)))))

-- free places give nothing
pub gather_places : (f : ℕ → List ℕ) (n z : ℕ) (l : List ℕ) → length l ≤ n → f z ≡ [] → gather f (places n z l) n ≡ cat f l
gather_places f n z l h e =
    let long : length (l ++ replicate (n - length l) z) ≡ n = length-append l (replicate (n - length l) z) ∙ rw (length-replicate {A = ℕ} (n - length l) z) (omega arith) in
    rw (places_fit n z l h) (gather_cat f (l ++ replicate (n - length l) z) n (omega arith) ∙ rw (take_all n (l ++ replicate (n - length l) z) (omega arith), cat_append, cat_none f z (n - length l) e, append-nil))
