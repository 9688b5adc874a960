-- A row of places in which numbers stand ascending, each once, then `no_vertex`: putting one number in, whatever the order in which they come. Assumes nothing.
use Rattle.std.specs.Prelude.{◌≡◌, refl, ◌≢◌, Bool, true, false, ◌||◌, cond, List, [], ◌∷◌, ◌++◌, ℕ, zero, suc, ◌+◌, ◌-◌, ◌≤◌, ◌<◌, min, max, length, get_or, set, take, drop, replicate, eqb}
use Rattle.std.proofs.Common.{sym, ap, ◌∙◌, ⊎_elim, append-nil, append_assoc, arith, add-one, length-set, drop_of_length-le, take-append-drop, take_all, drop-cons, take-suc-set, drop-set-lt, eq-eqb, ne_eqb}
use Rattle.std.proofs.Math.Seq.{take-nil}
use Rattle.foundations.specs.Tests.{same?, or_true, or_false}
use Rattle.foundations.specs.Lists.{below, below_ext, places}
use Rattle.foundations.specs.Members.{Below}
use Rattle.model.specs.Limits.{degree_limit, no_vertex}

-- what is carried on from a place that held x: the greater of the two, and `no_vertex`, nothing, where they are the same
unfoldable pub carried : ℕ → ℕ → ℕ
carried x c = cond (eqb x c) no_vertex (max x c)

-- c put into a row: at each place the lesser stays, until nothing is carried; what is carried past the last place falls out
unfoldable pub put_in : ℕ → List ℕ → List ℕ
put_in c [] = []
put_in c (x ∷ l) = cond (eqb c no_vertex) (x ∷ l) (min x c ∷ put_in (carried x c) l)

-- the same into a list of any length
unfoldable pub insert : ℕ → List ℕ → List ℕ
insert c [] = c ∷ []
insert c (x ∷ l) = cond (eqb x c) (x ∷ l) (min x c ∷ insert (max x c) l)

-- ---- in a row of places

pub carried_same : (x c : ℕ) → x ≡ c → carried x c ≡ no_vertex
unfolding carried
carried_same x c e = rw (eq-eqb x c e)

pub carried_other : (x c : ℕ) → x ≢ c → carried x c ≡ max x c
unfolding carried
carried_other x c e = rw (ne_eqb x c e)

insert_same : (x c : ℕ) (l : List ℕ) → x ≡ c → insert c (x ∷ l) ≡ x ∷ l
unfolding insert
insert_same x c l e = rw (eq-eqb x c e)

insert_other : (x c : ℕ) (l : List ℕ) → x ≢ c → insert c (x ∷ l) ≡ min x c ∷ insert (max x c) l
unfolding insert
insert_other x c l e = rw (ne_eqb x c e)

put_nothing : (l : List ℕ) → put_in no_vertex l ≡ l
unfolding put_in
put_nothing [] = refl
put_nothing (x ∷ l) = refl

put_some : (c x : ℕ) (l : List ℕ) → c ≢ no_vertex → put_in c (x ∷ l) ≡ min x c ∷ put_in (carried x c) l
unfolding put_in
put_some c x l n = rw (ne_eqb c no_vertex n)

no_places : (l : List ℕ) → places 0 no_vertex l ≡ []
unfolding places
no_places l = let e : 0 - length l ≡ 0 = omega arith in rw e

all_free : (k : ℕ) → places {A = ℕ} k no_vertex [] ≡ replicate k no_vertex
unfolding places
all_free k = let e : k - 0 ≡ k = omega arith in let t : take {A = ℕ} k [] ≡ [] = take-nil k in rw (t, e)

places_cons : (k x : ℕ) (l : List ℕ) → places (suc k) no_vertex (x ∷ l) ≡ x ∷ places k no_vertex l
unfolding places
places_cons k x l = let e : suc k - length (x ∷ l) ≡ k - length l = omega arith in ap (λ q. x ∷ (take k l ++ replicate q no_vertex)) e

pub in_places_lem : (k c : ℕ) (l : List ℕ) → c < no_vertex → Below no_vertex l → put_in c (places k no_vertex l) ≡ places k no_vertex (insert c l)
unfolding put_in insert
in_places_lem zero c l h b = rw (no_places l, no_places (insert c l))
in_places_lem (suc k) c [] h b =
    let m : min no_vertex c ≡ c = omega arith in
    let g : max no_vertex c ≡ no_vertex = omega arith in
    let d : carried no_vertex c ≡ no_vertex = carried_other no_vertex c (λ e. omega arith) ∙ g in
    rw (all_free (suc k), places_cons k c [], all_free k, put_some c no_vertex (replicate k no_vertex) (λ e. omega arith), m, d, put_nothing (replicate k no_vertex))
in_places_lem (suc k) c (x ∷ l) h b = ⊎_elim
    (λ e. let m : min x c ≡ x = omega arith in rw (places_cons k x l, some, carried_same x c e, insert_same x c l e, m, places_cons k x l, put_nothing (places k no_vertex l)))
    (λ e. rw (places_cons k x l, some, carried_other x c e, insert_other x c l e, places_cons k (min x c) (insert (max x c) l)) (ap (λ r. min x c ∷ r) (in_places_lem k (max x c) l (let a : x < no_vertex = b.0 in omega arith) b.1)))
    (same? x c)
  where
    some : put_in c (x ∷ places k no_vertex l) ≡ min x c ∷ put_in (carried x c) (places k no_vertex l)
    some = put_some c x (places k no_vertex l) (λ e. omega arith)

-- ---- a number more that passes the test

below_snoc : (n x : ℕ) (l : List ℕ) → Below n l → x < n → Below n (l ++ (x ∷ []))
below_snoc n x [] b h = (h, tt)
below_snoc n x (y ∷ l) b h = (b.0, below_snoc n x l b.1 h)

below_up : (n m : ℕ) (l : List ℕ) → n ≤ m → Below n l → Below m l
below_up n m [] h b = tt
below_up n m (y ∷ l) h b = (omega (arith, b.0), below_up n m l h b.1)

pub below_low : (p : ℕ → Bool) (k : ℕ) → Below k (below p k)
unfolding below
below_low p zero = tt
below_low p (suc k) = step (p k) (below_up k (suc k) (below p k) (omega arith) (below_low p k))
  where
    step : (t : Bool) → Below (suc k) (below p k) → Below (suc k) (below p k ++ cond t (k ∷ []) [])
    step true b = below_snoc (suc k) k (below p k) b (omega arith)
    step false b = rw append-nil b

-- past all: at the end, unless it stands there
insert_end : (c : ℕ) (l : List ℕ) → Below c l → insert c l ≡ l ++ (c ∷ [])
unfolding insert
insert_end c [] b = refl
insert_end c (x ∷ l) b =
    let a : x < c = b.0 in
    let m : min x c ≡ x = omega arith in
    let g : max x c ≡ c = omega arith in
    insert_other x c l (λ e. omega arith) ∙ rw (m, g, insert_end c l b.1)

insert_there : (c : ℕ) (l : List ℕ) → Below c l → insert c (l ++ (c ∷ [])) ≡ l ++ (c ∷ [])
unfolding insert
insert_there c [] b = insert_same c c [] refl
insert_there c (x ∷ l) b =
    let a : x < c = b.0 in
    let m : min x c ≡ x = omega arith in
    let g : max x c ≡ c = omega arith in
    insert_other x c (l ++ (c ∷ [])) (λ e. omega arith) ∙ rw (m, g, insert_there c l b.1)

-- before the last
insert_before : (n c : ℕ) (l : List ℕ) → Below n l → c < n → insert c (l ++ (n ∷ [])) ≡ insert c l ++ (n ∷ [])
unfolding insert
insert_before n c [] b h =
    let m : min n c ≡ c = omega arith in
    let g : max n c ≡ n = omega arith in
    insert_other n c [] (λ e. omega arith) ∙ rw (m, g)
insert_before n c (x ∷ l) b h = ⊎_elim
    (λ e. insert_same x c (l ++ (n ∷ [])) e ∙ sym (ap (λ r. r ++ (n ∷ [])) (insert_same x c l e)))
    (λ e. insert_other x c (l ++ (n ∷ [])) e ∙ ap (λ r. min x c ∷ r) (insert_before n (max x c) l b.1 (let a : x < n = b.0 in omega arith)) ∙ sym (ap (λ r. r ++ (n ∷ [])) (insert_other x c l e)))
    (same? x c)

pub insert_below : (p : ℕ → Bool) (c n : ℕ) → c < n → insert c (below p n) ≡ below (λ w. p w || eqb c w) n
unfolding below
insert_below p c zero h = absurd (omega arith)
insert_below p c (suc n) h = ⊎_elim (λ e. last e (p n)) (λ e. earlier e (p n) (insert_below p c n)) (same? c n)
  where
    last : c ≡ n → (t : Bool) → insert c (below p n ++ cond t (n ∷ []) []) ≡ below (λ w. p w || eqb c w) n ++ cond (t || eqb c n) (n ∷ []) []
    last e t =
        let r : below (λ w. p w || eqb c w) n ≡ below p n = below_ext (λ w. p w || eqb c w) p n (λ w l. rw (ne_eqb c w (λ q. omega arith)) (or_false (p w))) in
        rw (r, eq-eqb c n e, or_true t) (ap (λ x. insert x (below p n ++ cond t (n ∷ []) [])) e ∙ pick t)
      where
        pick : (t : Bool) → insert n (below p n ++ cond t (n ∷ []) []) ≡ below p n ++ (n ∷ [])
        pick true = insert_there n (below p n) (below_low p n)
        pick false = rw append-nil (insert_end n (below p n) (below_low p n))

    earlier : c ≢ n → (t : Bool) → (c < n → insert c (below p n) ≡ below (λ w. p w || eqb c w) n) → insert c (below p n ++ cond t (n ∷ []) []) ≡ below (λ w. p w || eqb c w) n ++ cond (t || eqb c n) (n ∷ []) []
    earlier e t r = rw (ne_eqb c n e, or_false t, ← r (omega arith)) (pick t)
      where
        pick : (t : Bool) → insert c (below p n ++ cond t (n ∷ []) []) ≡ insert c (below p n) ++ cond t (n ∷ []) []
        pick true = insert_before n c (below p n) (below_low p n) (omega arith)
        pick false = rw (append-nil, append-nil)

-- the row of the numbers below n that pass a test, with c too
pub put_below : (p : ℕ → Bool) (c n : ℕ) → c < n → n ≤ no_vertex → put_in c (places degree_limit no_vertex (below p n)) ≡ places degree_limit no_vertex (below (λ w. p w || eqb c w) n)
put_below p c n h few = in_places_lem degree_limit c (below p n) (omega arith) (below_up n no_vertex (below p n) few (below_low p n)) ∙ ap (places degree_limit no_vertex) (insert_below p c n h)

-- ---- the loop: i places are done, c is carried to the others

pub record Putting (i c : ℕ) (r goal : List ℕ) : Type 0 where
  pub size : length r ≡ degree_limit
  pub so_far : take i r ++ put_in c (drop i r) ≡ goal

pub putting_none : (c : ℕ) (r : List ℕ) → length r ≡ degree_limit → Putting 0 c r (put_in c r)
putting_none c r h = record { size = h; so_far = refl }

pub putting_more : (i c low high : ℕ) (r goal : List ℕ) → i < degree_limit → c ≢ no_vertex → low ≡ min (get_or r i 0) c → high ≡ carried (get_or r i 0) c → Putting i c r goal → Putting (i + 1) high (set r i low) goal
putting_more i c low high r goal l n el eh h =
    let b : i < length r = omega (arith, h.size) in
    record {
      size = length-set r i low ∙ h.size;
      so_far =
          rw (add-one, take-suc-set r i low b, drop-set-lt (suc i) r i low (omega arith), append_assoc, el, eh)
          (ap (λ q. take i r ++ q) (sym (put_some c (get_or r i 0) (drop (suc i) r) n)) ∙ sym (ap (λ q. take i r ++ put_in c q) (drop-cons r i 0 b)) ∙ h.so_far);
    }

-- nothing is carried to them
pub putting_nothing : (i c : ℕ) (r goal : List ℕ) → c ≡ no_vertex → Putting i c r goal → r ≡ goal
putting_nothing i c r goal e h = sym (take-append-drop i r) ∙ ap (λ q. take i r ++ q) (sym (put_nothing (drop i r))) ∙ ap (λ q. take i r ++ put_in q (drop i r)) (sym e) ∙ h.so_far

pub putting_all : (i c : ℕ) (r goal : List ℕ) → i ≡ degree_limit → Putting i c r goal → r ≡ goal
unfolding put_in
putting_all i c r goal e h =
    let d : drop i r ≡ [] = drop_of_length-le r {i = i} (omega (arith, h.size)) in
    let t : take i r ≡ r = take_all i r (omega (arith, h.size)) in
    sym (append-nil r) ∙ sym (ap (λ q. q ++ []) t) ∙ sym (ap (λ q. take i r ++ put_in c q) d) ∙ h.so_far
