-- The items of a tree from the fourth, fifth and sixth kind of test on, as the reader's functions test them; and the loops' steps. Assumes nothing.
use Rattle.std.specs.Prelude.{◌≡◌, ◌≢◌, Bool, true, false, ◌&&◌, ◌||◌, cond, not, List, [], ◌∷◌, ℕ, zero, suc, ◌+◌, ◌≤◌, ◌<◌, length, get_or, set, eqb}
use Rattle.std.proofs.Common.{sym, ◌∙◌, subst, ⊎_elim, arith, add-one, length-set, get_or-set_same, get_or-set_other, ext_get_or, eq-eqb, ne_eqb}
use Rattle.foundations.specs.Tests.{same, same?, eqb_same, one_at_most}
use Rattle.foundations.specs.Lists.{every, every_step, tab, length_tab, get_d_tab, tab_ext}
use Rattle.model.specs.Edges.{component}
use Rattle.model.specs.Limits.{vertex_limit}
use Rattle.model.specs.Refusals.{Item, item}
use Rattle.model.specs.Tree.{end_a, end_b, labels_known, ends_low, closes, acyclic, degree, few_edges, serials_differ}

abbrev pub items_from6 : ℕ → ℕ → List ℕ → ℕ → List Item
items_from6 first twice s n = item (first + 3) (not (acyclic s n)) ∷ item (first + 4) (not (few_edges s n)) ∷ item twice (not (serials_differ s n)) ∷ []

abbrev pub items_from5 : ℕ → ℕ → List ℕ → ℕ → List Item
items_from5 first twice s n = item (first + 2) (not (ends_low s n)) ∷ items_from6 first twice s n

abbrev pub items_from4 : ℕ → ℕ → List ℕ → ℕ → ℕ → ℕ → List Item
items_from4 first twice s n K L = item (first + 1) (not (labels_known s n K L)) ∷ items_from5 first twice s n

-- ---- one turn of the test for cycles, of the merging, and of a degree

pub closes_more : (s : List ℕ) (n j : ℕ) (ok : Bool) (l : List ℕ) (a b : ℕ) → ok ≡ every (λ i. not (closes s n i)) j → l ≡ tab (component (end_a s n) (end_b s n) j) vertex_limit → a ≡ end_a s n j → b ≡ end_b s n j → a < vertex_limit → b < vertex_limit
    → (ok && not (eqb (get_or l a 0) (get_or l b 0))) ≡ every (λ i. not (closes s n i)) (j + 1)
unfolding closes
closes_more s n j ok l a b h e ha hb la lb =
    every_step (λ i. not (closes s n i)) j ok (not (eqb (get_or l a 0) (get_or l b 0))) h (rw (e, get_d_tab (component (end_a s n) (end_b s n) j) vertex_limit a 0 la, get_d_tab (component (end_a s n) (end_b s n) j) vertex_limit b 0 lb, ha, hb))

pub component_more : (s : List ℕ) (n j : ℕ) (l r : List ℕ) (x y : ℕ) → l ≡ tab (component (end_a s n) (end_b s n) j) vertex_limit → x ≡ component (end_a s n) (end_b s n) j (end_a s n j) → y ≡ component (end_a s n) (end_b s n) j (end_b s n j)
    → r ≡ tab (λ z. cond (eqb (get_or l z 0) y) x (get_or l z 0)) vertex_limit → r ≡ tab (component (end_a s n) (end_b s n) (j + 1)) vertex_limit
unfolding component
component_more s n j l r x y hl hx hy hr =
    hr ∙ tab_ext (λ z. cond (eqb (get_or l z 0) y) x (get_or l z 0)) (component (end_a s n) (end_b s n) (j + 1)) vertex_limit (λ z h. let g : get_or l z 0 ≡ component (end_a s n) (end_b s n) j z = rw hl (get_d_tab (component (end_a s n) (end_b s n) j) vertex_limit z 0 h) in rw (add-one, component, g, hx, hy))

-- a table with another value stored at a
pub set_tab : {A : Type 0} (f g : ℕ → A) (k a : ℕ) (y d : A) → a < k → y ≡ g a → ((v : ℕ) → v < k → v ≢ a → f v ≡ g v) → set (tab f k) a y ≡ tab g k
set_tab f g k a y d h e o = ext_get_or d (set (tab f k) a y) (tab g k) (long ∙ sym (length_tab g k)) (λ i l. at i (subst (λ m. i < m) long l))
  where
    long : length (set (tab f k) a y) ≡ k
    long = length-set (tab f k) a y ∙ length_tab f k

    at : (i : ℕ) → i < k → get_or (set (tab f k) a y) i d ≡ get_or (tab g k) i d
    at i l = ⊎_elim
        (λ q. rw q (get_or-set_same (tab f k) a y d (rw length_tab h) ∙ e ∙ sym (get_d_tab g k a d h)))
        (λ q. get_or-set_other (tab f k) a i y d q ∙ get_d_tab f k i d l ∙ o i l q ∙ sym (get_d_tab g k i d l))
        (same? i a)

-- the degrees with edge j counted: at its first end, then at its second
end_once : (a b v : ℕ) → cond (eqb a v) 1 0 + cond (eqb b v) (cond (eqb a b) 0 1) 0 ≡ cond (eqb a v || eqb b v) 1 0
end_once a b v = ⊎_elim
    (λ x. ⊎_elim
    (λ y. rw (x.1, y.1, eq-eqb a b (x.0 ∙ sym y.0)))
    (λ y. rw (x.1, y.1))
    (same b v))
    (λ x. ⊎_elim
    (λ y. rw (x.1, y.1, ne_eqb a b (λ e. x.0 (e ∙ y.0))))
    (λ y. rw (x.1, y.1))
    (same b v))
    (same a v)

-- another number at a
add_at : (f : ℕ → ℕ) (d : List ℕ) (a x y : ℕ) → a < vertex_limit → d ≡ tab f vertex_limit → y ≡ get_or d a 0 + x → set d a y ≡ tab (λ v. f v + cond (eqb a v) x 0) vertex_limit
add_at f d a x y l e h =
    rw e (set_tab f (λ v. f v + cond (eqb a v) x 0) vertex_limit a y 0 l (h ∙ rw (e, get_d_tab f vertex_limit a 0 l, eqb_same a)) (λ v lv ne. rw (ne_eqb a v (λ q. ne (sym q))) (omega arith)))

pub degree_more : (s : List ℕ) (n j a b m x y : ℕ) (d : List ℕ) → a < vertex_limit → b < vertex_limit → a ≡ end_a s n j → b ≡ end_b s n j → m ≡ cond (eqb a b) 0 1 → d ≡ tab (λ v. degree s n v j) vertex_limit
    → x ≡ get_or d a 0 + 1 → y ≡ get_or (set d a x) b 0 + m → set (set d a x) b y ≡ tab (λ v. degree s n v (j + 1)) vertex_limit
unfolding degree
degree_more s n j a b m x y d la lb ea eb em h hx hy =
    add_at (λ v. degree s n v j + cond (eqb a v) 1 0) (set d a x) b m y lb (add_at (λ v. degree s n v j) d a 1 x la h hx) hy
    ∙ tab_ext (λ v. (degree s n v j + cond (eqb a v) 1 0) + cond (eqb b v) m 0) (λ v. degree s n v (j + 1)) vertex_limit (λ v l. step v)
  where
    step : (v : ℕ) → (degree s n v j + cond (eqb a v) 1 0) + cond (eqb b v) m 0 ≡ degree s n v (j + 1)
    step v = let e = end_once a b v in rw (add-one, ← ea, ← eb, ← e, em) (omega arith)

pub degree_bound : (s : List ℕ) (n v k : ℕ) → degree s n v k ≤ k
unfolding degree
degree_bound s n v zero = omega arith
degree_bound s n v (suc k) = let e = one_at_most (eqb (end_a s n k) v || eqb (end_b s n k) v) in let r = degree_bound s n v k in omega arith

pub degree_low : (s : List ℕ) (n j v : ℕ) (d : List ℕ) → v < vertex_limit → d ≡ tab (λ x. degree s n x j) vertex_limit → get_or d v 0 ≤ j
degree_low s n j v d l h = rw (h, get_d_tab (λ x. degree s n x j) vertex_limit v 0 l) (degree_bound s n v j)

pub degree_after : (s : List ℕ) (n j a b x : ℕ) (d : List ℕ) → a < vertex_limit → b < vertex_limit → d ≡ tab (λ v. degree s n v j) vertex_limit → x ≡ get_or d a 0 + 1 → get_or (set d a x) b 0 ≤ j + 1
degree_after s n j a b x d la lb h e =
    let long : length d ≡ vertex_limit = rw h (length_tab (λ v. degree s n v j) vertex_limit) in
    let p = degree_low s n j a d la h in
    let q = degree_low s n j b d lb h in
    ⊎_elim
    (λ z. let g : get_or (set d a x) b 0 ≡ x = rw z (get_or-set_same d a x 0 (omega arith)) in omega arith)
    (λ z. let g : get_or (set d a x) b 0 ≡ get_or d b 0 = get_or-set_other d a b x 0 z in omega arith)
    (same? b a)

pub zero_or_one : (t : Bool) → cond t 0 1 ≤ 1
zero_or_one true = omega arith
zero_or_one false = omega arith
