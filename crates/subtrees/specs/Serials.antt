-- What serials mean for pairs, mappings and trees, in the words of paper 02, [3]. Each statement has only definitions of `model`. Assumes nothing.
use Rattle.std.specs.Prelude.{◌≡◌, refl, ◌⊎◌, ◌≢◌, ◌↔◌, Bool, true, false, not, List, ℕ, zero, suc, ◌<◌, eqb}
use Rattle.std.proofs.Common.{sym, ◌∙◌, ⊎_elim, true≢false, arith, eqb-true, eq-eqb, ne_eqb}
use Rattle.foundations.specs.Tests.{same?, same, is_false, and_false}
use Rattle.foundations.specs.Lists.{every, every_fails}
use Rattle.model.specs.Mapping.{Mapped, partner, IsMapping}
use Rattle.model.specs.Pairs.{apart, vertex_pair}
use Rattle.model.specs.Table.{vertex_weight}
use Rattle.model.specs.Tree.{vertex_label, serial, serial_new, serials_differ}
use Rattle.model.specs.Weights.{none}

-- where not all pass a test, one fails it
fails : (p : ℕ → Bool) (n : ℕ) → every p n ≡ false → (k : ℕ) × (k < n) × (p k ≡ false)
unfolding every
fails p zero h = absurd (true≢false h)
fails p (suc n) h = go (p n) refl (fails p n)
  where
    go : (t : Bool) → p n ≡ t → (every p n ≡ false → (k : ℕ) × (k < n) × (p k ≡ false)) → (k : ℕ) × (k < suc n) × (p k ≡ false)
    go false e r = (n, omega arith, e)
    go true e r = let q = r (is_false _ (λ a. true≢false (sym (rw (a, e)) ∙ h))) in (q.0, omega (arith, q.1), q.2)

not-false : (t : Bool) → not t ≡ false → t ≡ true
not-false true h = refl
not-false false h = absurd (true≢false h)

-- ---- "Two devices with known, different serials are a forbidden pair"; any other weighs what the table says

pub different_forbidden : (table recorded found : List ℕ) (u v : ℕ) → serial recorded u ≢ 0 → serial found v ≢ 0 → serial recorded u ≢ serial found v → vertex_pair table recorded found u v ≡ none
unfolding vertex_pair apart
different_forbidden table recorded found u v a b d = rw (ne_eqb (serial recorded u) 0 a, ne_eqb (serial found v) 0 b, ne_eqb (serial recorded u) (serial found v) d)

-- serials that are not both known, or are the same
not_apart : (a b : ℕ) → (a ≡ 0) ⊎ (b ≡ 0) ⊎ (a ≡ b) → apart a b ≡ false
unfolding apart
not_apart a b c = ⊎_elim
    (λ e. rw (eq-eqb a 0 e))
    (λ d. ⊎_elim (λ e. rw (eq-eqb b 0 e) (and_false (not (eqb a 0)))) (λ e. rw (eq-eqb a b e, and_false (not (eqb b 0))) (and_false (not (eqb a 0)))) d)
    c

pub others_weigh : (table recorded found : List ℕ) (u v : ℕ) → (serial recorded u ≡ 0) ⊎ (serial found v ≡ 0) ⊎ (serial recorded u ≡ serial found v) → vertex_pair table recorded found u v ≡ vertex_weight table (vertex_label recorded u) (vertex_label found v)
unfolding vertex_pair
others_weigh table recorded found u v c = rw (not_apart (serial recorded u) (serial found v) c)

-- ---- "among mappings that respect serials": partners whose serials are known have the same

pub respects_serials : (table recorded found p : List ℕ) → IsMapping table recorded found p → (u : ℕ) → Mapped recorded p u → serial recorded u ≢ 0 → serial found (partner p u) ≢ 0 → serial recorded u ≡ serial found (partner p u)
respects_serials table recorded found p M u m a b = ⊎_elim
    (λ e. e)
    (λ d. absurd (M.vertex_allowed u m (different_forbidden table recorded found u (partner p u) a b d)))
    (same? (serial recorded u) (serial found (partner p u)))

-- ---- items 25 and 26: "a known serial stands twice"

pub serials_decide : (s : List ℕ) (n : ℕ) → (serials_differ s n ≡ false) ↔ ((v : ℕ) × (x : ℕ) × (v < n) × (x < v) × (serial s v ≢ 0) × (serial s x ≡ serial s v))
unfolding serials_differ serial_new
serials_decide s n = (to, from)
  where
    Twice : Type 0
    Twice = (v : ℕ) × (x : ℕ) × (v < n) × (x < v) × (serial s v ≢ 0) × (serial s x ≡ serial s v)

    to : every (λ v. serial_new s v) n ≡ false → Twice
    to h =
        let q = fails (λ v. serial_new s v) n h in
        let v = q.0 in
        ⊎_elim
        (λ e. absurd (true≢false (sym (rw e.1) ∙ q.2)))
        (λ e. let f = fails (λ x. not (eqb (serial s x) (serial s v))) v (sym (rw e.1) ∙ q.2) in (v, f.0, q.1, f.1, e.0, eqb-true (serial s f.0) (serial s v) (not-false _ f.2)))
        (same (serial s v) 0)

    from : Twice → every (λ v. serial_new s v) n ≡ false
    from c =
        let v = c.0 in
        let x = c.1 in
        let e = every_fails (λ y. not (eqb (serial s y) (serial s v))) x v c.3 (rw (eq-eqb (serial s x) (serial s v) c.5)) in
        every_fails (λ y. serial_new s y) v n c.2 (rw (ne_eqb (serial s v) 0 c.4, e))
