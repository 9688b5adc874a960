-- The lengths for every pair of bytes: ten of them are marks, and any other is unknown. Assumes nothing.
use Rattle.std.specs.Prelude.{◌≡◌, refl, ◌≢◌, Bool, false, ◌&&◌, ◌||◌, ℕ, eqb, leb, None}
use Rattle.std.proofs.Common.{ap, sym, ◌∙◌, true≢false, ne_eqb}
use Rattle.std.proofs.Math.Logic.{⊎_elim}
use Rattle.std.proofs.Math.Bool.{true}
use Rattle.foundations.specs.Tests.{same?}
use Rattle.model.specs.Lengths.{length_by_mark}

-- the ten marks: B1 01 to B1 07, C1 01 to C1 03
unfoldable pub is_known : ℕ → ℕ → Bool
is_known a b = (eqb a 0xB1 && (leb 1 b && leb b 7)) || (eqb a 0xC1 && (leb 1 b && leb b 3))

module _ (K L children others : ℕ) where
  pub after_b1 : (b : ℕ) → b ≢ 1 → b ≢ 2 → b ≢ 3 → b ≢ 4 → b ≢ 5 → b ≢ 6 → b ≢ 7 → length_by_mark 0xB1 b K L children others ≡ None
  after_b1 b h₁ h₂ h₃ h₄ h₅ h₆ h₇ = rw (ne_eqb b 1 h₁, ne_eqb b 2 h₂, ne_eqb b 3 h₃, ne_eqb b 4 h₄, ne_eqb b 5 h₅, ne_eqb b 6 h₆, ne_eqb b 7 h₇)

  pub after_c1 : (b : ℕ) → b ≢ 1 → b ≢ 2 → b ≢ 3 → length_by_mark 0xC1 b K L children others ≡ None
  after_c1 b h₁ h₂ h₃ = rw (ne_eqb b 1 h₁, ne_eqb b 2 h₂, ne_eqb b 3 h₃)

  pub after_other : (a b : ℕ) → a ≢ 0xB1 → a ≢ 0xC1 → length_by_mark a b K L children others ≡ None
  after_other a b h g = rw (ne_eqb a 0xB1 h, ne_eqb a 0xC1 g)

  -- the test fails at a, b and passes at a, y
  another : (a x b y : ℕ) → is_known a b ≡ false → a ≡ x → is_known x y ≡ true → b ≢ y
  another a x b y h e t q = true≢false (sym t ∙ ap (λ (z : ℕ). is_known z y) (sym e) ∙ ap (is_known a) (sym q) ∙ h)

  -- "any other pair of bytes remains an unknown mark": so does any other pair of numbers
  pub unknown_mark : (a b : ℕ) → is_known a b ≡ false → length_by_mark a b K L children others ≡ None
  unfolding is_known
  unknown_mark a b h = ⊎_elim
      (λ e. let n : (y : ℕ) → is_known 0xB1 y ≡ true → b ≢ y = λ y. another a 0xB1 b y h e in
      rw e (after_b1 b (n 1 refl) (n 2 refl) (n 3 refl) (n 4 refl) (n 5 refl) (n 6 refl) (n 7 refl)))
      (λ g. ⊎_elim
      (λ e. let n : (y : ℕ) → is_known 0xC1 y ≡ true → b ≢ y = λ y. another a 0xC1 b y h e in rw e (after_c1 b (n 1 refl) (n 2 refl) (n 3 refl)))
      (λ k. after_other a b g k)
      (same? a 0xC1))
      (same? a 0xB1)
