-- The items 21 and 22: what is known of the partners, and what each test gives. Assumes nothing.
use Rattle.std.specs.Prelude.{◌≡◌, refl, Bool, true, false, not, cond, List, ℕ, length, take, eqb, ℤ}
use Rattle.std.proofs.Common.{ap, ◌∙◌, SFits, of_z}
use Rattle.std.specs.Int.{w32}
use Rattle.foundations.specs.Tests.{cond_no, cond_yes}
use Rattle.model.specs.Limits.{vertex_limit}
use Rattle.model.specs.Tree.{count}
use Rattle.model.specs.Mapping.{weight, mapping_ok}
use Rattle.model.specs.Certificate.{weight_in, mapping_in, eq_z}
use Rattle.records.specs.Equal.{same_bits}

-- ---- two numbers

-- the same bits
pub same_number : (a b : ℤ) → SFits w32 a → SFits w32 b → eqb (of_z w32 a) (of_z w32 b) ≡ eq_z a b
same_number a b f g = same_bits w32 a b f g

-- ---- the items 21 and 22

unfoldable pub mapping_item : List ℕ → List ℕ → List ℕ → List ℕ → ℕ
mapping_item table r f z = cond (mapping_ok table r f (mapping_in r z)) (cond (eq_z (weight_in z) (weight table r f (mapping_in r z))) 0 22) 21

-- the partners p are the certificate's mapping
pub record PartnersOf (r z p : List ℕ) : Type 0 where
  pub long : length p ≡ vertex_limit
  pub front : take (count r) p ≡ mapping_in r z

-- the weight read and the sum, compared
pub weights_compared : (table r f z p : List ℕ) (v w : ℤ) (b : Bool) → PartnersOf r z p → v ≡ weight_in z → w ≡ weight table r f (take (count r) p) → b ≡ eq_z v w → b ≡ eq_z (weight_in z) (weight table r f (mapping_in r z))
weights_compared table r f z p v w b h g k q =
    q ∙ ap (λ (x : ℤ). eq_z x w) g ∙ ap (eq_z (weight_in z)) (k ∙ ap (weight table r f) h.front)

-- what each test gives: `ok` and `eq` are the code's tests
module _ (table r f z : List ℕ) (ok : Bool) (e : ok ≡ mapping_ok table r f (mapping_in r z)) where
  pub item_21 : not ok ≡ true → 21 ≡ mapping_item table r f z
  unfolding mapping_item
  item_21 h = cond_no (mapping_ok table r f (mapping_in r z)) ok _ 21 e h

  module _ (eq : Bool) (g : eq ≡ eq_z (weight_in z) (weight table r f (mapping_in r z))) (h : not ok ≡ false) where
    pub item_22 : not eq ≡ true → 22 ≡ mapping_item table r f z
    unfolding mapping_item
    item_22 k = cond_yes (mapping_ok table r f (mapping_in r z)) ok 22 _ 21 e h (cond_no (eq_z (weight_in z) (weight table r f (mapping_in r z))) eq 0 22 g k)

    pub item_none : not eq ≡ false → 0 ≡ mapping_item table r f z
    unfolding mapping_item
    item_none k = cond_yes (mapping_ok table r f (mapping_in r z)) ok 0 _ 21 e h (cond_yes (eq_z (weight_in z) (weight table r f (mapping_in r z))) eq 0 0 22 g k refl)
