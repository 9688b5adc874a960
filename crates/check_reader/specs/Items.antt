-- The items 20 to 24, each after those before it. Assumes nothing.
use Rattle.std.specs.Prelude.{◌≡◌, Bool, not, List, ℕ, length}
use Rattle.std.proofs.Math.Path.{refl, sym}
use Rattle.std.proofs.Common.{◌∙◌, ne_eqb}
use Rattle.std.proofs.Math.Logic.{◌≢◌}
use Rattle.std.proofs.Math.Bool.{true, false, cond}
use Rattle.foundations.specs.Lists.{every}
use Rattle.foundations.specs.Tests.{cond_zero, passed, not_says}
use Rattle.model.specs.Calls.{input_item}
use Rattle.model.specs.Certificate.{certificate_length, weight_in, mapping_in, eq_z, value_of, shape_ok, subproblem_ok, check_of}
use Rattle.model.specs.Mapping.{weight, mapping_ok}
use Rattle.model.specs.Order.{subproblems}
use Rattle.model.specs.Values.{largest}
use Rattle.certificate.specs.Items.{check_20, check_21, check_22, check_23, check_24, check_none}
use Rattle.check_front.specs.Weighing.{mapping_item}

-- the items 23 and 24
unfoldable pub records_item : List ℕ → List ℕ → List ℕ → List ℕ → ℕ
records_item table r f z = cond (every (subproblem_ok table r f z) (subproblems r f)) (cond (eq_z (weight_in z) (largest r f (value_of r f z))) 0 24) 23

module _ (table r f z : List ℕ) (input : input_item table r f ≡ 0) where
  abbrev maps? : Bool
  maps? = mapping_ok table r f (mapping_in r z)

  abbrev weighs? : Bool
  weighs? = eq_z (weight_in z) (weight table r f (mapping_in r z))

  abbrev covers? : Bool
  covers? = every (subproblem_ok table r f z) (subproblems r f)

  abbrev greatest? : Bool
  greatest? = eq_z (weight_in z) (largest r f (value_of r f z))

  -- another length
  pub item_length : length z ≢ certificate_length r f → 20 ≡ check_of table r f z
  unfolding shape_ok
  item_length n = sym (check_20 table r f z input (rw (ne_eqb (length z) (certificate_length r f) n)))

  module _ (ok : Bool) (e : ok ≡ shape_ok r f z) where
    pub item_shape : not ok ≡ true → 20 ≡ check_of table r f z
    item_shape h = sym (check_20 table r f z input (sym e ∙ not_says ok h))

    module _ (h : not ok ≡ false) where
      shaped : shape_ok r f z ≡ true
      shaped = passed (shape_ok r f z) ok e h

      -- one of the items 21 and 22
      pub item_mapping : (k : ℕ) → k ≡ mapping_item table r f z → k ≢ 0 → k ≡ check_of table r f z
      unfolding mapping_item
      item_mapping k g n = g ∙ go maps? weighs? refl refl (λ q. n (g ∙ q))
        where
          go : (a b : Bool) → maps? ≡ a → weighs? ≡ b → ◌≢◌ {A = ℕ} (cond a (cond b 0 22) 21) 0 → cond a (cond b 0 22) 21 ≡ check_of table r f z
          go false b x w q = sym (check_21 table r f z input shaped x)
          go true false x w q = sym (check_22 table r f z input shaped x w)
          go true true x w q = absurd (q refl)

      -- neither of them
      pub item_records : mapping_item table r f z ≡ 0 → (k : ℕ) → k ≡ records_item table r f z → k ≡ check_of table r f z
      unfolding mapping_item records_item
      item_records g k q =
          let m = cond_zero maps? (cond weighs? 0 22) 20 g in
          let w = cond_zero weighs? 0 21 m.1 in
          q ∙ go covers? greatest? refl refl m.0 w.0
        where
          go : (a b : Bool) → covers? ≡ a → greatest? ≡ b → maps? ≡ true → weighs? ≡ true → cond a (cond b 0 24) 23 ≡ check_of table r f z
          go false b x t m w = sym (check_23 table r f z input shaped m w x)
          go true false x t m w = sym (check_24 table r f z input shaped m w x t)
          go true true x t m w = sym (check_none table r f z (record { input = input; shaped = shaped; maps = m; weighs = w; covers = x; greatest = t }))
