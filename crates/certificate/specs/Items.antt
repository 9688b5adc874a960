-- The items of the certificate's check, one after the other. Assumes nothing.
use Rattle.std.specs.Prelude.{◌≡◌, ◌≢◌, Bool, true, false, not, cond, List, ℕ}
use Rattle.std.proofs.Common.{sym, ◌∙◌, ⊎_elim, arith}
use Rattle.foundations.specs.Tests.{same?}
use Rattle.foundations.specs.Lists.{every}
use Rattle.model.specs.Refusals.{first_of}
use Rattle.model.specs.Order.{subproblems}
use Rattle.model.specs.Mapping.{weight, mapping_ok}
use Rattle.model.specs.Values.{largest}
use Rattle.model.specs.Calls.{input_items, input_item}
use Rattle.model.specs.Certificate.{weight_in, mapping_in, value_of, eq_z, shape_ok, subproblem_ok, certificate_items, check_of}
use Rattle.trees.specs.Items.{first_here, first_then, first_zero}
use Rattle.formats.specs.Inputs.{input_numbered}

-- every test of the check passes
pub record CheckPassed (table r f z : List ℕ) : Type 0 where
  pub input : input_item table r f ≡ 0
  pub shaped : shape_ok r f z ≡ true
  pub maps : mapping_ok table r f (mapping_in r z) ≡ true
  pub weighs : eq_z (weight_in z) (weight table r f (mapping_in r z)) ≡ true
  pub covers : every (subproblem_ok table r f z) (subproblems r f) ≡ true
  pub greatest : eq_z (weight_in z) (largest r f (value_of r f z)) ≡ true

module _ (table r f z : List ℕ) where
  abbrev maps? : Bool
  maps? = mapping_ok table r f (mapping_in r z)

  abbrev weighs? : Bool
  weighs? = eq_z (weight_in z) (weight table r f (mapping_in r z))

  abbrev covers? : Bool
  covers? = every (subproblem_ok table r f z) (subproblems r f)

  abbrev greatest? : Bool
  greatest? = eq_z (weight_in z) (largest r f (value_of r f z))

  pub check_input : input_item table r f ≢ 0 → check_of table r f z ≡ input_item table r f
  unfolding check_of input_item
  check_input h = first_here (input_items table r f) (certificate_items table r f z) h

  late : input_item table r f ≡ 0 → check_of table r f z ≡ first_of (certificate_items table r f z)
  unfolding check_of input_item
  late e = first_then (certificate_items table r f z) (input_numbered table r f) e

  tests : input_item table r f ≡ 0 → check_of table r f z ≡ cond (not (shape_ok r f z)) 20 (cond (not maps?) 21 (cond (not weighs?) 22 (cond (not covers?) 23 (cond (not greatest?) 24 0))))
  unfolding first_of
  tests e = late e

  pub check_20 : input_item table r f ≡ 0 → shape_ok r f z ≡ false → check_of table r f z ≡ 20
  check_20 e a = tests e ∙ rw a

  pub check_21 : input_item table r f ≡ 0 → shape_ok r f z ≡ true → maps? ≡ false → check_of table r f z ≡ 21
  check_21 e a b = tests e ∙ rw (a, b)

  pub check_22 : input_item table r f ≡ 0 → shape_ok r f z ≡ true → maps? ≡ true → weighs? ≡ false → check_of table r f z ≡ 22
  check_22 e a b c = tests e ∙ rw (a, b, c)

  pub check_23 : input_item table r f ≡ 0 → shape_ok r f z ≡ true → maps? ≡ true → weighs? ≡ true → covers? ≡ false → check_of table r f z ≡ 23
  check_23 e a b c d = tests e ∙ rw (a, b, c, d)

  pub check_24 : input_item table r f ≡ 0 → shape_ok r f z ≡ true → maps? ≡ true → weighs? ≡ true → covers? ≡ true → greatest? ≡ false → check_of table r f z ≡ 24
  check_24 e a b c d g = tests e ∙ rw (a, b, c, d, g)

  pub check_none : CheckPassed table r f z → check_of table r f z ≡ 0
  check_none p = tests p.input ∙ rw (p.shaped, p.maps, p.weighs, p.covers, p.greatest)

  -- none applies
  pub check_passed : check_of table r f z ≡ 0 → CheckPassed table r f z
  check_passed h =
      let input : input_item table r f ≡ 0 = ⊎_elim (λ e. e) (λ n. absurd (n (sym (check_input n) ∙ h))) (same? (input_item table r f) 0) in
      let a = first_zero (shape_ok r f z) 20 _ (omega arith) (sym (late input) ∙ h) in
      let b = first_zero maps? 21 _ (omega arith) a.1 in
      let c = first_zero weighs? 22 _ (omega arith) b.1 in
      let d = first_zero covers? 23 _ (omega arith) c.1 in
      let g = first_zero greatest? 24 _ (omega arith) d.1 in
      record { input = input; shaped = a.0; maps = b.0; weighs = c.0; covers = d.0; greatest = g.0 }
