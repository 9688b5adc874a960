-- Two numbers of a machine type are equal where their bits are. Assumes nothing.
use Rattle.std.specs.Prelude.{◌≡◌, eqb, ℤ}
use mir.Syntax.{Width}
use Rattle.std.proofs.Common.{sym, ap, ◌∙◌, eqb-true, eq-eqb, SFits, to_z, of_z, to_z-of_z}
use Rattle.foundations.specs.Tests.{same_test}
use Rattle.model.specs.Certificate.{eq_z}
use Rattle.certificate.specs.Rules.{eq_z_says, eq_z_same}

pub same_bits : (w : Width) (a b : ℤ) → SFits w a → SFits w b → eqb (of_z w a) (of_z w b) ≡ eq_z a b
same_bits w a b f g =
    same_test (eqb (of_z w a) (of_z w b)) (eq_z a b)
    (λ e. eq_z_same a b (sym (to_z-of_z f) ∙ ap (to_z w) (eqb-true (of_z w a) (of_z w b) e) ∙ to_z-of_z g))
    (λ e. eq-eqb (of_z w a) (of_z w b) (ap (of_z w) (eq_z_says a b e)))
