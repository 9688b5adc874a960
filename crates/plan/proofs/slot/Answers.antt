-- `slot` meets its contract. Assumes nothing.
use Rattle.std.proofs.Common.{◌≡◌, ◌∙◌, sym, refl, rules, arith, eqb, eqb-true, eq-eqb, true≢false, None}
use Rattle.foundations.specs.Ranges.{FirstOf, first_from_range}
use Rattle.plan.specs.Plan.{neighbour_in}
use Rattle.plan.proofs.slot.Goals as goal

pub returns-in-Some : goal.returns-in-Some
returns-in-Some c =
    let a = c.args in
    let i = c.in-Some.j in
    let h = first_from_range (λ j. eqb (neighbour_in a.plan.now a.v j) a.s) _ _ _ c.in-Some.ensures.ran refl (λ x b q k. search rules) in
    record { low = omega (arith, h.0); none = λ z. absurd (omega (arith, z)); here = λ j e. let q : j ≡ i = omega arith in rw q (eqb-true _ _ h.1) }

pub returns-in-None : goal.returns-in-None
returns-in-None c =
    let a = c.args in
    let h : FirstOf (λ j. eqb (neighbour_in a.plan.now a.v j) a.s) c.degree.result None = first_from_range (λ j. eqb (neighbour_in a.plan.now a.v j) a.s) _ _ None c.in-None.ensures.ran refl (λ x b q k. search rules) in
    record { low = omega arith; none = λ z j l e. true≢false (sym (eq-eqb _ _ e) ∙ h j (omega arith)); here = λ j z. absurd (omega (arith, z)) }
