-- `find` meets its contract. Assumes nothing.
use Rattle.std.proofs.Common.{rules, ◌≡◌, ◌∙◌, sym, subst, eqb, eqb-true, eq-eqb, true≢false, get_or, length, ℕ, Bool}
use Rattle.foundations.specs.Ranges.{FirstOf, FirstOr, first_from_slice, first_or}
use Rattle.model.specs.Limits.{degree_limit}
use Rattle.planning.proofs.find.Goals as goal

pub returns : goal.returns
returns c =
    let a = c.args in
    let p : ℕ → Bool = λ k. eqb (get_or a.row k 0) a.v in
    let e : length a.row ≡ degree_limit = search rules in
    let f : FirstOf p degree_limit c.position.result = subst (λ n. FirstOf p n c.position.result) e (first_from_slice (λ x. eqb x a.v) _ _ _ c.position.ensures.ran a.row c.iter.ensures.rest (λ x b q k. search rules)) in
    let r : FirstOr p degree_limit c.unwrap_or.result = subst (FirstOr p degree_limit) (sym c.unwrap_or.ensures) (first_or c.position.result f) in
    record { few = r.few; before = λ k l h. true≢false (sym (eq-eqb _ _ h) ∙ r.before k l); here = λ l. eqb-true _ _ (r.here l) }
