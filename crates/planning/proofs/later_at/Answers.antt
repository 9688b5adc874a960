-- `later_at` meets its contract. Assumes nothing.
use Rattle.std.proofs.Common.{rules, ◌≡◌, ◌∙◌, sym, subst, true≢false, get_or, length, ℕ, Bool}
use Rattle.foundations.specs.Ranges.{FirstOf, FirstOr, first_from_slice, first_or}
use Rattle.model.specs.Limits.{degree_limit}
use Rattle.planning.specs.Parents.{is_later}
use Rattle.planning.proofs.later_at.Goals as goal

pub returns : goal.returns
returns c =
    let a = c.args in
    let p : ℕ → Bool = λ k. is_later a.place.now a.own (get_or a.row k 0) in
    let e : length a.row ≡ degree_limit = search rules in
    let f : FirstOf p degree_limit c.position.result = subst (λ n. FirstOf p n c.position.result) e (first_from_slice (is_later a.place.now a.own) _ _ _ c.position.ensures.ran a.row c.iter.ensures.rest (λ x b q k. search rules)) in
    let r : FirstOr p degree_limit c.unwrap_or.result = subst (FirstOr p degree_limit) (sym c.unwrap_or.ensures) (first_or c.position.result f) in
    record { few = r.few; before = λ k l h. true≢false (sym h ∙ r.before k l); here = r.here }
