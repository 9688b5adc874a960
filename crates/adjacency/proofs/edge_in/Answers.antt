-- `edge_in_lem` meets its contract. Assumes nothing.
use Rattle.std.proofs.Common.{rules, ◌∙◌, sym, arith, eqb, eqb-true, eq-eqb, true≢false, get_or, length, None}
use Rattle.model.specs.Limits.{degree_limit}
use Rattle.foundations.specs.Ranges.{FirstOf, first_from_slice}
use Rattle.adjacency.specs.NeighbourSteps.{edge_here, edge_nowhere}
use Rattle.adjacency.proofs.edge_in.Goals as goal

pub returns-in-Some : goal.returns-in-Some
returns-in-Some c =
    let a = c.args in
    let h = first_from_slice (λ x. eqb x a.w) _ _ _ c.in-Some.ensures.ran a.names c.iter.ensures.rest (λ x b q k. search rules) in
    edge_here a.w a.c c.in-Some.i a.names a.edges (search rules) (omega (arith, h.0)) c.requires (eqb-true _ _ h.1)

pub returns-in_default : goal.returns-in_default
returns-in_default c =
    let a = c.args in
    let h : FirstOf (λ k. eqb (get_or a.names k 0) a.w) (length a.names) None = first_from_slice (λ x. eqb x a.w) _ _ None c.in_default.ensures.ran a.names c.iter.ensures.rest (λ x b q k. search rules) in
    edge_nowhere a.w a.c degree_limit a.names a.edges (search rules) (omega arith) (λ k l e. true≢false (sym (eq-eqb _ _ e) ∙ h k (omega arith)))
