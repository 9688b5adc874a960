-- `square_sum` adds up the squares of the degrees as they are counted. Assumes nothing.
use mathlib.Core.Path.{sym, ◌∙◌, subst}
use Rattle.trees.specs.Accepted.{Ends}
use Rattle.sizes.specs.Sums.{sum_squares}
use Prim.Native.Nat.{ℕ, ◌*◌}
use Rattle.std.proofs.Common.{rules, arith, take}
use Rattle.std.proofs.lemmas.Iterator.{YieldsList-from_slice, YieldsList-from_map}
use Rattle.std.proofs.lemmas.Iterator.Consumers.{sum_by_from_yields_List, fits_by_from_yields_list}
use borrow.Author.Tests.{tests}
use Rattle.sizes.proofs.square_sum.Goals as goal

pub invariant_of-tree : goal.invariant_of-tree
invariant_of-tree c = record { ends = subst (λ (n : ℕ). Ends c.args.found.now n) (sym c.vertex_count-m.ensures) c.requires.passed.ends }

pub sum-requires-clause-fits : goal.sum-requires-clause-fits
sum-requires-clause-fits c =
    let total = sum_squares c.args.found.now c.requires _ c.vertex_count-m.ensures _ c.degrees-d.ensures in
    fits_by_from_yields_list (λ x. x * x) (take c.vertex_count-m.result c.degrees-d.result) c.map.result _
    (YieldsList-from_map _ (λ x. x * x) (YieldsList-from_slice _ (cc)) c.map.ensures.closure (λ x r q k. search (rules, tests))) (omega arith)

pub returns : goal.returns
returns c =
    let total = sum_squares c.args.found.now c.requires _ c.vertex_count-m.ensures _ c.degrees-d.ensures in
    let sum =
    sum_by_from_yields_List (λ x. x * x) (take c.vertex_count-m.result c.degrees-d.result) c.map.result _ c.sum.ensures.ran
    (YieldsList-from_map _ (λ x. x * x) (YieldsList-from_slice _ (cc)) c.map.ensures.closure (λ x r q k. search (rules, tests))) in
    let is = sum ∙ total.0 in (is, rw is total.1)
