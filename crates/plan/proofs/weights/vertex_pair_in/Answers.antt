-- `vertex_pair_in` meets its contract. Assumes nothing.
use mathlib.Core.Path.{sym, ◌∙◌}
use native.Mathlib.Omega.{arith}
use Rattle.foundations.specs.Machine.{Same, back}
use Rattle.plan.specs.Pairs.{low_weighable, column_weighable, pair_apart, pair_labels}
use Rattle.plan.proofs.weights.vertex_pair_in.Goals as goal

pub label-j-requires : goal.label-j-requires
label-j-requires c =
    let l = low_weighable c.requires.pair in omega arith

pub weight_in_row-w-requires : goal.weight_in_row-w-requires
weight_in_row-w-requires c =
    let W = c.requires in rw c.label-j.ensures (column_weighable W.row _ W.pair)

pub serials_apart-requires : goal.serials_apart-requires
serials_apart-requires c = low_weighable c.requires.pair

pub returns-then-serials_apart : goal.returns-then-serials_apart
returns-then-serials_apart c = record { is = λ u R. pair_apart R _ (sym c.serials_apart.ensures ∙ c.if-serials_apart.true) }

pub returns : goal.returns
returns c =
    let b : Same c.weight_in_row-w.result = back c.weight_in_row-w.type_inv in
    rw b (record { is = λ u R. pair_labels R _ _ (sym c.serials_apart.ensures ∙ c.if-serials_apart.false) (rw c.label-j.ensures at c.weight_in_row-w.ensures) })
