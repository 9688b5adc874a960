-- `top_of_row` meets its contract. Assumes nothing.
use Rattle.std.proofs.Common.{ℕ, ◌+◌, ◌<◌, ℤ, pos, get_or, ap, ◌∙◌, subst, rules}
use Rattle.foundations.specs.Int.{up}
use Rattle.foundations.specs.Machine.{Same}
use Rattle.model.specs.Tree.{count}
use Rattle.one_call.specs.Top.{raised_over, raised_not, top_more, row_number}
use Rattle.one_call.proofs.top.top_of_row.Goals as goal
use Rattle.one_call.proofs.top.top_of_row.Goals.{then-top-weight, else-top-weight}

pub loop-v-preserved : goal.loop-v-preserved
loop-v-preserved c =
    let a = c.args in
    let v = c.loop-v.v in
    let t = c.loop-v.top in
    let h : v < a.m = c.loop-v-test.true in
    let l : v < count a.found.now = subst (λ (k : ℕ). v < k) c.requires.row_values.counted h in
    let x = c.above_zero-weight.ensures in
    let z = get_or a.work.now (a.base + c.offset.result) (pos 0) in
    let q : Same z = search rules in
    let e = x.0 ∙ ap (λ (y : ℤ). up y) q ∙ ap (λ (k : ℕ). up (get_or a.work.now k (pos 0))) (ap (λ (k : ℕ). a.base + k) c.offset.ensures ∙ row_number c.requires.row_values v h) in
    elim c.if-top-weight.branch [
      | then-top-weight w ↦ rw w.top-is (top_more a.recorded.now a.found.now a.work.now a.u v _ _ _ c.above_zero-weight.result _ _ _ c.loop-v.invariant c.requires.row_values.vertex l e x.1 (raised_over a.u v w.if-top-weight.true))
      | else-top-weight w ↦ rw w.top-is (top_more a.recorded.now a.found.now a.work.now a.u v _ _ _ c.above_zero-weight.result _ _ _ c.loop-v.invariant c.requires.row_values.vertex l e x.1 (raised_not a.u v w.if-top-weight.false))
    ]
