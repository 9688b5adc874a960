-- `fill_row` meets its contract. Each turn but the first begins with a pair, the next one. Assumes nothing.
use Rattle.solver.specs.FillLaws.{lesser_is, fill_none, fill_slice, run_room, pair_run}
use Rattle.solver.specs.Bound.{most_pair, most_more, most_upto, lesser_less, begins_next, next_located}
use Rattle.assignment.specs.Counts.{countable_less, countable_after, searches_none, searches_both, searches_few}
use Rattle.plan.specs.Plan.{offset_in}
use Rattle.plan.specs.Numbers.{Located, ready_accepted, offsets_are}
use Rattle.model.specs.Order.{offset}
use Prim.Native.Nat.{ℕ, ◌+◌}
use mathlib.Core.Logic.{⊎_elim}
use Rattle.foundations.specs.Tests.{less?}
use mathlib.Core.Path.{◌≡◌, sym, ap, subst, ◌∙◌}
use native.Mathlib.Nat.{add-zero}
use native.Mathlib.Omega.{arith}
use Rattle.solver.proofs.fill.fill_row.Goals as goal

-- the run's first subproblem does not stand before those of its vertex
pub overflow_sub-q : goal.overflow_sub-q
unfolding offset
overflow_sub-q c =
    ⊎_elim
    (λ h. omega (arith, c.locate-v.ensures.from h, c.offset.ensures))
    (λ h.
    let z : c.locate-v.result ≡ 0 = omega arith in
    let o : offset_in c.args.on.now.plan.now 0 ≡ 0 = offsets_are c.args.on.now.ready 0 (ready_accepted c.args.on.now.ready).found.ends.some in
    omega (arith, c.offset.ensures, ap (offset_in c.args.on.now.plan.now) z))
    (less? 0 c.locate-v.result)

pub loop-i-init : goal.loop-i-init
loop-i-init c = (omega arith, fill_none _ _ _ _ _, λ h. (subst (λ (x : ℕ). Located (offset_in c.args.on.now.plan.now) c.m-m.result x c.locate-v.result) (sym (add-zero c.args.run.first)) c.locate-v.ensures, omega (arith, c.offset.ensures)), λ h. absurd (omega arith), searches_few (searches_none _) (omega arith))

pub overflow_add-degree : goal.overflow_add-degree
overflow_add-degree c =
    let i = c.loop-i.invariant in let t = c.loop-i-test.true in let L = i.2 t in let a = run_room c.args.on.now.ready c.requires.row_run _ t c.m-m.ensures.value L.0 in omega (arith, a.3, c.degree.ensures)

pub overflow_sub-degree : goal.overflow_sub-degree
overflow_sub-degree c =
    let i = c.loop-i.invariant in let t = c.loop-i-test.true in let L = i.2 t in let a = run_room c.args.on.now.ready c.requires.row_run _ t c.m-m.ensures.value L.0 in omega (arith, a.2, c.degree.ensures, L.1)

pub fill_pair-requires-clause-pair_run : goal.fill_pair-requires-clause-pair_run
fill_pair-requires-clause-pair_run c =
    let i = c.loop-i.invariant in let t = c.loop-i-test.true in let L = i.2 t in let a = run_room c.args.on.now.ready c.requires.row_run _ t c.m-m.ensures.value L.0 in let e = lesser_is c.min-c.ensures (omega arith) (omega (arith, a.2, c.degree.ensures, L.1)) in let R = pair_run c.args.on.now.ready {q = c.loop-i.q} c.requires.row_run _ t c.m-m.ensures.value L.0 L.1 e.1 (rw (← c.degree.ensures) e.2) in let m = most_pair R e.0 in let s = most_more c.args.on.now.recorded.now c.args.on.now.found.now c.args.run.from c.loop-i.i c.min-c.result (λ z. i.3 z t) in let C = c.shared_of-of.ensures in rw C.0 R

pub fill_pair-requires-clause-countable : goal.fill_pair-requires-clause-countable
fill_pair-requires-clause-countable c =
    let i = c.loop-i.invariant in let t = c.loop-i-test.true in let L = i.2 t in let a = run_room c.args.on.now.ready c.requires.row_run _ t c.m-m.ensures.value L.0 in let e = lesser_is c.min-c.ensures (omega arith) (omega (arith, a.2, c.degree.ensures, L.1)) in let R = pair_run c.args.on.now.ready {q = c.loop-i.q} c.requires.row_run _ t c.m-m.ensures.value L.0 L.1 e.1 (rw (← c.degree.ensures) e.2) in let m = most_pair R e.0 in let s = most_more c.args.on.now.recorded.now c.args.on.now.found.now c.args.run.from c.loop-i.i c.min-c.result (λ z. i.3 z t) in let C = c.shared_of-of.ensures in rw C.0 (countable_after (countable_less c.requires.countable (let y = most_upto c.args.on.now.recorded.now c.args.on.now.found.now c.args.run.from (c.loop-i.i + c.min-c.result) c.args.run.count (let f = e.1 in omega arith) in omega arith)) i.4)

pub loop-i-smaller : goal.loop-i-smaller
loop-i-smaller c =
    let i = c.loop-i.invariant in let t = c.loop-i-test.true in let L = i.2 t in let a = run_room c.args.on.now.ready c.requires.row_run _ t c.m-m.ensures.value L.0 in let e = lesser_is c.min-c.ensures (omega arith) (omega (arith, a.2, c.degree.ensures, L.1)) in omega (arith, e.0, e.1)

pub loop-i-preserved : goal.loop-i-preserved
loop-i-preserved c =
    let i = c.loop-i.invariant in let t = c.loop-i-test.true in let L = i.2 t in let a = run_room c.args.on.now.ready c.requires.row_run _ t c.m-m.ensures.value L.0 in let e = lesser_is c.min-c.ensures (omega arith) (omega (arith, a.2, c.degree.ensures, L.1)) in let R = pair_run c.args.on.now.ready {q = c.loop-i.q} c.requires.row_run _ t c.m-m.ensures.value L.0 L.1 e.1 (rw (← c.degree.ensures) e.2) in let m = most_pair R e.0 in let s = most_more c.args.on.now.recorded.now c.args.on.now.found.now c.args.run.from c.loop-i.i c.min-c.result (λ z. i.3 z t) in (omega (arith, e.1), fill_slice _ _ _ _ _ _ _ _ _ i.1 c.fill_pair.ensures.0, λ y. next_located c.args.on.now.ready c.requires.row_run _ c.loop-i.v y a.0 (let w = lesser_less c.min-c.ensures (omega arith) in let d = c.degree.ensures ∙ (c.args.on.now.ready.planned.found _ a.0).degree in let o = offsets_are c.args.on.now.ready _ a.0 in omega (arith, a.1, L.1)) c.m-m.ensures.value, λ z y. begins_next c.args.on.now.ready c.requires.row_run _ c.loop-i.v y a.0 (let w = lesser_less c.min-c.ensures (omega arith) in let d = c.degree.ensures ∙ (c.args.on.now.ready.planned.found _ a.0).degree in let o = offsets_are c.args.on.now.ready _ a.0 in omega (arith, a.1, L.1)), searches_few (searches_both i.4 (rw c.shared_of-of.ensures.0 at c.fill_pair.ensures.1)) (omega arith))
