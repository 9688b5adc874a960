-- `tally_row` adds the found vertices up one by one: before v, u's subproblems up to v's offset are filled. Assumes nothing.
use Rattle.std.proofs.Common.{◌≡◌, ◌∙◌, sym, ap, subst, ℕ, ◌+◌, ◌<◌, length, add-one, add-zero, arith}
use Rattle.model.specs.Tree.{count}
use Rattle.model.specs.Graph.{neighbours}
use Rattle.model.specs.Order.{offset, width}
use Rattle.plan.specs.Numbers.{ready_sound, number_few, offset_width, offsets_are}
use Rattle.solver.specs.FillLaws.{fill_none, fill_slice}
use Rattle.searches.specs.Calls.{Tallied}
use Rattle.searches.specs.Steps.{whole_pair}
use Rattle.searches.proofs.pairs.tally_row.Goals as goal

pub loop-v-init : goal.loop-v-init
unfolding offset
loop-v-init c = (fill_none _ _ _ _ _, subst (λ (x : ℕ). Tallied c.args.on.now.recorded.now c.args.on.now.found.now x c.args.t) (sym (add-zero c.args.base)) c.requires.tallied)

pub overflow_add-from : goal.overflow_add-from
overflow_add-from c =
    let low : c.loop-v.v < count c.args.on.now.found.now = omega (arith, c.loop-v-test.true, c.m-m.ensures.value) in
    let P = whole_pair c.args.on.now.ready c.requires.row_run _ _ low c.offset.ensures in
    omega (arith, P.enough, number_few c.args.on.now.ready)

pub tally_pair-all-requires-clause-pair_run : goal.tally_pair-all-requires-clause-pair_run
tally_pair-all-requires-clause-pair_run c =
    let low : c.loop-v.v < count c.args.on.now.found.now = omega (arith, c.loop-v-test.true, c.m-m.ensures.value) in
    whole_pair c.args.on.now.ready c.requires.row_run _ _ low c.offset.ensures

pub tally_pair-all-requires-clause-tallied : goal.tally_pair-all-requires-clause-tallied
tally_pair-all-requires-clause-tallied c =
    let low : c.loop-v.v < count c.args.on.now.found.now = omega (arith, c.loop-v-test.true, c.m-m.ensures.value) in
    rw (c.offset.ensures ∙ offsets_are c.args.on.now.ready _ low) c.loop-v.invariant.1

pub loop-v-preserved : goal.loop-v-preserved
unfolding offset
loop-v-preserved c =
    let f = c.args.on.now.found.now in
    let low : c.loop-v.v < count f = omega (arith, c.loop-v-test.true, c.m-m.ensures.value) in
    let o : c.offset.result ≡ offset f c.loop-v.v = c.offset.ensures ∙ offsets_are c.args.on.now.ready _ low in
    let n = length (neighbours f c.loop-v.v) in
    let one : offset f (c.loop-v.v + 1) ≡ offset f c.loop-v.v + (n + 1) = rw (add-one c.loop-v.v, add-one n) in
    let sum : c.args.base + c.offset.result + (n + 1) ≡ c.args.base + offset f (c.loop-v.v + 1) = omega (arith, o) in
    let next = c.tally_pair-all.ensures in
    (rw one (fill_slice _ _ _ _ _ _ _ _ _ c.loop-v.invariant.0 (rw o at next.0)), rw sum at next.1)

pub returns : goal.returns
returns c =
    let f = c.args.on.now.found.now in
    let e : c.loop-v.v ≡ count f = omega (arith, c.loop-v-test.false, c.m-m.ensures.value, c.loop-v.auto.v-end) in
    let w : offset f c.loop-v.v ≡ width f = ap (offset f) e ∙ offset_width (ready_sound c.args.on.now.ready) in
    (rw w at c.loop-v.invariant.0, rw w at c.loop-v.invariant.1)
