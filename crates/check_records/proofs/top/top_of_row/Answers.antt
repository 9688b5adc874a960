-- `top_of_row` meets its contract. Assumes nothing.
use Rattle.std.proofs.Common.{arith, ◌≡◌}
use Rattle.std.specs.Prelude.{ℕ}
use Rattle.foundations.specs.Machine.{Same, back}
use Rattle.model.specs.Certificate.{value_of}
use Rattle.plan.specs.Pairs.{up_w}
use Rattle.trees.specs.Accepted.{whole}
use Rattle.records.specs.Places.{inputs_found, inputs_few, size_known, row_at}
use Rattle.check_records.specs.Greatest.{most_none, most_more, own_most, place_low, own_sits, own_value}
use Rattle.check_records.proofs.top.top_of_row.Goals as goal

pub place-i-requires : goal.place-i-requires
place-i-requires c = omega (arith, (inputs_few c.requires.laid.inputs).0, c.requires.u_bound)

pub begin-requires : goal.begin-requires
begin-requires c = omega (arith, c.place-i.ensures, place_low c.requires.laid _ c.requires.u_bound, (inputs_few c.requires.laid.inputs).0)

pub size-requires : goal.size-requires
size-requires c = rw c.place-i.ensures (size_known c.requires.laid.inputs _ (place_low c.requires.laid _ c.requires.u_bound))

pub vertex_count-m-requires : goal.vertex_count-m-requires
vertex_count-m-requires c = whole (inputs_found c.requires.laid.inputs).passed.ends

pub overflow_cast-m : goal.overflow_cast-m
overflow_cast-m c = omega (arith, c.vertex_count-m.ensures, (inputs_few c.requires.laid.inputs).1)

pub loop-v-init : goal.loop-v-init
loop-v-init c = (most_none _, omega arith)

pub offset-b-requires : goal.offset-b-requires
offset-b-requires c = omega (arith, c.vertex_count-m.ensures, (inputs_few c.requires.laid.inputs).1)

pub value_in-requires : goal.value_in-requires
value_in-requires c =
    let row = row_at c.requires.laid _ _ _ (rw c.place-i.ensures (place_low c.requires.laid _ c.requires.u_bound)) c.begin.ensures c.size.ensures in
    record { laid = c.requires.laid; certificate_len = c.requires.certificate_len; begins = row; sits = own_sits c.requires.laid _ _ (omega (arith, c.vertex_count-m.ensures)) c.offset-b.ensures }

pub loop-v-preserved : goal.loop-v-preserved
loop-v-preserved c =
    let d : Same c.value_in.result = back c.value_in.type_inv in
    let up = rw d at c.above_zero-x.ensures.0 in
    let own = own_value c.requires.laid c.args.certificate.now c.args.u c.loop-v.v _ _ c.above_zero-x.result c.value_in.result c.requires.u_bound (omega (arith, c.vertex_count-m.ensures)) c.place-i.ensures c.offset-b.ensures c.value_in.ensures up in (
      most_more (λ (y : ℕ). up_w (value_of c.args.recorded.now c.args.found.now c.args.certificate.now c.args.u y y)) c.loop-v.v c.loop-v.top c.above_zero-x.result c.max-top.result c.loop-v.invariant.0 own c.max-top.ensures,
      omega (arith, c.max-top.ensures, c.above_zero-x.ensures.1, c.loop-v.invariant.1),
    )

pub returns : goal.returns
unfolding own_most
returns c =
    let e : c.loop-v.v ≡ c.vertex_count-m.result = omega arith in
    (rw (e, c.vertex_count-m.ensures) at c.loop-v.invariant.0, c.loop-v.invariant.1)
