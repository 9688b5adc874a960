-- `greatest` meets its contract. Assumes nothing.
use Rattle.std.proofs.Common.{arith}
use Rattle.trees.specs.Accepted.{whole}
use Rattle.records.specs.Places.{inputs_recorded, inputs_few}
use Rattle.check_records.specs.Greatest.{most_none, most_more, own_most}
use Rattle.check_records.proofs.top.greatest.Goals as goal

pub vertex_count-n-requires : goal.vertex_count-n-requires
vertex_count-n-requires c = whole (inputs_recorded c.requires.laid.inputs).passed.ends

pub overflow_cast-n : goal.overflow_cast-n
overflow_cast-n c = omega (arith, c.vertex_count-n.ensures, (inputs_few c.requires.laid.inputs).0)

pub loop-u-init : goal.loop-u-init
loop-u-init c = (most_none _, omega arith)

pub loop-u-preserved : goal.loop-u-preserved
loop-u-preserved c =
    (most_more (own_most c.args.recorded.now c.args.found.now c.args.certificate.now) c.loop-u.u c.loop-u.all c.top_of_row-x.result c.max-all.result c.loop-u.invariant.0 c.top_of_row-x.ensures.0 c.max-all.ensures, omega (arith, c.max-all.ensures, c.top_of_row-x.ensures.1, c.loop-u.invariant.1))
