-- `Instance::n` meets its contract. Assumes nothing.
use Rattle.std.proofs.Common.{arith}
use Rattle.trees.specs.Accepted.{whole}
use Rattle.plan.specs.Numbers.{ready_accepted}
use Rattle.plan.proofs.instance.Instance.n.Goals as goal

pub vertex_count-requires : goal.vertex_count-requires
vertex_count-requires c = whole (ready_accepted c.args.self.now.ready).recorded.ends

pub returns : goal.returns
returns c =
    let ends = (ready_accepted c.args.self.now.ready).recorded.ends in
    record { value = c.vertex_count.ensures; some = omega (arith, c.vertex_count.ensures, ends.some); few = omega (arith, c.vertex_count.ensures, ends.few) }
