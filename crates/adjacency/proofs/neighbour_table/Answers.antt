-- `neighbour_table` meets its contract. Assumes nothing.
use Rattle.trees.specs.Accepted.{Ends}
use Rattle.adjacency.specs.NeighbourSteps.{no_rows, joined_rows, rows_end}
use native.Mathlib.Omega.{arith}
use Rattle.adjacency.proofs.neighbour_table.Goals as goal

pub loop-j-init : goal.loop-j-init
loop-j-init c = no_rows _ _

pub invariant_of-tree : goal.invariant_of-tree
invariant_of-tree c =
    let ends : Ends c.args.s.now c.vertex_count-n.result = rw c.vertex_count-n.ensures c.requires in
    record { ends = ends }

pub loop-j-preserved : goal.loop-j-preserved
loop-j-preserved c =
    let ends : Ends c.args.s.now c.vertex_count-n.result = rw c.vertex_count-n.ensures c.requires in
    let n = c.vertex_count-n in
    joined_rows c.args.s.now n.result c.loop-j.j c.end_a-a.result c.end_b-b.result c.loop-j.t c.put_in-p.result c.put_in-q.result c.end_a-a.ensures.low c.end_b-b.ensures.low ends.few c.end_a-a.ensures.value c.end_b-b.ensures.value c.loop-j.invariant c.put_in-p.ensures c.put_in-q.ensures

pub returns : goal.returns
returns c =
    let ends : Ends c.args.s.now c.vertex_count-n.result = rw c.vertex_count-n.ensures c.requires in
    let n = c.vertex_count-n in
    let few = ends.few in
    rows_end c.args.s.now n.result c.loop-j.j c.loop-j.t n.ensures (omega arith) c.loop-j.invariant
