-- `edge_table` meets its contract. Assumes nothing.
use mathlib.Core.Path.{◌∙◌}
use Rattle.trees.specs.Accepted.{Ends, edge_known}
use Rattle.adjacency.specs.NeighbourSteps.{no_edges, seen_rows, edges_end, once_row}
use native.Mathlib.Omega.{arith}
use Rattle.adjacency.proofs.edge_table.Goals as goal

pub loop-j-init : goal.loop-j-init
loop-j-init c = c.requires.t_value ∙ no_edges _ _ c.args.neighbours.now

pub invariant_of-tree : goal.invariant_of-tree
invariant_of-tree c =
    let ends : Ends c.args.s.now c.vertex_count-n.result = rw c.vertex_count-n.ensures c.requires.sound.passed.ends in
    record { ends = ends }

pub from_second-c-requires : goal.from_second-c-requires
from_second-c-requires c =
    let S = c.requires.sound in
    let n = c.vertex_count-n in
    let k = edge_known _ _ _ c.loop-j.j S.passed (omega arith) in
    rw (c.edge_label-l.ensures, n.ensures) (omega (arith, k, S.few_labels))

pub edge_in-q-requires : goal.edge_in-q-requires
edge_in-q-requires c =
    let ends : Ends c.args.s.now c.vertex_count-n.result = rw c.vertex_count-n.ensures c.requires.sound.passed.ends in
    once_row c.args.s.now _ _ _ c.requires.neighbours_value c.end_b-b.ensures.few c.end_a-a.ensures.few

pub edge_in-p-requires : goal.edge_in-p-requires
edge_in-p-requires c =
    let ends : Ends c.args.s.now c.vertex_count-n.result = rw c.vertex_count-n.ensures c.requires.sound.passed.ends in
    once_row c.args.s.now _ _ _ c.requires.neighbours_value c.end_a-a.ensures.few c.end_b-b.ensures.few

pub loop-j-preserved : goal.loop-j-preserved
loop-j-preserved c =
    let ends : Ends c.args.s.now c.vertex_count-n.result = rw c.vertex_count-n.ensures c.requires.sound.passed.ends in
    let a = c.args in
    seen_rows a.s.now c.vertex_count-n.result c.loop-j.j c.end_a-a.result c.end_b-b.result c.edge_label-l.result c.from_second-c.result a.neighbours.now c.loop-j.t c.edge_in-p.result c.edge_in-q.result c.end_a-a.ensures.few c.end_b-b.ensures.few c.end_a-a.ensures.value c.end_b-b.ensures.value c.edge_label-l.ensures c.from_second-c.ensures c.loop-j.invariant c.edge_in-q.ensures c.edge_in-p.ensures

pub returns : goal.returns
returns c =
    let ends : Ends c.args.s.now c.vertex_count-n.result = rw c.vertex_count-n.ensures c.requires.sound.passed.ends in
    let n = c.vertex_count-n in
    edges_end c.args.s.now n.result c.loop-j.j c.args.neighbours.now c.loop-j.t c.requires.sound.passed.ends c.requires.neighbours_value n.ensures (omega (arith, (ends).some)) c.loop-j.invariant
