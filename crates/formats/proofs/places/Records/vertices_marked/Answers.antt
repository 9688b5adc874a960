-- `Records::vertices_marked` meets its contract: the test is gathered over the vertices. Assumes nothing.
use Rattle.std.proofs.Common.{refl, arith}
use Rattle.foundations.specs.Lists.{every, every_step, every_end}
use Rattle.model.specs.Bytes.{is_mark}
use Rattle.model.specs.Tree.{vertex_mark_of, vertex_start}
use Rattle.formats.proofs.places.Records.vertices_marked.Goals as goal

pub loop-v-init : goal.loop-v-init
unfolding every
loop-v-init c = refl

pub loop-v-preserved : goal.loop-v-preserved
loop-v-preserved c =
    let s = c.args.self.now.bytes.now in
    every_step (λ x. is_mark s (vertex_start s x) (vertex_mark_of s)) c.loop-v.v c.loop-v.ok c.is_vertex-ok.result c.loop-v.invariant c.is_vertex-ok.ensures

pub returns : goal.returns
returns c =
    let s = c.args.self.now.bytes.now in
    every_end (λ x. is_mark s (vertex_start s x) (vertex_mark_of s)) c.loop-v.v c.args.self.now.n c.loop-v.ok c.loop-v.invariant (omega arith)
