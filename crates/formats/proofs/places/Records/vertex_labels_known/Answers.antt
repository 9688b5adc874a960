-- `Records::vertex_labels_known` meets its contract: the test is gathered over the vertices. Assumes nothing.
use Rattle.std.proofs.Common.{refl, arith, ltb, rules}
use Rattle.foundations.specs.Lists.{every, every_step, every_end}
use Rattle.model.specs.Tree.{vertex_label}
use Rattle.formats.proofs.places.Records.vertex_labels_known.Goals as goal

pub loop-v-init : goal.loop-v-init
unfolding every
loop-v-init c = refl

pub loop-v-preserved : goal.loop-v-preserved
loop-v-preserved c = every_step (λ x. ltb (vertex_label c.args.self.now.bytes.now x) c.args.labels) c.loop-v.v c.loop-v.ok _ c.loop-v.invariant (search rules)

pub returns : goal.returns
returns c = every_end (λ x. ltb (vertex_label c.args.self.now.bytes.now x) c.args.labels) c.loop-v.v c.args.self.now.n c.loop-v.ok c.loop-v.invariant (omega arith)
