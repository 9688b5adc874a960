-- `sum_vertices` meets its contract. Assumes nothing.
use Rattle.std.proofs.Common.{arith, ◌∙◌}
use Rattle.foundations.specs.Machine.{back}
use Rattle.model.specs.Mapping.{vertex_pairs}
use Rattle.mappings.specs.WeighLaws.{sum_none, sum_more, sum_turn, sum_end}
use Rattle.mappings.proofs.weigh.sum_vertices.Goals as goal

pub loop-u-init : goal.loop-u-init
loop-u-init c = sum_none _

pub add-sum-requires : goal.add-sum-requires
add-sum-requires c = rw (back c.vertex_term.type_inv) (sum_turn _ c.loop-u.invariant c.vertex_term.ensures c.loop-u-test.true (omega (arith, c.n-n.ensures.few)))

pub loop-u-preserved : goal.loop-u-preserved
loop-u-preserved c = rw (back c.add-sum.type_inv) (sum_more _ _ _ _ _ c.loop-u.invariant c.vertex_term.ensures (c.add-sum.ensures ∙ rw (back c.vertex_term.type_inv)))

pub returns : goal.returns
unfolding vertex_pairs
returns c = sum_end _ (omega (arith, c.n-n.ensures.value)) c.loop-u.invariant
