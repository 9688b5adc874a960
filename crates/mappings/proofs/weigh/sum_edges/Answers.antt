-- `sum_edges` meets its contract. Assumes nothing.
use Rattle.std.proofs.Common.{arith, ◌∙◌}
use Rattle.foundations.specs.Machine.{back}
use Rattle.model.specs.Mapping.{edge_pairs}
use Rattle.mappings.specs.WeighLaws.{sum_none, sum_more, sum_turn, sum_end}
use Rattle.mappings.proofs.weigh.sum_edges.Goals as goal

pub loop-j-init : goal.loop-j-init
loop-j-init c = sum_none _

pub add-sum-requires : goal.add-sum-requires
add-sum-requires c = rw (back c.edge_term.type_inv) (sum_turn _ c.loop-j.invariant c.edge_term.ensures c.loop-j-test.true (omega (arith, c.n-edges.ensures.few)))

pub loop-j-preserved : goal.loop-j-preserved
loop-j-preserved c = rw (back c.add-sum.type_inv) (sum_more _ _ _ _ _ c.loop-j.invariant c.edge_term.ensures (c.add-sum.ensures ∙ rw (back c.edge_term.type_inv)))

pub returns : goal.returns
unfolding edge_pairs
returns c = sum_end _ (omega (arith, c.n-edges.ensures.value)) c.loop-j.invariant
