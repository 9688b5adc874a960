-- `sum_edges` meets its contract. Assumes nothing.
use Rattle.std.proofs.Common.{take}
use Rattle.foundations.specs.Sums.{sumℤ}
use Rattle.model.specs.Tree.{count, end_a, end_b}
use Rattle.model.specs.Mapping.{edge_term}
use Rattle.mappings.specs.WeighLaws.{SumTo}
use Rattle.mappings.proofs.weigh.sum_edges.Given as goal

abbrev pub invariant-loop-j : goal.invariant-loop-j
invariant-loop-j l = SumTo l.j (sumℤ l.j (λ i. edge_term l.on.table.now l.on.recorded.now l.on.found.now (take (count l.on.recorded.now) l.mapping) (end_a l.on.recorded.now (count l.on.recorded.now) i) (end_b l.on.recorded.now (count l.on.recorded.now) i))) l.sum
