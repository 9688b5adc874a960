-- `sum_vertices` meets its contract. Assumes nothing.
use Rattle.std.proofs.Common.{take}
use Rattle.foundations.specs.Sums.{sumℤ}
use Rattle.model.specs.Tree.{count}
use Rattle.mappings.specs.WeighLaws.{SumTo, vertex_term}
use Rattle.mappings.proofs.weigh.sum_vertices.Given as goal

abbrev pub invariant-loop-u : goal.invariant-loop-u
invariant-loop-u l = SumTo l.u (sumℤ l.u (vertex_term l.on.table.now l.on.recorded.now l.on.found.now (take (count l.on.recorded.now) l.mapping))) l.sum
