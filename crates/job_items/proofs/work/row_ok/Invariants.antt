-- `row_ok` gathers the test over one row, by found vertex. The invariant: the slots below k are tested, and k is where those of v begin, or the end. Assumes nothing.
use mathlib.Core.Path.{◌≡◌}
use Prim.Native.Nat.{◌-◌, ◌≤◌, min}
use Rattle.foundations.specs.Lists.{every}
use Rattle.model.specs.Tree.{count}
use Rattle.model.specs.Order.{offset}
use Rattle.job_items.specs.Work.{row_test}
use Rattle.job_items.proofs.work.row_ok.Given as goal

abbrev pub invariant-loop-k : goal.invariant-loop-k
invariant-loop-k l = (l.v ≤ count l.on.found.now) × (l.k ≡ min (offset l.on.found.now l.v) l.upto) × (l.ok ≡ every (row_test l.on.table.now l.on.recorded.now l.on.found.now l.work l.base l.u) l.k)

abbrev pub decreases-loop-k : goal.decreases-loop-k
decreases-loop-k l = l.upto - l.k
