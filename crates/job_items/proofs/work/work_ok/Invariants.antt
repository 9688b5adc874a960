-- `work_ok` gathers the test over the rows. The invariant: the numbers before row i are tested. Assumes nothing.
use mathlib.Core.Path.{◌≡◌}
use Prim.Native.Nat.{◌*◌, min}
use Rattle.model.specs.Jobs.{work_ok}
use Rattle.model.specs.Order.{width}
use Rattle.job_items.proofs.work.work_ok.Given as goal

abbrev pub invariant-loop-i : goal.invariant-loop-i
invariant-loop-i l = l.ok ≡ work_ok l.on.table.now l.on.recorded.now l.on.found.now l.work (min (l.i * width l.on.found.now) l.position)
