-- `tally_all` adds the rows up: before row i, the subproblems of i rows are filled. Assumes nothing.
use mathlib.Core.Path.{◌≡◌}
use Prim.Native.Nat.{◌*◌}
use Rattle.model.specs.Order.{width}
use Rattle.model.specs.Values.{fill}
use Rattle.searches.specs.Calls.{Tallied}
use Rattle.searches.proofs.pairs.tally_all.Given as goal

abbrev pub invariant-loop-i : goal.invariant-loop-i
invariant-loop-i l = (l.work ≡ fill l.on.table.now l.on.recorded.now l.on.found.now l.initial.work 0 (l.i * width l.on.found.now)) × Tallied l.on.recorded.now l.on.found.now (l.i * width l.on.found.now) l.all
