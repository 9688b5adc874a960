-- `tally_row` adds the found vertices up one by one: before v, u's subproblems up to v's offset are filled. Assumes nothing.
use mathlib.Core.Path.{◌≡◌}
use Prim.Native.Nat.{◌+◌}
use Rattle.model.specs.Order.{offset}
use Rattle.model.specs.Values.{fill}
use Rattle.searches.specs.Calls.{Tallied}
use Rattle.searches.proofs.pairs.tally_row.Given as goal

abbrev pub invariant-loop-v : goal.invariant-loop-v
invariant-loop-v l = (l.work ≡ fill l.on.table.now l.on.recorded.now l.on.found.now l.initial.work l.base (offset l.on.found.now l.v)) × Tallied l.on.recorded.now l.on.found.now (l.base + offset l.on.found.now l.v) l.all
