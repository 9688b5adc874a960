-- `Records::item_from_5` meets its contract. Assumes nothing.
use Rattle.foundations.specs.Tests.{passed}
use Rattle.trees.specs.Accepted.{ends_say}
use Rattle.trees.specs.Items.{first_no, first_yes}
use mathlib.Core.Path.{ap}
use mathlib.Core.Bool.{not}
use Rattle.formats.proofs.places.Records.item_from_5.Goals as goal

pub returns-then-not-low : goal.returns-then-not-low
returns-then-not-low c = λ first twice. first_no _ _ _ _ c.are_ends_low-low.ensures (ap not c.if-not-low.true)

pub invariant_of-tree : goal.invariant_of-tree
invariant_of-tree c = record { ends = ends_say _ _ c.args.self.now.whole (passed _ _ c.are_ends_low-low.ensures (ap not c.if-not-low.false)) }

pub returns : goal.returns
returns c = λ first twice. first_yes _ _ _ _ _ c.are_ends_low-low.ensures (ap not c.if-not-low.false) (c.item_from_6.ensures first twice)
