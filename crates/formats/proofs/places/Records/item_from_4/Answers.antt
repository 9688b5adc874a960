-- `Records::item_from_4` meets its contract. Assumes nothing.
use Rattle.trees.specs.Items.{first_no, first_yes}
use mathlib.Core.Path.{ap}
use mathlib.Core.Bool.{not}
use Rattle.formats.proofs.places.Records.item_from_4.Goals as goal

pub returns-then-not-known : goal.returns-then-not-known
returns-then-not-known c = λ first twice. first_no _ _ _ _ c.are_labels_known-known.ensures (ap not c.if-not-known.true)

pub returns : goal.returns
returns c = λ first twice. first_yes _ _ _ _ _ c.are_labels_known-known.ensures (ap not c.if-not-known.false) (c.item_from_5.ensures first twice)
