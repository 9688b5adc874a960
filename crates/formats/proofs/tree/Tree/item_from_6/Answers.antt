-- `Tree::item_from_6` meets its contract. Assumes nothing.
use Rattle.trees.specs.Items.{first_no, first_yes, first_none}
use mathlib.Core.Path.{ap}
use mathlib.Core.Bool.{not}
use Rattle.formats.proofs.tree.Tree.item_from_6.Goals as goal

pub returns-then-not-tree : goal.returns-then-not-tree
returns-then-not-tree c = λ first twice. first_no _ _ _ _ c.is_acyclic-tree.ensures (ap not c.if-not-tree.true)

pub returns-then-not-few : goal.returns-then-not-few
returns-then-not-few c = λ first twice. first_yes _ _ _ _ _ c.is_acyclic-tree.ensures (ap not c.if-not-tree.false) (first_no _ _ _ _ c.are_edges_few-few.ensures (ap not c.if-not-few.true))

pub returns-then-not-differ : goal.returns-then-not-differ
returns-then-not-differ c = λ first twice.
    first_yes _ _ _ _ _ c.is_acyclic-tree.ensures (ap not c.if-not-tree.false)
    (first_yes _ _ _ _ _ c.are_edges_few-few.ensures (ap not c.if-not-few.false) (first_no _ _ _ _ c.do_serials_differ-differ.ensures (ap not c.if-not-differ.true)))

pub returns : goal.returns
returns c = λ first twice.
    first_yes _ _ _ _ _ c.is_acyclic-tree.ensures (ap not c.if-not-tree.false)
    (first_yes _ _ _ _ _ c.are_edges_few-few.ensures (ap not c.if-not-few.false) (first_yes _ _ _ _ _ c.do_serials_differ-differ.ensures (ap not c.if-not-differ.false) first_none))
