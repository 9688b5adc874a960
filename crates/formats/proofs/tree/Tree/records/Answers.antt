-- `Tree::records` meets its contract. Assumes nothing.
use Rattle.trees.specs.Accepted.{whole}
use Rattle.formats.proofs.tree.Tree.records.Goals as goal

pub invariant_of-result : goal.invariant_of-result
invariant_of-result c = record { whole = whole c.args.self.now.ends }
