-- `gain_of` meets its contract. Assumes nothing.
use Rattle.plan.specs.Pairs.{gain_any}
use Rattle.foundations.specs.Machine.{Same}
use borrow.Author.Rules.{rules}
use Rattle.plan.proofs.weights.gain_of.Goals as goal

pub returns : goal.returns
returns c =
    let a : Same c.args.edge = search rules in
    let b : Same c.args.value = search rules in
    gain_any _ _ _ c.ranges.edge c.ranges.value (rw (a, b) at c.gain.ensures)
