-- `Rows::weight` meets its contract. Assumes nothing.
use borrow.Author.Rules.{rules}
use Rattle.foundations.specs.Machine.{Same}
use Rattle.formats.proofs.table.Rows.weight.Goals as goal

pub returns : goal.returns
returns c =
    let b : Same c.weight_in_row.result = search rules in rw (b, c.weight_in_row.ensures, c.at.ensures.is)
