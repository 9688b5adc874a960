-- `Rows::is_marked` meets its contract. Assumes nothing.
use Rattle.formats.proofs.table.Rows.is_marked.Goals as goal

pub returns : goal.returns
returns c = rw (c.is_mark.ensures, c.at.ensures.is)
