-- `table_length` meets its contract. Assumes nothing.
use Rattle.formats.proofs.split.table_length.Goals as goal

pub returns : goal.returns
returns c = rw (c.table_size.ensures, c.byte_or_zero-2.ensures, c.byte_or_zero.ensures)
