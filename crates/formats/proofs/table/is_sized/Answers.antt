-- `is_sized` meets its contract. Assumes nothing.
use borrow.Author.Rules.{rules}
use Rattle.model.specs.Table.{table_sized}
use Rattle.formats.specs.Table.{short_head}
use Rattle.formats.proofs.table.is_sized.Goals as goal

pub returns-then-table-table_head_length : goal.returns-then-table-table_head_length
returns-then-table-table_head_length c = short_head c.args.table.now (search rules)

pub returns : goal.returns
unfolding table_sized
returns c = rw c.table_size.ensures
