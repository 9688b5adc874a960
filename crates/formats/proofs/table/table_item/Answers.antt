-- `table_item` meets its contract: each test is passed before the next is made. Assumes nothing.
use mathlib.Core.Path.{◌≡◌}
use mathlib.Core.Bool.{true}
use Rattle.foundations.specs.Tests.{cond_no, passed}
use Rattle.model.specs.Table.{table_sized, table_marked}
use Rattle.formats.specs.Table.{sized_says, table_item_chain}
use mathlib.Core.Path.{ap}
use mathlib.Core.Bool.{not}
use Rattle.formats.proofs.table.table_item.Goals as goal

pub returns-then-not-sized : goal.returns-then-not-sized
returns-then-not-sized c = rw (table_item_chain c.args.table.now) (cond_no _ _ _ 1 c.is_sized-sized.ensures (ap not c.if-not-sized.true))

pub invariant_of-table : goal.invariant_of-table
invariant_of-table c =
    let sized : table_sized c.args.table.now ≡ true = passed _ _ c.is_sized-sized.ensures (ap not c.if-not-sized.false) in
    record { sized = sized_says _ sized }

pub returns-then-not-marked : goal.returns-then-not-marked
returns-then-not-marked c =
    let sized : table_sized c.args.table.now ≡ true = passed _ _ c.is_sized-sized.ensures (ap not c.if-not-sized.false) in
    rw (table_item_chain c.args.table.now, sized) (cond_no _ _ _ 1 c.is_marked-marked.ensures (ap not c.if-not-marked.true))

pub returns-then-not-fine : goal.returns-then-not-fine
returns-then-not-fine c =
    let marked : table_marked c.args.table.now ≡ true = passed _ _ c.is_marked-marked.ensures (ap not c.if-not-marked.false) in
    let sized : table_sized c.args.table.now ≡ true = passed _ _ c.is_sized-sized.ensures (ap not c.if-not-sized.false) in
    rw (table_item_chain c.args.table.now, sized, marked) (cond_no _ _ _ 2 c.weights_ok-fine.ensures (ap not c.if-not-fine.true))

pub returns : goal.returns
returns c =
    let marked : table_marked c.args.table.now ≡ true = passed _ _ c.is_marked-marked.ensures (ap not c.if-not-marked.false) in
    let sized : table_sized c.args.table.now ≡ true = passed _ _ c.is_sized-sized.ensures (ap not c.if-not-sized.false) in
    rw (table_item_chain c.args.table.now, sized, marked, passed _ _ c.weights_ok-fine.ensures (ap not c.if-not-fine.false))
