-- `row_ok` meets its contract: the test is gathered over the row. Assumes nothing.
use Rattle.std.proofs.Common.{◌≡◌, refl, arith}
use Rattle.foundations.specs.Lists.{every, every_step}
use Rattle.model.specs.Bytes.{int32_at}
use Rattle.model.specs.Weights.{weight_ok}
use Rattle.model.specs.Table.{column, row_ok}
use Rattle.formats.proofs.table.row_ok.Goals as goal

pub loop-j-init : goal.loop-j-init
unfolding every row_ok
loop-j-init c = refl

pub loop-j-preserved : goal.loop-j-preserved
unfolding row_ok
loop-j-preserved c = every_step (λ j. weight_ok (int32_at c.args.table.now (column c.args.row j))) c.loop-j.j c.loop-j.ok c.entry_ok-ok.result c.loop-j.invariant c.entry_ok-ok.ensures

pub returns : goal.returns
returns c = let e : c.loop-j.j ≡ c.args.k = omega arith in rw (← e) c.loop-j.invariant
