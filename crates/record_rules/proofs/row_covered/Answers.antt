-- `row_covered` meets its contract: the test is gathered column by column. Assumes nothing.
use Rattle.std.proofs.Common.{refl, rules}
use Rattle.foundations.specs.Lists.{every, every_step}
use Rattle.record_rules.specs.Cover.{is_covered}
use Rattle.record_rules.proofs.row_covered.Goals as goal

pub loop-j-init : goal.loop-j-init
unfolding every
loop-j-init c = refl

pub loop-j-preserved : goal.loop-j-preserved
unfolding is_covered
loop-j-preserved c = every_step _ c.loop-j.j c.loop-j.ok _ c.loop-j.invariant (search rules)
