-- `all_covered` meets its contract: the test is gathered row by row. Assumes nothing.
use Rattle.std.proofs.Common.{refl, rules}
use Rattle.foundations.specs.Lists.{every, every_step}
use Rattle.record_rules.specs.Cover.{row_covered}
use Rattle.record_rules.proofs.all_covered.Goals as goal

pub loop-i-init : goal.loop-i-init
unfolding every
loop-i-init c = refl

pub loop-i-preserved : goal.loop-i-preserved
unfolding row_covered
loop-i-preserved c = every_step _ c.loop-i.i c.loop-i.ok _ c.loop-i.invariant (search rules)
