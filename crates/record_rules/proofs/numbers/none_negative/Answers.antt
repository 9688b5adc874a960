-- `none_negative` meets its contract: the test is gathered number by number. Assumes nothing.
use Rattle.std.proofs.Common.{refl, rules}
use Rattle.foundations.specs.Lists.{every, every_step}
use Rattle.record_rules.specs.Numbers.{not_negative}
use Rattle.record_rules.proofs.numbers.none_negative.Goals as goal

pub loop-i-init : goal.loop-i-init
unfolding every
loop-i-init c = refl

pub loop-i-preserved : goal.loop-i-preserved
unfolding not_negative
loop-i-preserved c = every_step (not_negative c.args.z.now c.args.at) c.loop-i.i c.loop-i.ok _ c.loop-i.invariant (search rules)
