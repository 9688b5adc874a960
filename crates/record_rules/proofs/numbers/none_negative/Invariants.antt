-- `none_negative` meets its contract: the test is gathered number by number. Assumes nothing.
use Rattle.std.specs.Prelude.{◌≡◌}
use Rattle.foundations.specs.Lists.{every}
use Rattle.record_rules.specs.Numbers.{not_negative}
use Rattle.record_rules.proofs.numbers.none_negative.Given as goal

abbrev pub invariant-loop-i : goal.invariant-loop-i
invariant-loop-i l = l.ok ≡ every (not_negative l.z l.at) l.i
