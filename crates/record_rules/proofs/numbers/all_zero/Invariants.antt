-- `all_zero` meets its contract: the test is gathered number by number. Assumes nothing.
use Rattle.std.specs.Prelude.{◌≡◌}
use Rattle.foundations.specs.Lists.{every}
use Rattle.record_rules.specs.Numbers.{is_zero}
use Rattle.record_rules.proofs.numbers.all_zero.Given as goal

abbrev pub invariant-loop-i : goal.invariant-loop-i
invariant-loop-i l = l.ok ≡ every (is_zero l.z l.at) l.i
