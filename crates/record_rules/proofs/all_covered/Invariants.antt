-- `all_covered` meets its contract: the test is gathered row by row. Assumes nothing.
use Rattle.std.specs.Prelude.{◌≡◌}
use Rattle.foundations.specs.Lists.{every}
use Rattle.record_rules.specs.Cover.{row_covered}
use Rattle.record_rules.proofs.all_covered.Given as goal

abbrev pub invariant-loop-i : goal.invariant-loop-i
invariant-loop-i l = l.ok ≡ every (row_covered l.g l.below l.across l.l l.q) l.i
