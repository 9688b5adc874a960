-- `row_covered` meets its contract: the test is gathered column by column. Assumes nothing.
use Rattle.std.specs.Prelude.{◌≡◌}
use Rattle.foundations.specs.Lists.{every}
use Rattle.record_rules.specs.Cover.{is_covered}
use Rattle.record_rules.proofs.row_covered.Given as goal

abbrev pub invariant-loop-j : goal.invariant-loop-j
invariant-loop-j l = l.ok ≡ every (is_covered l.g l.i l.y l.across l.q) l.j
