-- `is_new` meets its contract: the test is gathered over the vertices before v. Assumes nothing.
use Rattle.std.proofs.Common.{◌≡◌, not, eqb, get_or}
use Rattle.foundations.specs.Lists.{every}
use Rattle.formats.proofs.serials.is_new.Given as goal

abbrev pub invariant-loop-x : goal.invariant-loop-x
invariant-loop-x l = l.ok ≡ every (λ y. not (eqb (get_or l.serials y 0) (get_or l.serials l.v 0))) l.x
