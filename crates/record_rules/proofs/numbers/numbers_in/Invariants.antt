-- `numbers_in` meets its contract. Assumes nothing.
use Rattle.record_rules.specs.Numbers.{NumbersIn}
use Rattle.record_rules.proofs.numbers.numbers_in.Given as goal

abbrev pub invariant-loop-i : goal.invariant-loop-i
invariant-loop-i l = NumbersIn l.z l.at l.i l.r
