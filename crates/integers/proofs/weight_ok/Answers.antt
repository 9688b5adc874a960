-- `weight_ok` meets its contract. Assumes nothing.
use Rattle.foundations.specs.Machine.{machine}
use Rattle.model.specs.Weights.{weight_ok}
use Rattle.integers.proofs.weight_ok.Goals as goal

pub returns : goal.returns
unfolding weight_ok
returns c =
    let f = c.ranges.w in
    simp (simp (machine, f) at c.is_forbidden.ensures, simp (machine, f) at c.in_range.ensures)
