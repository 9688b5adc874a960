-- `square_sums` meets its contract. Assumes nothing.
use mathlib.Core.Path.{◌≡◌}
use Rattle.model.specs.Certificate.{squares}
use Rattle.records.specs.Places.{SquaresTo}
use Rattle.records.proofs.square_sums.Given as goal

abbrev pub invariant-loop-v : goal.invariant-loop-v
invariant-loop-v l = (l.sum ≡ squares l.found l.v) × SquaresTo l.found l.v l.p
