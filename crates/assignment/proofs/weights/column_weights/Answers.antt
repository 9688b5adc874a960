-- `column_weights` meets its contract. Assumes nothing.
use native.Mathlib.Omega.{arith}
use Rattle.assignment.specs.Counts.{searches_one, searches_few}
use Rattle.assignment.proofs.Choices.{column_weights_of}
use Rattle.assignment.proofs.weights.column_weights.Goals as goal

pub returns : goal.returns
returns c = (column_weights_of c.column_search-all.ensures.0.1, searches_few (searches_one c.column_search-all.ensures.1) (omega arith))
