-- The trees of accepted inputs, as the theory takes them. Assumes nothing.
use Rattle.std.specs.Prelude.{List, ℕ}
use Rattle.formats.specs.Inputs.{Accepted}
use Rattle.subtrees.specs.Trees.{IsTree}

module _ {table r f : List ℕ} (A : Accepted table r f) where
  pub recorded_tree : IsTree r
  recorded_tree = record { ends = A.recorded.ends; loopless = A.recorded.tree }

  pub found_tree : IsTree f
  found_tree = record { ends = A.found.ends; loopless = A.found.tree }
