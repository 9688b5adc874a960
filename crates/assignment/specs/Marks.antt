-- Marks as the definitions have them: 1 where a mark is set, else 0. Assumes nothing.
use Rattle.std.specs.Prelude.{◌≡◌, refl, Bool, true, false, cond, List, ℕ, map, set, replicate, get_or, IsTrue}
use Rattle.std.proofs.Common.{ap, ◌∙◌}
use Rattle.std.proofs.lemmas.List.{map-set}
use Rattle.std.proofs.Math.ListN.{get_or-map}
use Rattle.model.specs.Limits.{degree_limit}
use Rattle.assignment.specs.Matching.{at}

abbrev pub mark : Bool → ℕ
mark b = cond b 1 0

unfoldable pub marks : List Bool → List ℕ
marks l = map mark l

-- no mark is set
pub marks_none : marks (replicate degree_limit false) ≡ replicate degree_limit 0
unfolding marks
marks_none = refl

pub marks_set : (l : List Bool) (i : ℕ) → marks (set l i true) ≡ set (marks l) i 1
unfolding marks
marks_set l i = map-set mark l i true

pub marks_at : (l : List Bool) (i : ℕ) → at (marks l) i ≡ mark (get_or l i false)
unfolding marks
marks_at l i = get_or-map mark l i false

pub marks_yes : (l : List Bool) (i : ℕ) → IsTrue (get_or l i false) → at (marks l) i ≡ 1
marks_yes l i t = marks_at l i ∙ ap mark t
