-- What the code chooses at one subproblem: for each child a found vertex or none, as heavy as the heaviest matching. Assumes nothing.
use Rattle.std.specs.Prelude.{◌≡◌, Bool, not, List, ℕ, get_or, T, eqb, ℤ, pos}
use Rattle.foundations.specs.Members.{mem, del, place}
use Rattle.foundations.specs.Sums.{lsum, pick}
use Rattle.model.specs.Limits.{no_vertex}
use Rattle.model.specs.Weights.{some}
use Rattle.model.specs.Graph.{neighbours}
use Rattle.model.specs.Order.{children}
use Rattle.model.specs.Values.{best, branch, recalled}

-- the mate of child c in a row of mates, one for each of the children cs in its place, 255 for none
unfoldable pub mate_in : List ℕ → List ℕ → ℕ → ℕ
mate_in cs mates c = get_or mates (place c cs) 0

unfoldable pub has_mate : List ℕ → List ℕ → ℕ → Bool
has_mate cs mates c = not (eqb (mate_in cs mates c) no_vertex)

-- Different neighbours of v other than s; each pair's branch by the work numbers is a number greater than 0, `gain c`; together they weigh what
-- the heaviest matching does.
pub record ChoiceAt (table r f : List ℕ) (work : List ℤ) (u v s : ℕ) (mates : List ℕ) : Type 0 where
  pub gain : ℕ → ℕ
  pub free : (c : ℕ) → T (mem c (children r u)) → T (has_mate (children r u) mates c) → T (mem (mate_in (children r u) mates c) (del s (neighbours f v)))
  pub apart : (c d : ℕ) → T (mem c (children r u)) → T (mem d (children r u)) → T (has_mate (children r u) mates c) → T (has_mate (children r u) mates d) → mate_in (children r u) mates c ≡ mate_in (children r u) mates d → c ≡ d
  pub branches : (c : ℕ) → T (mem c (children r u)) → T (has_mate (children r u) mates c) → branch table r f (recalled r f work) u v c (mate_in (children r u) mates c) ≡ some (pos (gain c))
  pub heaviest : best (branch table r f (recalled r f work) u v) (children r u) (del s (neighbours f v)) ≡ some (lsum (children r u) (λ c. pick (has_mate (children r u) mates c) (pos (gain c))))
