-- The sum of squares from the degrees as they are counted, and the parts of a certificate's length. Assumes nothing.
use Rattle.std.specs.Prelude.{◌≡◌, List, ℕ, ◌+◌, ◌*◌, ◌-◌, ◌≤◌, ◌<◌, zero, suc, length, get_or, take, sum_by}
use Rattle.std.proofs.Common.{sym, ap, ◌∙◌, arith, add-one}
use Rattle.std.proofs.lemmas.List.Sums.{sum_by_more}
use Rattle.foundations.specs.Lists.{tab, length_tab, get_d_tab}
use Rattle.model.specs.Certificate.{squares, certificate_length}
use Rattle.model.specs.Graph.{neighbours}
use Rattle.model.specs.Lengths.{certificate_head_length, partner_length, subproblem_length}
use Rattle.model.specs.Limits.{vertex_limit, square_limit, certificate_limit}
use Rattle.model.specs.Order.{width, subproblems}
use Rattle.model.specs.Tree.{count, degree}
use Rattle.trees.specs.Accepted.{Sound}
use Rattle.trees.specs.Neighbours.{degree_neighbours}
use Rattle.certificate.specs.Length.{length_few}
use Rattle.certificate.specs.Places.{squares_first, squares_few, squares_add}

-- the degrees as item 7 counts them
abbrev pub counted : List ℕ → ℕ → List ℕ
counted f m = tab (λ v. degree f m v (m - 1)) vertex_limit

-- the squares of the first v degrees, added up
module _ (f : List ℕ) (S : Sound f) (m : ℕ) (e : m ≡ count f) where
  sum_first : (v : ℕ) → v ≤ m → sum_by (λ x. x * x) (take v (counted f m)) ≡ squares f v
  sum_first zero h = squares_first f
  sum_first (suc v) h =
      let p = S.passed in
      let low : v < count f = omega arith in
      let few : count f ≤ vertex_limit = p.ends.few in
      let long : v < length (counted f m) = rw length_tab (omega arith) in
      let at : get_or (counted f m) v 0 ≡ length (neighbours f v) =
      get_d_tab (λ v. degree f m v (m - 1)) vertex_limit v 0 (omega arith)
      ∙ ap (λ (k : ℕ). degree f k v (k - 1)) e
      ∙ sym (degree_neighbours f v p.ends p.tree) in
      let next : sum_by (λ x. x * x) (take (v + 1) (counted f m)) ≡ squares f (v + 1) =
      sum_by_more (λ x. x * x) (counted f m) v 0 long ∙ (squares_add f _ _ p v _ _ low at (sum_first v (omega arith))).0 in
      rw add-one at next

  pub sum_squares : (d : List ℕ) → d ≡ counted f m → (sum_by (λ x. x * x) (take m d) ≡ squares f (count f)) × (squares f (count f) ≤ square_limit)
  sum_squares d is = (rw is (sum_first m (omega arith)) ∙ ap (squares f) e, squares_few f _ _ S.passed (count f) (omega arith))

pub length_low : {r f : List ℕ} → Sound r → Sound f → certificate_length r f ≤ certificate_limit
length_low {r} {f} R F = length_few r f R.passed.ends.few F.passed.ends.few (squares_few f _ _ F.passed (count f) (omega arith))

-- the parts as the code adds them
pub length_parts : (r f : List ℕ) {n all w q : ℕ} → n ≡ count r → all ≡ subproblems r f → w ≡ width f → q ≡ squares f (count f) → certificate_head_length + partner_length * n + subproblem_length 0 0 * all + 4 * ((n - 1) * w) + 4 * (n * q) ≡ certificate_length r f
unfolding certificate_length
length_parts r f a b c d = rw (a, b, c, d)
