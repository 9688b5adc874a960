-- `rest_weight` meets its contract. The laws are in `Distances`. Assumes nothing.
use mathlib.Core.Path.{refl, sym}
use native.Mathlib.Omega.{arith}
use Rattle.assignment.proofs.Distances.{rest_vacant, rest_few, rest_room, rest_heaviest}
use Rattle.assignment.proofs.rest.rest_weight.Goals as goal

pub distance-e-requires-clause-vacant : goal.distance-e-requires-clause-vacant
distance-e-requires-clause-vacant c = rest_vacant c.args.problem.now.matrix.sized c.requires.sized.0 c.requires.sized.1 c.requires.sized.2 (sym c.from-r.ensures) (omega (arith, c.from-r.ensures, c.requires.sized.3))

pub overflow_add-result : goal.overflow_add-result
overflow_add-result c = omega (arith, c.requires.sized.4, (rest_few c.args.problem.now.matrix.sized c.requires.sized.0 c.requires.sized.1 c.requires.sized.2 (sym c.from-r.ensures) (omega (arith, c.from-r.ensures, c.requires.sized.3))).0)

pub overflow_sub-result-2 : goal.overflow_sub-result-2
overflow_sub-result-2 c = rest_room c.args.problem.now.matrix.sized c.requires.sized.0 c.requires.sized.1 c.requires.sized.2 (sym c.from-r.ensures) (omega (arith, c.from-r.ensures, c.requires.sized.3)) c.requires.sized.4 c.distance-e.ensures.0

pub returns : goal.returns
returns c = (rest_heaviest c.args.problem.now.matrix.sized c.requires.sized.0 c.requires.sized.1 c.requires.sized.2 (sym c.from-r.ensures) (omega (arith, c.from-r.ensures, c.requires.sized.3)) c.requires.sized.4 c.distance-e.ensures.0 refl, c.distance-e.ensures.1)
