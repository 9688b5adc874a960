-- `name_or` meets its contract. Assumes nothing.
use Rattle.std.proofs.Common.{◌<◌, refl}
use Rattle.model.specs.Limits.{degree_limit}
use Rattle.solver.specs.Mates.{name_or}
use borrow.Author.Tests.{lt-ltb}
use Rattle.solver.proofs.subproblem.name_or.Goals as goal

pub returns-in-Some : goal.returns-in-Some
unfolding name_or
returns-in-Some c =
    let e = c.in-Some.is in
    let low : c.in-Some.j < degree_limit = rw e at c.requires.column in
    rw (e, lt-ltb _ degree_limit low) c.neighbour.ensures

pub returns-in-None : goal.returns-in-None
unfolding name_or
returns-in-None c = rw c.in-None.is refl
