-- `assignment::grow` meets its contract. Each array is the old one with one place set. Assumes nothing.
use mathlib.Core.Path.{◌≡◌, refl}
use mathlib.Core.List.{[]}
use lib.ListN.{get_or, set}
use Rattle.model.specs.Limits.{degree_limit}
use Rattle.assignment.specs.Marks.{marks_set}
use Rattle.assignment.proofs.Leaves.{set_within}
use Rattle.assignment.proofs.grow.Goals as goal

pub returns-clause-grown : goal.returns-clause-grown
returns-clause-grown c =
    let a = c.args in
    let l = a.rows.now.alternative in
    let q = get_or l a.p [] in
    let one : set (set l a.o q) a.o (set (get_or (set l a.o q) a.o []) a.p a.b) ≡ set l a.o (set q a.p a.b) = set_within l a.o q a.p a.b in
    record { rows = marks_set _ _; columns = marks_set _ _; joins = refl; alts = rw one (set_within l a.o (set q a.p a.b) a.o degree_limit) }
