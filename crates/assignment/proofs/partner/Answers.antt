-- `assignment::partner` meets its contract. The laws are in `Roots`. Assumes nothing.
use mathlib.Core.Path.{refl, sym, ◌∙◌}
use native.Mathlib.Omega.{arith}
use Rattle.assignment.specs.Matching.{at, cell, out_of}
use Rattle.assignment.proofs.Leaves.{kept_is}
use Rattle.assignment.proofs.Roots.{partner_free, partner_zero, partner_pair}
use Rattle.assignment.proofs.partner.Goals as goal

pub returns-then-l-j-clause-partner : goal.returns-then-l-j-clause-partner
returns-then-l-j-clause-partner c = partner_free c.args.l c.args.i (out_of c.args.c (cell c.args.g.now)) (at c.args.m.now) (omega (arith, c.if-l-j.true, c.from-j.ensures))

pub offset_bounds-g-i : goal.offset_bounds-g-i
offset_bounds-g-i c = omega (arith, c.requires.1, c.requires.0, c.if-l-j.false)

pub bounds-g-i : goal.bounds-g-i
bounds-g-i c = omega (arith, c.requires.1, c.requires.0, c.if-l-j.false)

pub kept-none-requires : goal.kept-none-requires
kept-none-requires c = omega (arith, c.requires.0, c.if-l-j.false)

pub returns-then-none-clause-partner : goal.returns-then-none-clause-partner
returns-then-none-clause-partner c = partner_zero c.args.l c.args.i c.from-j.result (out_of c.args.c (cell c.args.g.now)) (at c.args.m.now) c.from-j.ensures (sym (kept_is c.args.c c.args.g.now c.args.i c.from-j.result c.kept-none.ensures refl) ∙ c.if-none.true)

pub returns-clause-partner : goal.returns-clause-partner
returns-clause-partner c = rw c.from-j.ensures (partner_pair c.args.l c.args.i c.from-j.result (out_of c.args.c (cell c.args.g.now)) (at c.args.m.now) c.requires.0 c.from-j.ensures c.if-l-j.false (λ q. c.if-none.false (kept_is c.args.c c.args.g.now c.args.i c.from-j.result c.kept-none.ensures refl ∙ q)))
