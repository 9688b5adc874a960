-- `carry` meets its contract. Assumes nothing.
use Rattle.adjacency.specs.Insertion.{carried_same, carried_other}
use mathlib.Core.Path.{sym, ◌∙◌}
use Rattle.adjacency.proofs.carry.Goals as goal

pub returns-then-x-c : goal.returns-then-x-c
returns-then-x-c c = sym (carried_same _ _ c.if-x-c.true)

pub returns : goal.returns
returns c = sym (carried_other _ _ c.if-x-c.false ∙ sym c.max.ensures)
