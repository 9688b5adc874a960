-- `from_second` meets its contract. Assumes nothing.
use mathlib.Core.Path.{sym}
use borrow.Author.Rules.{rules}
use native.Mathlib.Omega.{arith}
use Rattle.trees.specs.Directions.{second_plain, second_directed}
use Rattle.adjacency.proofs.from_second.Goals as goal

pub returns-then-undirected : goal.returns-then-undirected
returns-then-undirected c = sym (second_plain c.args.l (search rules))

pub returns : goal.returns
returns c = sym (second_directed c.args.l (omega (arith, c.if-undirected.false)))
