-- `Records::edge_start` meets its contract. Assumes nothing.
use native.Mathlib.Omega.{arith}
use borrow.Author.Rules.{rules}
use Rattle.formats.proofs.places.Records.edge_start.Goals as goal

pub overflow_mul-result : goal.overflow_mul-result
overflow_mul-result c = rw c.edge_length.ensures (search rules)

pub overflow_sub-result-3 : goal.overflow_sub-result-3
overflow_sub-result-3 c = rw c.edge_length.ensures (let l = c.args.self.now.whole.long in omega arith)

pub returns : goal.returns
returns c = rw c.edge_length.ensures (let l = c.args.self.now.whole.long in (omega arith, omega arith))
