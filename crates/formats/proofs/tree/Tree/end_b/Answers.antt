-- `Tree::end_b` meets its contract. Assumes nothing.
use Prim.Native.Nat.{◌<◌}
use native.Mathlib.Omega.{arith}
use Rattle.model.specs.Tree.{end_b}
use Rattle.formats.proofs.tree.Tree.end_b.Goals as goal

pub returns : goal.returns
returns c =
    let e = c.args.self.now.ends in
    let low : end_b c.args.self.now.bytes.now c.args.self.now.n c.args.j < c.args.self.now.n = omega (arith, e.low c.args.j (omega arith)) in
    record { value = rw (c.edge_start.ensures.0, c.records.ensures.bytes, c.records.ensures.n); low = rw (c.edge_start.ensures.0, c.records.ensures.bytes, c.records.ensures.n) low; few = rw (c.edge_start.ensures.0, c.records.ensures.bytes, c.records.ensures.n) (omega (arith, low, e.few)) }
