-- `vertex_count` meets its contract. Assumes nothing.
use native.Mathlib.Omega.{arith}
use Rattle.formats.proofs.tree.vertex_count.Goals as goal

pub bounds-s-2 : goal.bounds-s-2
bounds-s-2 c =
    let w = c.requires in
    omega (arith, w.some, w.long)

pub overflow_cast-result : goal.overflow_cast-result
overflow_cast-result c = omega (arith, c.shared_slice_known-1.given 2)
