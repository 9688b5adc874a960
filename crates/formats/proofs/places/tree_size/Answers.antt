-- `tree_size` meets its contract. Assumes nothing.
use native.Mathlib.Omega.{arith}
use borrow.Author.Rules.{rules}
use Prim.Native.Nat.{◌*◌, ◌≤◌}
use Rattle.model.specs.Tree.{vertex_size}
use Rattle.trees.specs.Accepted.{sizes_few}
use Rattle.formats.proofs.places.tree_size.Goals as goal

pub overflow_mul-result : goal.overflow_mul-result
overflow_mul-result c =
    let few : vertex_size c.args.s.now * c.args.n ≤ 7 * 255 = sizes_few c.args.s.now c.args.n 255 (search rules) in
    rw c.vertex_size.ensures (omega (arith, few))

pub overflow_add-result : goal.overflow_add-result
overflow_add-result c =
    let few : vertex_size c.args.s.now * c.args.n ≤ 7 * 255 = sizes_few c.args.s.now c.args.n 255 (search rules) in
    rw (c.vertex_size.ensures, c.tree_head_length.ensures) (omega (arith, few))

pub overflow_mul-result-2 : goal.overflow_mul-result-2
overflow_mul-result-2 c = rw c.edge_length.ensures (search rules)

pub overflow_add-result-2 : goal.overflow_add-result-2
overflow_add-result-2 c =
    let few : vertex_size c.args.s.now * c.args.n ≤ 7 * 255 = sizes_few c.args.s.now c.args.n 255 (search rules) in
    rw (c.edge_length.ensures, c.vertex_size.ensures, c.tree_head_length.ensures) (omega (arith, few))

pub returns : goal.returns
returns c = rw (c.edge_length.ensures, c.vertex_size.ensures, c.tree_head_length.ensures)
