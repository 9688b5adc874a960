-- `Records::vertex_start` meets its contract. Assumes nothing.
use mathlib.Core.Path.{refl}
use native.Mathlib.Omega.{arith}
use Prim.Native.Nat.{◌+◌, ◌≤◌}
use lib.ListN.{length}
use Rattle.model.specs.Lengths.{vertex_length}
use Rattle.model.specs.Tree.{vertex_start}
use Rattle.trees.specs.Accepted.{long_some, vertex_inside}
use Rattle.formats.proofs.places.Records.vertex_start.Goals as goal

pub vertex_size-requires : goal.vertex_size-requires
vertex_size-requires c = omega (arith, long_some c.args.self.now.whole)

pub overflow_mul-result : goal.overflow_mul-result
overflow_mul-result c =
    let inside : vertex_start c.args.self.now.bytes.now c.args.v + vertex_length ≤ length c.args.self.now.bytes.now = vertex_inside c.args.self.now.whole c.args.v c.requires.v_lt_n in
    rw c.vertex_size.ensures (omega (arith, inside))

pub overflow_add-result : goal.overflow_add-result
overflow_add-result c =
    let inside : vertex_start c.args.self.now.bytes.now c.args.v + vertex_length ≤ length c.args.self.now.bytes.now = vertex_inside c.args.self.now.whole c.args.v c.requires.v_lt_n in
    rw (c.vertex_size.ensures, c.tree_head_length.ensures) (omega (arith, inside))

pub returns : goal.returns
returns c =
    let inside : vertex_start c.args.self.now.bytes.now c.args.v + vertex_length ≤ length c.args.self.now.bytes.now = vertex_inside c.args.self.now.whole c.args.v c.requires.v_lt_n in
    rw (c.vertex_size.ensures, c.tree_head_length.ensures) (refl, inside)
