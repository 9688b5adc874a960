-- `store_vertices` meets its contract. Assumes nothing.
use mathlib.Core.Path.{◌≡◌}
use Rattle.planning.specs.Rows.{vertices_none, vertices_more}
use borrow.Author.Rules.{rules}
use native.Mathlib.Omega.{arith}
use Rattle.planning.proofs.store_vertices.Goals as goal

pub vertex_count-n-requires : goal.vertex_count-n-requires
vertex_count-n-requires c =
    let e = c.requires.sound.passed.ends in
    record { some = e.some; few = e.few; long = e.long }

pub invariant_of-tree : goal.invariant_of-tree
invariant_of-tree c = record { ends = rw c.vertex_count-n.ensures c.requires.sound.passed.ends }

pub loop-v-init : goal.loop-v-init
loop-v-init c =
    let few = c.requires.sound.passed.ends.few in
    (search rules, omega (arith, few, c.vertex_count-n.ensures), c.requires.vertex_limit_bound, vertices_none _ _ _ c.requires.plan_len)

pub loop-v-preserved : goal.loop-v-preserved
loop-v-preserved c =
    let i = c.loop-v.invariant in
    (i.0, i.1, i.2, vertices_more i.2 (omega arith) i.3 (rw (c.vertex_label-label.ensures, c.serial-serial.ensures) at c.vertex_row-row.ensures))

pub returns : goal.returns
returns c =
    let e : c.loop-v.v ≡ c.vertex_count-n.result = omega arith in
    rw (e, c.loop-v.invariant.0) at c.loop-v.invariant.3
