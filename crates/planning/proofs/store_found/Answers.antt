-- `store_found` meets its contract. Assumes nothing.
use Rattle.planning.specs.Rows.{found_none, found_more}
use mathlib.Core.Path.{◌≡◌, refl}
use borrow.Author.Rules.{rules}
use native.Mathlib.Omega.{arith}
use Rattle.planning.proofs.store_found.Goals as goal

pub vertex_count-m-requires : goal.vertex_count-m-requires
vertex_count-m-requires c =
    let e = c.requires.found_read.sound.passed.ends in
    record { some = e.some; few = e.few; long = e.long }

pub loop-v-init : goal.loop-v-init
loop-v-init c =
    let few = c.requires.found_read.sound.passed.ends.few in
    (search rules, omega (arith, few, c.vertex_count-m.ensures), found_none _ _ c.requires.plan_len)

pub behind_row-back-requires : goal.behind_row-back-requires
behind_row-back-requires c = record { v_lt_vertex_limit = omega arith; by_index = c.requires.found_read.small }

pub loop-v-preserved : goal.loop-v-preserved
loop-v-preserved c = (c.loop-v.invariant.0, c.loop-v.invariant.1, found_more c.requires.found_read _ c.loop-v.plan c.loop-v.v (omega arith) c.loop-v.invariant.2 _ _ _ c.taken.ensures c.behind_row-back.ensures refl refl)

pub returns : goal.returns
returns c =
    let e : c.loop-v.v ≡ c.vertex_count-m.result = omega arith in
    rw (e, c.loop-v.invariant.0) at c.loop-v.invariant.2
