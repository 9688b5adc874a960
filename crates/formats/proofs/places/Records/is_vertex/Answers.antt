-- `Records::is_vertex` meets its contract: either mark stands where the record starts. Assumes nothing.
use mathlib.Core.Path.{◌≡◌, sym, ◌∙◌}
use mathlib.Core.Bool.{true, false}
use Rattle.model.specs.Tree.{with_serials, vertex_mark_of}
use Rattle.trees.specs.Accepted.{long_some}
use native.Mathlib.Omega.{arith}
use Rattle.formats.proofs.places.Records.is_vertex.Goals as goal

pub with_serials-requires : goal.with_serials-requires
with_serials-requires c = omega (arith, long_some c.args.self.now.whole)

pub returns-then-with_serials : goal.returns-then-with_serials
unfolding vertex_mark_of
returns-then-with_serials c =
    let e : with_serials c.args.self.now.bytes.now ≡ true = sym c.with_serials.ensures ∙ c.if-with_serials.true in
    rw (e, ← c.vertex_start-at.ensures.0) c.is_mark.ensures

pub returns-else-with_serials : goal.returns-else-with_serials
unfolding vertex_mark_of
returns-else-with_serials c =
    let e : with_serials c.args.self.now.bytes.now ≡ false = sym c.with_serials.ensures ∙ c.if-with_serials.false in
    rw (e, ← c.vertex_start-at.ensures.0) c.is_mark-else-with_serials.ensures
