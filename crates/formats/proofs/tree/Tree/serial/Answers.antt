-- `Tree::serial` meets its contract. Assumes nothing.
use mathlib.Core.Path.{◌≡◌, sym, ◌∙◌}
use mathlib.Core.Bool.{true, false}
use Rattle.model.specs.Tree.{with_serials, serial}
use Rattle.trees.specs.Accepted.{whole, size_with, long_with, long_some}
use native.Mathlib.Omega.{arith}
use Rattle.formats.proofs.tree.Tree.serial.Goals as goal

pub with_serials-requires : goal.with_serials-requires
with_serials-requires c = omega (arith, long_some (whole c.args.self.now.ends))

pub vertex_start-requires : goal.vertex_start-requires
vertex_start-requires c =
    record { v_lt_n = rw c.records.ensures.n c.requires.v_lt_n }

pub word_at-requires : goal.word_at-requires
word_at-requires c =
    let e : with_serials c.args.self.now.bytes.now ≡ true = sym c.with_serials.ensures ∙ c.if-with_serials.true in
    let l = long_with (whole c.args.self.now.ends) e in
    let r = rw (c.records.ensures.bytes, size_with _ e) at c.vertex_start.ensures.0 in
    let low = c.requires.v_lt_n in
    omega arith

pub returns-then-with_serials : goal.returns-then-with_serials
unfolding serial
returns-then-with_serials c =
    let e : with_serials c.args.self.now.bytes.now ≡ true = sym c.with_serials.ensures ∙ c.if-with_serials.true in
    let at = rw c.records.ensures.bytes at c.vertex_start.ensures.0 in rw (e, ← at) c.word_at.ensures

pub returns-else-with_serials : goal.returns-else-with_serials
unfolding serial
returns-else-with_serials c =
    let e : with_serials c.args.self.now.bytes.now ≡ false = sym c.with_serials.ensures ∙ c.if-with_serials.false in
    rw e
