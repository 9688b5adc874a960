-- `tree_length` meets its contract. Assumes nothing.
use mathlib.Core.Path.{◌≡◌, sym, ◌∙◌}
use mathlib.Core.Bool.{false}
use Prim.Native.Nat.{◌+◌, ◌≤◌, ◌<◌}
use lib.ListN.{length}
use Rattle.foundations.specs.Tests.{passed}
use Rattle.model.specs.Lengths.{tree_head_length}
use Rattle.model.specs.Tree.{count}
use Rattle.model.specs.Input.{length_known, tree_length}
use Rattle.formats.specs.Split.{length_says}
use native.Mathlib.Omega.{arith}
use mathlib.Core.Path.{ap}
use mathlib.Core.Bool.{not}
use Rattle.formats.proofs.split.tree_length.Goals as goal

pub returns-then-not-known : goal.returns-then-not-known
unfolding tree_length
returns-then-not-known c =
    let e : length_known c.args.s.now ≡ false = sym c.is_length_known-known.ensures ∙ c.if-not-known.true in
    rw e

pub bounds-s-2 : goal.bounds-s-2
bounds-s-2 c =
    let says : (tree_head_length + 1 < length c.args.s.now) × (1 ≤ count c.args.s.now) = length_says _ (passed _ _ c.is_length_known-known.ensures (ap not c.if-not-known.false)) in
    omega (arith, (says).0)

pub tree_size-requires : goal.tree_size-requires
tree_size-requires c =
    let says : (tree_head_length + 1 < length c.args.s.now) × (1 ≤ count c.args.s.now) = length_says _ (passed _ _ c.is_length_known-known.ensures (ap not c.if-not-known.false)) in
    record { tree_head_length_in_bounds = omega (arith, (says).0); le_n = (says).1 }

pub returns : goal.returns
unfolding tree_length
returns c = rw (passed _ _ c.is_length_known-known.ensures (ap not c.if-not-known.false)) c.tree_size.ensures
