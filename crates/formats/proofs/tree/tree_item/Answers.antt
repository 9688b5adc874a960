-- `tree_item` tests item 3 in two steps, length and count and then marks, and hands on the later items. Assumes nothing.
use mathlib.Core.Path.{◌≡◌, refl, sym, ap, ◌∙◌}
use mathlib.Core.Bool.{Bool, false, ◌&&◌, not}
use mathlib.Core.List.{List}
use Prim.Native.Nat.{ℕ}
use Rattle.foundations.specs.Tests.{passed, not_says}
use Rattle.model.specs.Refusals.{first_of}
use Rattle.model.specs.Tree.{count, sized, marked, tree_item}
use Rattle.trees.specs.Items.{first_no, first_yes}
use Rattle.trees.specs.Accepted.{Whole, sized_says}
use Rattle.formats.specs.TreeItems.{items_from4}
use Rattle.formats.proofs.tree.tree_item.Goals as goal

-- item 3 does not apply
shaped : (s : List ℕ) (a b : Bool) (n : ℕ) → a ≡ sized s → not a ≡ false → n ≡ count s → b ≡ marked s n → b ≡ (sized s && marked s (count s))
shaped s a b n e h q g = rw (passed (sized s) a e h) (g ∙ ap (marked s) q)

pub returns-then-not-right : goal.returns-then-not-right
unfolding tree_item
returns-then-not-right c = λ first twice.
    let a = c.args in
    let no : sized a.s.now ≡ false = sym c.is_sized-right.ensures ∙ not_says c.is_sized-right.result (ap not c.if-not-right.true) in
    first_no (sized a.s.now && marked a.s.now (count a.s.now)) false first _ (rw no) refl

pub vertex_count-n-requires : goal.vertex_count-n-requires
vertex_count-n-requires c = sized_says _ (passed _ _ c.is_sized-right.ensures (ap not c.if-not-right.false))

pub invariant_of-records : goal.invariant_of-records
invariant_of-records c =
    let size : Whole c.args.s.now c.vertex_count-n.result = rw c.vertex_count-n.ensures (sized_says _ (passed _ _ c.is_sized-right.ensures (ap not c.if-not-right.false))) in
    record { whole = size }

pub returns-then-not-marks : goal.returns-then-not-marks
unfolding tree_item
returns-then-not-marks c = λ first twice.
    let a = c.args in
    first_no _ c.is_marked-marks.result first _ (shaped a.s.now c.is_sized-right.result c.is_marked-marks.result c.vertex_count-n.result c.is_sized-right.ensures (ap not c.if-not-right.false) c.vertex_count-n.ensures c.is_marked-marks.ensures) (ap not c.if-not-marks.true)

pub returns : goal.returns
unfolding tree_item
returns c = λ first twice.
    let a = c.args in
    first_yes _ c.is_marked-marks.result first _ _ (shaped a.s.now c.is_sized-right.result c.is_marked-marks.result c.vertex_count-n.result c.is_sized-right.ensures (ap not c.if-not-right.false) c.vertex_count-n.ensures c.is_marked-marks.ensures) (ap not c.if-not-marks.false)
    (c.item_from_4.ensures first twice ∙ ap (λ (m : ℕ). first_of (items_from4 first twice a.s.now m a.k a.l)) c.vertex_count-n.ensures)
