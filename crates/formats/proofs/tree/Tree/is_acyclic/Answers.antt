-- `Tree::is_acyclic` meets its contract. Assumes nothing.
use Rattle.model.specs.Limits.{vertex_limit}
use Rattle.model.specs.Edges.{component}
use Rattle.model.specs.Tree.{closes, acyclic}
use mathlib.Core.Bool.{not, true, false, ◌&&◌}
use borrow.Author.Tests.{ne_eqb, eq-eqb}
use lib.Dec.{eqb}
use Rattle.formats.specs.TreeItems.{closes_more, component_more}
use Rattle.foundations.specs.Lists.{every, every_fails, get_d_tab}
use Rattle.model.specs.Tree.{end_a, end_b}
use native.Mathlib.Omega.{arith}
use mathlib.Core.Path.{◌≡◌, refl, sym, ap, ◌∙◌}
use Prim.Native.Nat.{◌-◌, ◌+◌, ◌<◌}
use lib.ListN.{get_or}
use Rattle.formats.proofs.tree.Tree.is_acyclic.Goals as goal

pub loop-j-init : goal.loop-j-init
unfolding every component
loop-j-init c = (refl, c.own_components-l.ensures)

pub loop-j-preserved : goal.loop-j-preserved
loop-j-preserved c =
    let a = c.args in
    let e = a.self.now.bytes.now in
    let j = c.loop-j.j in
    let r = c.args.self.now.ends in
    let i = c.end_a.result in
    let k = c.end_b.result in
    let la : i < vertex_limit = c.end_a.ensures.few in
    let lb : k < vertex_limit = c.end_b.ensures.few in
    let x : get_or c.loop-j.l i 0 ≡ component (end_a e a.self.now.n) (end_b e a.self.now.n) j (end_a e a.self.now.n j) = rw (c.loop-j.invariant.1, get_d_tab (component (end_a e a.self.now.n) (end_b e a.self.now.n) j) vertex_limit i 0 la, c.end_a.ensures.value) in
    let y : get_or c.loop-j.l k 0 ≡ component (end_a e a.self.now.n) (end_b e a.self.now.n) j (end_b e a.self.now.n j) = rw (c.loop-j.invariant.1, get_d_tab (component (end_a e a.self.now.n) (end_b e a.self.now.n) j) vertex_limit k 0 lb, c.end_b.ensures.value) in
    let n : eqb (get_or c.loop-j.l i 0) (get_or c.loop-j.l k 0) ≡ false = ne_eqb _ _ c.if-x-y.false in
    let more : (true && not (eqb (get_or c.loop-j.l i 0) (get_or c.loop-j.l k 0))) ≡ every (λ m. not (closes e a.self.now.n m)) (j + 1) = closes_more e a.self.now.n j true c.loop-j.l i k (sym c.loop-j.invariant.0) c.loop-j.invariant.1 c.end_a.ensures.value c.end_b.ensures.value la lb in
    (sym more ∙ rw n, component_more e a.self.now.n j c.loop-j.l c.merged-l.result (get_or c.loop-j.l i 0) (get_or c.loop-j.l k 0) c.loop-j.invariant.1 x y c.merged-l.ensures)

pub returns-then-x-y : goal.returns-then-x-y
unfolding acyclic closes
returns-then-x-y c =
    let a = c.args in
    let e = a.self.now.bytes.now in
    let j = c.loop-j.j in
    let r = c.args.self.now.ends in
    let la : c.end_a.result < vertex_limit = c.end_a.ensures.few in
    let lb : c.end_b.result < vertex_limit = c.end_b.ensures.few in
    let x : get_or c.loop-j.l c.end_a.result 0 ≡ component (end_a e a.self.now.n) (end_b e a.self.now.n) j (end_a e a.self.now.n j) = rw (c.loop-j.invariant.1, get_d_tab (component (end_a e a.self.now.n) (end_b e a.self.now.n) j) vertex_limit c.end_a.result 0 la, c.end_a.ensures.value) in
    let y : get_or c.loop-j.l c.end_b.result 0 ≡ component (end_a e a.self.now.n) (end_b e a.self.now.n) j (end_b e a.self.now.n j) = rw (c.loop-j.invariant.1, get_d_tab (component (end_a e a.self.now.n) (end_b e a.self.now.n) j) vertex_limit c.end_b.result 0 lb, c.end_b.ensures.value) in
    sym (every_fails (λ m. not (closes e a.self.now.n m)) j (a.self.now.n - 1) (omega arith) (ap not (eq-eqb _ _ (sym x ∙ (c.if-x-y.true ∙ y)))))

pub returns : goal.returns
unfolding acyclic
returns c =
    let e : c.loop-j.j ≡ c.args.self.now.n - 1 = omega arith in
    rw (← e) (sym c.loop-j.invariant.0)
