-- `Tree::degrees` meets its contract. Assumes nothing.
use mathlib.Core.Path.{◌≡◌, refl, ap, ◌∙◌}
use Prim.Native.Nat.{ℕ, ◌+◌, ◌-◌, ◌≤◌, ◌<◌}
use lib.Dec.{eqb}
use lib.ListN.{get_or}
use Rattle.foundations.specs.Lists.{tab}
use Rattle.model.specs.Limits.{vertex_limit}
use Rattle.model.specs.Tree.{degree}
use Rattle.formats.specs.TreeItems.{degree_more, degree_low, degree_after, zero_or_one}
use native.Mathlib.Omega.{arith}
use Rattle.std.proofs.Common.{Bool, true, false, cond, not}
use Rattle.std.specs.Int.{from_bool}
use Rattle.formats.proofs.tree.Tree.degrees.Goals as goal

bool_not : (b : Bool) → from_bool (not b) ≡ cond b 0 1
bool_not true = refl
bool_not false = refl

pub loop-j-init : goal.loop-j-init
unfolding tab degree
loop-j-init c = refl

pub overflow_add-d : goal.overflow_add-d
overflow_add-d c =
    let few : c.loop-j.j < vertex_limit = let e = c.args.self.now.ends in omega (arith, e.few) in
    let first : get_or c.loop-j.d c.end_a-a.result 0 ≤ c.loop-j.j = degree_low c.args.self.now.bytes.now c.args.self.now.n c.loop-j.j c.end_a-a.result c.loop-j.d c.end_a-a.ensures.few c.loop-j.invariant in
    omega (arith, first, few)

pub overflow_add-d-in-loop-j : goal.overflow_add-d-in-loop-j
overflow_add-d-in-loop-j c =
    let few : c.loop-j.j < vertex_limit = let e = c.args.self.now.ends in omega (arith, e.few) in
    let e : c.from.result ≡ cond (eqb c.end_a-a.result c.end_b-b.result) 0 1 = c.from.ensures ∙ bool_not (eqb c.end_a-a.result c.end_b-b.result) in
    let m = zero_or_one (eqb c.end_a-a.result c.end_b-b.result) in
    omega (arith, degree_after c.args.self.now.bytes.now c.args.self.now.n c.loop-j.j c.end_a-a.result c.end_b-b.result (get_or c.loop-j.d c.end_a-a.result 0 + 1) c.loop-j.d c.end_a-a.ensures.few c.end_b-b.ensures.few c.loop-j.invariant refl, few, e)

pub loop-j-preserved : goal.loop-j-preserved
loop-j-preserved c =
    let e : c.from.result ≡ cond (eqb c.end_a-a.result c.end_b-b.result) 0 1 = c.from.ensures ∙ bool_not (eqb c.end_a-a.result c.end_b-b.result) in
    degree_more c.args.self.now.bytes.now c.args.self.now.n c.loop-j.j c.end_a-a.result c.end_b-b.result c.from.result _ _ c.loop-j.d c.end_a-a.ensures.few c.end_b-b.ensures.few c.end_a-a.ensures.value c.end_b-b.ensures.value e c.loop-j.invariant refl refl

pub returns : goal.returns
returns c =
    let e : c.loop-j.j ≡ c.args.self.now.n - 1 = omega arith in
    c.loop-j.invariant ∙ ap (λ (k : ℕ). tab (λ v. degree c.args.self.now.bytes.now c.args.self.now.n v k) vertex_limit) e
