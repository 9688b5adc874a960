-- `children` meets its contract. Assumes nothing.
use Rattle.std.proofs.Common.{◌≡◌, ◌∙◌, refl, ap, Bool, true, false, cond, ℕ, ◌+◌, ltb}
use Rattle.std.specs.Int.{from_bool}
use Rattle.model.specs.Limits.{degree_limit}
use Rattle.planning.specs.Making.{next_of, children_none, children_more}
use native.Mathlib.Omega.{arith}
use Rattle.planning.proofs.children.Goals as goal

pub loop-i-init : goal.loop-i-init
loop-i-init c = children_none _ _ _ _ _ _ _ refl refl refl

next_is : (b : Bool) (c : ℕ) → c + from_bool b ≡ cond b (c + 1) c
next_is true c = refl
next_is false c = omega arith

pub loop-i-preserved : goal.loop-i-preserved
unfolding next_of
loop-i-preserved c =
    let a = c.args in
    children_more _ _ _ a.own c.loop-i.i c.loop-i.c c.loop-i.edge c.loop-i.at c.loop-i.vertex _ c.place_or-p.result _ _ (omega arith) c.loop-i.invariant refl c.place_or-p.ensures refl (ap (λ x. c.loop-i.c + x) c.from-c.ensures ∙ next_is (ltb c.place_or-p.result a.own) c.loop-i.c)

pub returns : goal.returns
returns c =
    let e : c.loop-i.i ≡ degree_limit = omega arith in rw e at c.loop-i.invariant
