-- `behind_row` meets its contract. Assumes nothing.
use Rattle.std.proofs.Common.{◌≡◌, ℕ, get_or, set, [], refl, ◌∙◌, arith, not-suc-le-zero, length-set, get_or-set_same, get_or-set_other, below_more}
use Rattle.model.specs.Limits.{degree_limit}
use Rattle.planning.specs.Making.{Behind}
use Rattle.planning.proofs.behind_row.Goals as goal

pub loop-j-init : goal.loop-j-init
loop-j-init c = record { long = refl; get = λ i l. absurd (not-suc-le-zero l) }

pub loop-j-preserved : goal.loop-j-preserved
loop-j-preserved c =
    let a = c.args in
    let B = c.loop-j.invariant in
    let j = c.loop-j.j in
    let b = c.behind_one.result in
    record {
      long = length-set c.loop-j.r j b ∙ B.long;
      get =
          below_more
          (λ (i : ℕ). Behind a.neighbours.now a.starts.now a.v (get_or (get_or a.neighbours.now a.v []) i 0) (get_or (set c.loop-j.r j b) i 0))
          j
          (λ i l. rw (get_or-set_other c.loop-j.r j i b 0 (λ q. omega (arith, q))) (B.get i l))
          (rw (get_or-set_same c.loop-j.r j b 0 (let n = B.long in omega arith)) c.behind_one.ensures);
    }

pub returns : goal.returns
returns c = let e : c.loop-j.j ≡ degree_limit = omega arith in rw e at c.loop-j.invariant
