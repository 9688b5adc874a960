-- `agreed` meets its contract. Assumes nothing.
use Rattle.std.proofs.Common.{rules}
use Rattle.foundations.specs.Machine.{Same}
use Rattle.plan.specs.Pairs.{pair_along, pair_against}
use Rattle.plan.proofs.weights.agreed.Goals as goal

pub returns-then-alike : goal.returns-then-alike
returns-then-alike c =
    let b : Same c.args.w = search rules in rw b (record { is = λ table T hi hj h. pair_along table T _ _ _ hi hj c.if-alike.true h })

pub returns : goal.returns
returns c = record { is = λ table T hi hj h. pair_against table _ _ c.if-alike.false }
