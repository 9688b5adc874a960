-- `pair_gains` meets its contract. Assumes nothing.
use mathlib.Core.Path.{sym, ◌∙◌}
use borrow.Author.Rules.{rules}
use Rattle.foundations.specs.Machine.{Same}
use Rattle.duals.specs.Solved.{gains_none}
use Rattle.duals.proofs.pair_gains.Goals as goal

pub returns-then-is_forbidden : goal.returns-then-is_forbidden
returns-then-is_forbidden c =
    let b : Same c.args.w = search rules in
    gains_none (sym (rw b at c.is_forbidden.ensures) ∙ c.if-is_forbidden.true)
