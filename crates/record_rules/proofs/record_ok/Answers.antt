-- `record_ok` tests the record as that of a forbidden pair or of another. Assumes nothing.
use Rattle.std.proofs.Common.{sym, ◌∙◌, rules}
use Rattle.foundations.specs.Machine.{Same}
use Rattle.record_rules.specs.Cover.{rules_none, rules_some}
use Rattle.record_rules.proofs.record_ok.Goals as goal

pub returns-then-is_forbidden : goal.returns-then-is_forbidden
returns-then-is_forbidden c =
    let b : Same c.args.w = search rules in
    let no = sym (rw b at c.is_forbidden.ensures) ∙ c.if-is_forbidden.true in
    c.forbidden_ok.ensures ∙ rules_none _ _ _ _ _ c.args.g.now _ no

pub returns : goal.returns
returns c =
    let b : Same c.args.w = search rules in
    let no = sym (rw b at c.is_forbidden.ensures) ∙ c.if-is_forbidden.false in
    (rw b at c.duals_ok.ensures) ∙ rules_some _ _ _ _ _ c.args.g.now _ no
