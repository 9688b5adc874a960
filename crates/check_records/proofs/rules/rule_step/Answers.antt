-- `rule_step` meets its contract: the record keeps the rules, and the next begins after it. Assumes nothing.
use Rattle.std.proofs.Common.{rules, arith, ◌∙◌}
use Rattle.foundations.specs.Machine.{Same}
use Rattle.check_records.specs.Gains.{given}
use Rattle.check_records.specs.Walk.{rule_is, passing}
use Rattle.check_records.proofs.rules.rule_step.Goals as goal

pub invariant_of-record : goal.invariant_of-record
invariant_of-record c =
    let choice = rule_is (given c.args.on.now.ready c.requires.stand c.requires.long) c.requires.ruling c.counts_of-counts.ensures c.read_pair.ensures in
    record { inside = choice.inside; columns = choice.low }

pub returns : goal.returns
returns c =
    let G = given c.args.on.now.ready c.requires.stand c.requires.long in
    let choice = rule_is G c.requires.ruling c.counts_of-counts.ensures c.read_pair.ensures in
    let e : Same c.read_pair.new.pair.weight = search rules in
    λ k C. passing G c.requires.ruling c.counts_of-counts.ensures c.read_pair.ensures c.record_ok-here.result _ c.next.result k C ((rw e at c.record_ok-here.ensures) ∙ choice.is) (omega (arith, c.subproblem_length-bytes.ensures)) c.next.ensures
