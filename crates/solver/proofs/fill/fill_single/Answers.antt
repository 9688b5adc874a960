-- `fill_single` meets its contract. Assumes nothing.
use Prim.Native.Nat.{◌-◌}
use native.Mathlib.Omega.{arith}
use borrow.Author.Rules.{rules}
use Rattle.foundations.specs.Machine.{Same, back}
use Rattle.solver.specs.Numbers.{single_small, numbers_same, numbers_but}
use Rattle.solver.proofs.fill.fill_single.Goals as goal

pub stored_value-requires-clause-total_bound : goal.stored_value-requires-clause-total_bound
stored_value-requires-clause-total_bound c =
    let b : Same c.args.w = search rules in (single_small c.requires.pair_table c.row_weights-r.ensures.0).0

pub returns-then-r-run : goal.returns-then-r-run
returns-then-r-run c =
    let b : Same c.args.w = search rules in let d : Same c.stored_value.result = back c.stored_value.type_inv in (numbers_same c.requires.pair_table c.row_weights-r.ensures.0 (rw b at c.stored_value.ensures).is (rw d at c.repeat.ensures) (λ i h q. omega (arith, q, c.if-r-run.true)), c.row_weights-r.ensures.1)

pub stored_value-x-requires-clause-total_bound : goal.stored_value-x-requires-clause-total_bound
stored_value-x-requires-clause-total_bound c =
    let b : Same c.args.w = search rules in (single_small c.requires.pair_table c.row_weights-r.ensures.0).1

pub returns-then-i-run : goal.returns-then-i-run
returns-then-i-run c =
    let b : Same c.args.w = search rules in let d : Same c.stored_value.result = back c.stored_value.type_inv in let u : Same c.stored_value-x.result = back c.stored_value-x.type_inv in (rw u (numbers_but c.requires.pair_table c.row_weights-r.ensures.0 (c.row_weights-r.result.out - c.args.run.first) (rw b at c.stored_value.ensures).is (rw b at c.stored_value-x.ensures).is (rw d at c.repeat.ensures) c.if-i-run.true (omega (arith, c.if-r-run.false))), c.row_weights-r.ensures.1)

pub returns-else-i-run : goal.returns-else-i-run
returns-else-i-run c =
    let b : Same c.args.w = search rules in let d : Same c.stored_value.result = back c.stored_value.type_inv in (numbers_same c.requires.pair_table c.row_weights-r.ensures.0 (rw b at c.stored_value.ensures).is (rw d at c.repeat.ensures) (λ i h q. omega (arith, q, c.if-r-run.false, c.if-i-run.false)), c.row_weights-r.ensures.1)
