-- `fill_pair` meets its contract. Assumes nothing.
use mathlib.Core.Path.{sym, ◌∙◌}
use native.Mathlib.Omega.{arith}
use Rattle.foundations.specs.Machine.{Same, back}
use Rattle.solver.specs.FillLaws.{run_forbidden, run_leaf, run_table, run_numbers}
use Rattle.assignment.specs.Counts.{searches_none, searches_one, searches_few}
use Rattle.plan.specs.Pairs.{VertexPair, pair_weighs, pair_low}
use Rattle.integers.specs.Laws.{weight_ok_number}
use Rattle.solver.proofs.fill.fill_pair.Goals as goal

pub degree-l-requires : goal.degree-l-requires
degree-l-requires c = (pair_low c.args.on.now.ready c.requires.pair_run.pair).1

pub returns-then-is_forbidden : goal.returns-then-is_forbidden
returns-then-is_forbidden c =
    let weighs : let a = c.args in
    VertexPair a.on.now.table.now a.on.now.recorded.now a.on.now.found.now a.of.u a.v c.vertex_pair_in-w.result = pair_weighs c.args.on.now.ready c.requires.pair_run.pair.u_low c.requires.pair_run.pair.v_low (c.vertex_pair_in-w.ensures.is _ c.requires.shared_of.row) in
    let b : Same c.vertex_pair_in-w.result = back c.vertex_pair_in-w.type_inv in (c.repeat.ensures ∙ run_forbidden c.args.on.now.ready c.requires.pair_run _ (weighs) (sym (rw b at c.is_forbidden.ensures) ∙ c.if-is_forbidden.true) _, searches_few (searches_none _) (omega arith))

pub stored_value-requires-clause-weight_value : goal.stored_value-requires-clause-weight_value
stored_value-requires-clause-weight_value c =
    let weighs : let a = c.args in
    VertexPair a.on.now.table.now a.on.now.recorded.now a.on.now.found.now a.of.u a.v c.vertex_pair_in-w.result = pair_weighs c.args.on.now.ready c.requires.pair_run.pair.u_low c.requires.pair_run.pair.v_low (c.vertex_pair_in-w.ensures.is _ c.requires.shared_of.row) in
    let b : Same c.vertex_pair_in-w.result = back c.vertex_pair_in-w.type_inv in rw b (weight_ok_number _ (weighs).ok (sym (rw b at c.is_forbidden.ensures) ∙ c.if-is_forbidden.false))

pub returns-then-k-eq0 : goal.returns-then-k-eq0
returns-then-k-eq0 c =
    let weighs : let a = c.args in
    VertexPair a.on.now.table.now a.on.now.recorded.now a.on.now.found.now a.of.u a.v c.vertex_pair_in-w.result = pair_weighs c.args.on.now.ready c.requires.pair_run.pair.u_low c.requires.pair_run.pair.v_low (c.vertex_pair_in-w.ensures.is _ c.requires.shared_of.row) in
    let b : Same c.vertex_pair_in-w.result = back c.vertex_pair_in-w.type_inv in let d : Same c.stored_value.result = back c.stored_value.type_inv in ((rw d at c.repeat-then-k-eq0.ensures) ∙ run_leaf c.args.on.now.ready c.requires.pair_run _ _ (weighs) (sym (rw b at c.is_forbidden.ensures) ∙ c.if-is_forbidden.false) (sym c.requires.shared_of.counted ∙ c.if-k-eq0.true) (rw b at c.stored_value.ensures).is _, searches_few (searches_none _) (omega arith))

pub fill_single-requires-clause-pair_table : goal.fill_single-requires-clause-pair_table
fill_single-requires-clause-pair_table c =
    let weighs : let a = c.args in
    VertexPair a.on.now.table.now a.on.now.recorded.now a.on.now.found.now a.of.u a.v c.vertex_pair_in-w.result = pair_weighs c.args.on.now.ready c.requires.pair_run.pair.u_low c.requires.pair_run.pair.v_low (c.vertex_pair_in-w.ensures.is _ c.requires.shared_of.row) in
    let k1 = c.if-k-eq1.true in let b : Same c.vertex_pair_in-w.result = back c.vertex_pair_in-w.type_inv in (run_table c.args.on.now.ready c.requires.pair_run _ _ _ _ (sym k1 ∙ c.requires.shared_of.counted) c.degree-l.ensures c.gains.ensures _ (rw b (weight_ok_number _ (weighs).ok (sym (rw b at c.is_forbidden.ensures) ∙ c.if-is_forbidden.false))) c.requires.lent)

pub returns-then-k-eq1 : goal.returns-then-k-eq1
returns-then-k-eq1 c =
    let weighs : let a = c.args in
    VertexPair a.on.now.table.now a.on.now.recorded.now a.on.now.found.now a.of.u a.v c.vertex_pair_in-w.result = pair_weighs c.args.on.now.ready c.requires.pair_run.pair.u_low c.requires.pair_run.pair.v_low (c.vertex_pair_in-w.ensures.is _ c.requires.shared_of.row) in
    let k1 = c.if-k-eq1.true in let b : Same c.vertex_pair_in-w.result = back c.vertex_pair_in-w.type_inv in (run_numbers c.args.on.now.ready c.requires.pair_run _ _ _ _ (sym k1 ∙ c.requires.shared_of.counted) c.degree-l.ensures c.gains.ensures _ (weighs) (sym (rw b at c.is_forbidden.ensures) ∙ c.if-is_forbidden.false) (run_table c.args.on.now.ready c.requires.pair_run _ _ _ _ (sym k1 ∙ c.requires.shared_of.counted) c.degree-l.ensures c.gains.ensures _ (weight_ok_number _ (weighs).ok (sym (rw b at c.is_forbidden.ensures) ∙ c.if-is_forbidden.false)) c.requires.lent) (rw b at c.fill_single.ensures.0), searches_few (searches_one c.fill_single.ensures.1) (omega (arith, c.requires.shared_of.counted, k1)))

pub fill_table-requires-clause-pair_table : goal.fill_table-requires-clause-pair_table
fill_table-requires-clause-pair_table c =
    let weighs : let a = c.args in
    VertexPair a.on.now.table.now a.on.now.recorded.now a.on.now.found.now a.of.u a.v c.vertex_pair_in-w.result = pair_weighs c.args.on.now.ready c.requires.pair_run.pair.u_low c.requires.pair_run.pair.v_low (c.vertex_pair_in-w.ensures.is _ c.requires.shared_of.row) in
    let b : Same c.vertex_pair_in-w.result = back c.vertex_pair_in-w.type_inv in let e = c.degree-l.ensures ∙ (c.args.on.now.ready.planned.found _ c.requires.pair_run.pair.v_low).degree in (run_table c.args.on.now.ready c.requires.pair_run _ _ _ _ c.requires.shared_of.counted c.degree-l.ensures c.gains.ensures _ (rw b (weight_ok_number _ (weighs).ok (sym (rw b at c.is_forbidden.ensures) ∙ c.if-is_forbidden.false))) c.requires.lent)

pub returns : goal.returns
returns c =
    let weighs : let a = c.args in
    VertexPair a.on.now.table.now a.on.now.recorded.now a.on.now.found.now a.of.u a.v c.vertex_pair_in-w.result = pair_weighs c.args.on.now.ready c.requires.pair_run.pair.u_low c.requires.pair_run.pair.v_low (c.vertex_pair_in-w.ensures.is _ c.requires.shared_of.row) in
    let b : Same c.vertex_pair_in-w.result = back c.vertex_pair_in-w.type_inv in let e = c.degree-l.ensures ∙ (c.args.on.now.ready.planned.found _ c.requires.pair_run.pair.v_low).degree in (run_numbers c.args.on.now.ready c.requires.pair_run _ _ _ _ c.requires.shared_of.counted c.degree-l.ensures c.gains.ensures _ (weighs) (sym (rw b at c.is_forbidden.ensures) ∙ c.if-is_forbidden.false) (run_table c.args.on.now.ready c.requires.pair_run _ _ _ _ c.requires.shared_of.counted c.degree-l.ensures c.gains.ensures _ (weight_ok_number _ (weighs).ok (sym (rw b at c.is_forbidden.ensures) ∙ c.if-is_forbidden.false)) c.requires.lent) (rw b at c.fill_table.ensures.0), searches_few c.fill_table.ensures.1 (omega (arith, c.requires.shared_of.counted, e)))
