-- `read_pair` reads the weight and the gains at the first record of a pair, and else keeps them. Assumes nothing.
use Rattle.foundations.specs.Machine.{Same, back}
use Rattle.plan.specs.Pairs.{weighable, pair_weighs}
use Rattle.records.specs.Places.{order_low, size_known}
use Rattle.check_records.specs.Gains.{given}
use Rattle.check_records.specs.Records.{row_pair}
use Rattle.check_records.specs.Walk.{rule_cursor}
use Rattle.check_records.proofs.rules.read_pair.Goals as goal

pub returns-then-inside : goal.returns-then-inside
returns-then-inside c = c.requires.ruling.walked.pair c.if-inside.true

pub in_order-u-requires : goal.in_order-u-requires
in_order-u-requires c =
    let G = given c.args.on.now.ready c.requires.stand c.requires.long in
    (size_known G.laid.inputs _ (rule_cursor G c.requires.ruling).i_low).0

pub invariant_of-sheet : goal.invariant_of-sheet
invariant_of-sheet c = record { stand = c.requires.stand; long = c.requires.long }

pub gains-requires : goal.gains-requires
gains-requires c =
    let G = given c.args.on.now.ready c.requires.stand c.requires.long in
    let C = rule_cursor G c.requires.ruling in
    record { g_len = c.requires.ruling.walked.room; pair = rw c.in_order-u.ensures (row_pair G _ _ C.i_low C.v_low) }

pub vertex_pair-pair-requires : goal.vertex_pair-pair-requires
vertex_pair-pair-requires c =
    let G = given c.args.on.now.ready c.requires.stand c.requires.long in
    let C = rule_cursor G c.requires.ruling in
    weighable G.ready (rw c.in_order-u.ensures (order_low G.laid.inputs _ C.i_low).0) C.v_low

pub returns : goal.returns
returns c =
    let G = given c.args.on.now.ready c.requires.stand c.requires.long in
    let C = rule_cursor G c.requires.ruling in
    let o = c.in_order-u.ensures in
    let e : Same c.vertex_pair-pair.result = back c.vertex_pair-pair.type_inv in
    rw e (record { row = C.i_low; low = C.v_low; gains = rw o at c.gains.ensures; weighs = (pair_weighs G.ready (order_low G.laid.inputs _ C.i_low).0 C.v_low (rw o at c.vertex_pair-pair.ensures)).is })
