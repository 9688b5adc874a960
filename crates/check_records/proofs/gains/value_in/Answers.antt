-- `value_in` meets its contract. Assumes nothing.
use Rattle.std.proofs.Common.{arith}
use Rattle.foundations.specs.Machine.{Same, back}
use Rattle.check_records.specs.Gains.{sits_choice, sits_inside, sits_value}
use Rattle.check_records.proofs.gains.value_in.Goals as goal

pub offset-requires : goal.offset-requires
offset-requires c = (sits_choice c.requires.laid c.requires.sits).0

pub int32_at-requires : goal.int32_at-requires
int32_at-requires c =
    let e = rw c.offset.ensures at c.record_in-at.ensures.0 in
    omega (arith, c.requires.certificate_len, sits_inside c.requires.laid c.requires.sits c.requires.begins e)

pub returns : goal.returns
returns c =
    let e = rw c.offset.ensures at c.record_in-at.ensures.0 in
    let d : Same c.int32_at.result = back c.int32_at.type_inv in
    rw d (sits_value c.requires.laid c.requires.sits c.requires.begins e c.args.certificate.now c.int32_at.result c.int32_at.ensures)
