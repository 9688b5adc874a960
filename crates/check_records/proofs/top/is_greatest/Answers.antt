-- `is_greatest` compares the weight with the greatest value. Assumes nothing.
use Rattle.std.proofs.Common.{◌∙◌}
use Rattle.foundations.specs.Machine.{Same, back}
use Rattle.check_records.specs.Greatest.{most_largest, long_head, zero_sum}
use Rattle.check_records.proofs.top.is_greatest.Goals as goal

pub int32_at-requires : goal.int32_at-requires
int32_at-requires c = long_head _ _ _ c.requires.certificate_len

pub returns : goal.returns
returns c =
    let d : Same c.int32_at.result = back c.int32_at.type_inv in
    (rw (d, c.int32_at.ensures, c.from.ensures) at c.is_sum.ensures) ∙ zero_sum _ _ _ (most_largest _ _ _ c.greatest-top.result c.greatest-top.ensures.0)
