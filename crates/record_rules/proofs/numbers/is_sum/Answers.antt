-- `is_sum` meets its contract: the sum fits an i64. Assumes nothing.
use Rattle.std.proofs.Common.{◌≡◌, ◌∙◌, ℤ, pos, ◌+ℤ◌, to_z, SFits, arith}
use Rattle.std.specs.Int.{w64}
use mir.Facts.{to_z_pos}
use Rattle.foundations.specs.Machine.{back_32, back_64, sfits_64}
use Rattle.foundations.specs.Int.{ints, plus, canon}
use Rattle.records.specs.Equal.{same_bits}
use Rattle.record_rules.proofs.numbers.is_sum.Goals as goal

pub returns : goal.returns
returns c =
    let sum : ℤ = c.args.weight +ℤ pos c.args.total in
    let total : to_z w64 c.args.total ≡ pos c.args.total = to_z_pos w64 (omega arith) in
    let fits : SFits w64 sum = omega (ints, plus c.args.weight (pos c.args.total), canon sum) in
    let value : c.from.result ≡ c.args.value = c.from.ensures ∙ back_32 c.args.value c.ranges.value in
    let weight : c.from-2.result ≡ c.args.weight = c.from-2.ensures ∙ back_32 c.args.weight c.ranges.weight in
    rw (value, weight, back_64 c.args.weight c.ranges.weight, total) (same_bits w64 c.args.value sum (sfits_64 c.ranges.value) fits)
