-- `top_of_row` meets its contract. Assumes nothing.
use Rattle.std.proofs.Common.{◌≡◌, ◌<◌, ◌^◌}
use Rattle.model.specs.Certificate.{value_of}
use Rattle.plan.specs.Pairs.{up_w}
use Rattle.check_records.specs.Greatest.{most}
use Rattle.check_records.proofs.top.top_of_row.Given as goal

abbrev pub invariant-loop-v : goal.invariant-loop-v
invariant-loop-v l = (l.top ≡ most (λ x. up_w (value_of l.recorded l.found l.certificate l.u x x)) l.v) × (l.top < 2 ^ 31)
