-- `certificate_length` adds up the parts of the length, none of which is more than the whole. Assumes nothing.
use Prim.Native.Nat.{◌+◌, ◌*◌, ◌-◌, ◌≤◌}
use mathlib.Core.Path.{◌≡◌}
use Rattle.model.specs.Certificate.{certificate_length}
use Rattle.model.specs.Limits.{certificate_limit}
use Rattle.sizes.specs.Sums.{length_low, length_parts}
use borrow.Author.Rules.{rules}
use Rattle.sizes.proofs.certificate_length.Goals as goal

pub overflow_mul-result : goal.overflow_mul-result
overflow_mul-result c = rw c.partner_length.ensures (search rules)

pub overflow_add-result : goal.overflow_add-result
overflow_add-result c = rw c.partner_length.ensures (search rules)

pub returns : goal.returns
returns c =
    let whole : let a = c.args in
    let n = c.vertex_count-n.result in
    let h = c.certificate_head_length.result in
    let p = c.partner_length.result in
    let s = c.subproblem_length.result in
    (h + p * n + s * c.subproblem_count-all.result + 4 * ((n - 1) * c.width_of-width.result) + 4 * (n * c.square_sum-squares.result) ≡ certificate_length a.recorded.now a.found.now) × (certificate_length a.recorded.now a.found.now ≤ certificate_limit) = (
      rw (c.certificate_head_length.ensures, c.partner_length.ensures, c.subproblem_length.ensures) (length_parts c.args.recorded.now c.args.found.now c.vertex_count-n.ensures c.subproblem_count-all.ensures.0 c.width_of-width.ensures.0 c.square_sum-squares.ensures.0),
      length_low c.requires.sound c.requires.sound_2,
    ) in
    let h = whole in (h.0, rw h.0 h.1)
