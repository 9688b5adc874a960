-- `put_row` stores one dual after the other, each of which fits 32 bits. Assumes nothing.
use Rattle.std.proofs.Common.{get_or, arith, ◌≤◌}
use Rattle.std.proofs.lemmas.Int.{ints}
use Rattle.model.specs.Limits.{dual_limit}
use mir.Syntax.{w32}
use mir.Facts.{to_z_pos}
use Rattle.put.specs.Puts.{number_put, row_more}
use Rattle.put.proofs.put_row.Goals as goal

pub loop-i-preserved : goal.loop-i-preserved
loop-i-preserved c =
    let low : get_or c.args.duals.now c.loop-i.i 0 ≤ dual_limit = c.requires.fit.low c.loop-i.i c.loop-i-test.true in
    row_more c.loop-i.invariant (number_put (omega arith) (omega (arith, ints)) (to_z_pos w32 (omega arith)) c.encode.ensures)
