-- `put_record` stores the parts of a record one after the other. Assumes nothing.
use Rattle.std.proofs.Common.{arith}
use mir.Facts.{to_z-of_z}
use Rattle.put.specs.Puts.{number_put, record_put}
use Rattle.put.proofs.put_record.Goals as goal

pub returns : goal.returns
returns c =
    record_put c.put_mark.ensures (number_put (omega (arith, c.put_mark.ensures.kept.size)) c.ranges.w (to_z-of_z c.ranges.w) c.encode.ensures) c.put_row.ensures c.put_row-2.ensures
