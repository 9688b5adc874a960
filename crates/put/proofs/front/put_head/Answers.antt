-- `put_head` stores the parts of the head. Assumes nothing.
use Rattle.std.proofs.Common.{length-set, arith}
use mir.Facts.{to_z-of_z}
use Rattle.put.specs.Puts.{number_put}
use Rattle.put.specs.Front.{byte_put, head_put}
use Rattle.put.proofs.front.put_head.Goals as goal

pub returns : goal.returns
returns c =
    let e = c.put_mark.ensures.kept.size in
    head_put c.put_mark.ensures (byte_put _ _ _ (omega arith)) (byte_put _ _ _ (simp length-set (omega arith)))
    (number_put (simp length-set (omega arith)) c.ranges.w (to_z-of_z c.ranges.w) c.encode.ensures)
