-- `match_item` tests 1 to 13, 25 and 26, then the room for the mapping. Assumes nothing.
use mathlib.Core.Path.{sym}
use native.Mathlib.Omega.{arith}
use Rattle.model.proofs.Refusals.{sent_on}
use Rattle.trees.specs.Accepted.{whole}
use Rattle.formats.specs.Inputs.{input_accepted}
use Rattle.job_items.specs.Items.{start_passed}
use Rattle.one_call.specs.Items.{match_start, match_mapping, match_none}
use Rattle.one_call.proofs.match_item.Goals as goal

pub returns-in_err-start_item : goal.returns-in_err-start_item
returns-in_err-start_item c = sent_on _ _ c.from_residual.ensures.1 c.in_err-start_item.ensures (match_start _ _ _ _ _)

pub vertex_count-requires : goal.vertex_count-requires
vertex_count-requires c = whole (input_accepted _ _ _ (start_passed _ _ _ _ (sym c.in_ok-start_item.ensures)).0).recorded.ends

pub returns-then-mapping-vertex_count : goal.returns-then-mapping-vertex_count
returns-then-mapping-vertex_count c = let k = c.vertex_count.ensures in sym (match_mapping _ _ _ _ _ (sym c.in_ok-start_item.ensures) (omega arith))

pub returns : goal.returns
returns c = let k = c.vertex_count.ensures in sym (match_none _ _ _ _ _ (sym c.in_ok-start_item.ensures) (omega arith))
