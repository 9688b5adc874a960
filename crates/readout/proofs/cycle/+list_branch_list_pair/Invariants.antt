-- `list_pair` and `list_branch` end: the remaining depth falls. The loop's invariant: the first i branch pairs are read out.
-- Assumes nothing.
use Rattle.std.proofs.Common.{◌≤◌, ◌≡◌, ℕ, ◌+◌, ◌*◌, List, set}
use Rattle.model.specs.Limits.{degree_limit}
use Rattle.readout.specs.Read.{Room, Reading}
use Rattle.readout.proofs.cycle.+list_branch_list_pair.Given as goal

abbrev pub decreases-list_branch : goal.decreases-list_branch
decreases-list_branch l = 2 * l.depth + 1

abbrev pub decreases-list_pair : goal.decreases-list_pair
decreases-list_pair l = 2 * l.depth

abbrev pub invariant-list_pair-loop-i : goal.invariant-list_pair-loop-i
invariant-list_pair-loop-i l =
    (l.i ≤ l.n) × (l.n ≤ degree_limit) × ((p : List ℕ) → l.initial.mapping ≡ set p l.at.u l.at.v → Room l.on.recorded.now l.at.u l.depth p → Reading l.on.table.now l.on.recorded.now l.on.found.now l.work l.at.u l.at.v l.mates p l.i l.mapping)
