-- `list_pair` and `list_branch` meet their contracts. Assumes nothing.
use Rattle.std.proofs.Common.{◌≡◌, ◌*◌, arith, refl}
use Rattle.plan.specs.Pairs.{pair_low}
use Rattle.solver.specs.Mates.{sub_pair}
use Rattle.readout.specs.CycleLaws.{branch_pairs, depth_some, branch_none, pair_start, pair_done, branch_room, branch_subproblem, branch_more}
use Rattle.readout.proofs.cycle.+list_branch_list_pair.Goals as goal

pub list_branch-returns-else-at-ne-NONE : goal.list_branch-returns-else-at-ne-NONE
list_branch-returns-else-at-ne-NONE t c = branch_none _ _ _ _ c.args.on.now.ready.passes c.requires.room c.if-at-ne-NONE.false

pub list_pair-child_count-n-requires : goal.list_pair-child_count-n-requires
list_pair-child_count-n-requires t c = (pair_low c.args.on.now.ready (sub_pair c.requires.subproblem)).0

pub list_pair-loop-i-init : goal.list_pair-loop-i-init
list_pair-loop-i-init t c =
    let N = c.args.on.now.ready in
    let B = branch_pairs N c.requires.subproblem.u_low c.child_count-n.ensures c.choice-mates.ensures in
    (omega arith, B.few, λ p e R. pair_start _ _ _ _ N.passes e R)

pub list_pair-child-requires : goal.list_pair-child-requires
list_pair-child-requires t c =
    let N = c.args.on.now.ready in
    let B = branch_pairs N c.requires.subproblem.u_low c.child_count-n.ensures c.choice-mates.ensures in
    ((pair_low N (sub_pair c.requires.subproblem)).0, let few = c.loop-i.invariant.1 in let i = c.loop-i-test.true in omega arith)

pub list_pair-overflow_sub-depth : goal.list_pair-overflow_sub-depth
list_pair-overflow_sub-depth t c = omega (arith, depth_some _ _ _ c.args.work.now c.args.on.now.ready.passes c.requires.room)

pub list_pair-list_branch-requires : goal.list_pair-list_branch-requires
list_pair-list_branch-requires t c =
    let N = c.args.on.now.ready in
    let R = c.requires.room in
    let B = branch_pairs N c.requires.subproblem.u_low c.child_count-n.ensures c.choice-mates.ensures in
    let V = c.loop-i.invariant in
    let S = V.2 c.args.mapping.now refl R in
    let i = c.loop-i-test.true in
    let h = depth_some _ _ _ c.args.work.now N.passes R in
    let m : 2 * c.args.depth ≡ t = c.decreases in (
      omega arith,
      (
        c.requires.lent,
        rw c.child.ensures (branch_subproblem _ _ _ _ N.passes R B S i, branch_room _ _ _ _ N.passes R B S i),
      ),
    )

pub list_pair-loop-i-preserved : goal.list_pair-loop-i-preserved
list_pair-loop-i-preserved t c =
    let N = c.args.on.now.ready in
    let B = branch_pairs N c.requires.subproblem.u_low c.child_count-n.ensures c.choice-mates.ensures in
    let V = c.loop-i.invariant in
    (omega arith, V.1, λ p e R. branch_more _ _ _ _ N.passes R B (V.2 p e R) c.loop-i-test.true (rw c.child.ensures at c.list_branch.ensures))

pub list_pair-returns : goal.list_pair-returns
list_pair-returns t c =
    let N = c.args.on.now.ready in
    let R = c.requires.room in
    let B = branch_pairs N c.requires.subproblem.u_low c.child_count-n.ensures c.choice-mates.ensures in
    let V = c.loop-i.invariant in
    pair_done _ _ _ _ N.passes R B (V.2 c.args.mapping.now refl R) (omega arith) c.requires.subproblem
