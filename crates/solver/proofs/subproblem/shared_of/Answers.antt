-- `shared_of` meets its contract. Assumes nothing.
use native.Mathlib.Omega.{arith}
use Rattle.plan.specs.Numbers.{ready_accepted, ready_sound}
use Rattle.solver.proofs.subproblem.shared_of.Goals as goal

pub child_count-requires : goal.child_count-requires
child_count-requires c = omega (arith, c.requires.u_bound, (ready_accepted c.args.on.now.ready).recorded.ends.few)

pub width_of-requires : goal.width_of-requires
width_of-requires c = ready_sound c.args.on.now.ready
