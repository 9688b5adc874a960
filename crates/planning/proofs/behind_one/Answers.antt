-- `behind_one` meets its contract. Assumes nothing.
use native.Mathlib.Omega.{arith}
use Prim.Native.Nat.{◌≤◌}
use mathlib.Core.Path.{refl}
use Rattle.model.specs.Limits.{degree_limit}
use Rattle.planning.proofs.behind_one.Goals as goal

pub overflow_add-result : goal.overflow_add-result
overflow_add-result c = omega (arith, c.requires c.args.x)

pub overflow_add-result-then-x-lt-VERTICES : goal.overflow_add-result-then-x-lt-VERTICES
overflow_add-result-then-x-lt-VERTICES c =
    let f : c.find-i.result ≤ degree_limit = c.find-i.ensures.few in
    omega (arith, c.requires c.args.x)

pub returns-then-x-lt-VERTICES : goal.returns-then-x-lt-VERTICES
returns-then-x-lt-VERTICES c =
    let f : c.find-i.result ≤ degree_limit = c.find-i.ensures.few in
    record { at = c.find-i.result; found = λ l. c.find-i.ensures; is = λ l. refl; small = omega (arith, c.requires c.args.x) }

pub returns-else-x-lt-VERTICES : goal.returns-else-x-lt-VERTICES
returns-else-x-lt-VERTICES c = record { at = 0; found = λ l. absurd (omega (arith, l)); is = λ l. absurd (omega (arith, l)); small = omega arith }
