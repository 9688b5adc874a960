-- `product` meets its contract. Assumes nothing.
use Prim.Native.Nat.{ℕ, ◌*◌, ◌-◌, ◌≤◌}
use mathlib.Core.Path.{refl}
use native.Mathlib.Omega.{arith}
use native.Mathlib.Nat.{mul-le-mul}
use mir.Syntax.{w64}
use mir.Val.{Fits}
use Rattle.model.specs.Limits.{vertex_limit, width_limit}
use Rattle.plan.proofs.counts.product.Goals as goal

-- any factor up to 3m fits: that it is 3m - 2 is the result's matter
fits : (n x : ℕ) → n ≤ vertex_limit → x ≤ 3 * vertex_limit → Fits w64 (n * x)
fits n x a b = let l : n * x ≤ vertex_limit * (3 * vertex_limit) = mul-le-mul a b in omega arith

small : (n m : ℕ) → n ≤ vertex_limit → m ≤ vertex_limit → n * (3 * m - 2) ≤ vertex_limit * width_limit
small n m a b = mul-le-mul {n₁ = n} {m₁ = 3 * m - 2} {n₂ = vertex_limit} {m₂ = width_limit} a (omega arith)

pub overflow_mul-result-2 : goal.overflow_mul-result-2
overflow_mul-result-2 c =
    let p = c.requires in fits _ _ p.0 (omega arith)

pub returns : goal.returns
returns c =
    let p = c.requires in (refl, small c.args.n c.args.m p.0 p.2)
