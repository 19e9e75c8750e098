-- `request::capacity` is the capacity of the definition. Assumes nothing.
use Prim.Native.Nat.{◌-◌, ◌≤◌}
use mathlib.Core.Path.{refl}
use native.Mathlib.Omega.{arith}
use native.Mathlib.Nat.{mul-le-mul_right, mul-le-mul_left}
use Rattle.model.specs.State.{capacity}
use Rattle.request.proofs.capacity.Goals as goal

pub overflow_mul-result : goal.overflow_mul-result
overflow_mul-result c =
    let n = c.args.segments - 1 in
    let a = mul-le-mul_left n c.requires.3 in
    omega (arith, c.requires.1)

pub overflow_sub-result-2 : goal.overflow_sub-result-2
overflow_sub-result-2 c =
    let h : 1 ≤ c.args.segments - 1 = omega (arith, c.requires.0) in
    omega (arith, c.requires.2, mul-le-mul_right c.args.slots h)

pub returns : goal.returns
unfolding capacity
returns c =
    let n = c.args.segments - 1 in
    let a = mul-le-mul_left n c.requires.3 in
    (refl, omega (arith, c.requires.1))
