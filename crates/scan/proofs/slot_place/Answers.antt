-- `scan::slot_place` is the place of the definition. Assumes nothing.
use Prim.Native.Nat.{◌+◌, ◌*◌, ◌%◌, ◌≤◌}
use native.Mathlib.Omega.{arith}
use native.Mathlib.Nat.{mod-lt, mul-le-mul_right}
use Rattle.model.specs.Chip.{most_segments}
use Rattle.model.specs.Steps.{slot_at}
use Rattle.scan.proofs.slot_place.Goals as goal

pub overflow_mul-result : goal.overflow_mul-result
overflow_mul-result c =
    let m = mod-lt c.args.number c.requires.0 in
    let a : c.args.number % c.args.geometry.segments * (c.args.geometry.slots + 1) ≤ most_segments * (c.args.geometry.slots + 1) = mul-le-mul_right (c.args.geometry.slots + 1) (omega (arith, c.requires.1)) in
    omega (arith, c.requires.2, c.requires.3)

pub overflow_add-result-2 : goal.overflow_add-result-2
overflow_add-result-2 c =
    let m = mod-lt c.args.number c.requires.0 in
    let a : c.args.number % c.args.geometry.segments * (c.args.geometry.slots + 1) ≤ most_segments * (c.args.geometry.slots + 1) = mul-le-mul_right (c.args.geometry.slots + 1) (omega (arith, c.requires.1)) in
    omega (arith, c.requires.2, c.requires.3)

pub overflow_add-result-3 : goal.overflow_add-result-3
overflow_add-result-3 c =
    let m = mod-lt c.args.number c.requires.0 in
    let a : c.args.number % c.args.geometry.segments * (c.args.geometry.slots + 1) ≤ most_segments * (c.args.geometry.slots + 1) = mul-le-mul_right (c.args.geometry.slots + 1) (omega (arith, c.requires.1)) in
    omega (arith, c.requires.2, c.requires.3)

pub overflow_mul-result-2 : goal.overflow_mul-result-2
overflow_mul-result-2 c =
    let m = mod-lt c.args.number c.requires.0 in
    let a : c.args.number % c.args.geometry.segments * (c.args.geometry.slots + 1) ≤ most_segments * (c.args.geometry.slots + 1) = mul-le-mul_right (c.args.geometry.slots + 1) (omega (arith, c.requires.1)) in
    omega (arith, c.requires.2, c.requires.3)

pub returns : goal.returns
unfolding slot_at
returns c = omega arith
