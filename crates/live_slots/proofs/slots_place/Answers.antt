-- `live_slots::slots_place` is the offset of the page of the definition. Assumes nothing.
use Prim.Native.Nat.{◌+◌}
use native.Mathlib.Nat.{mul-le-mul_right}
use native.Mathlib.Omega.{arith}
use Rattle.live_slots.proofs.slots_place.Goals as goal

pub overflow_mul-result : goal.overflow_mul-result
overflow_mul-result c =
    record { fits = omega (arith, mul-le-mul_right (c.args.slots + 1) c.requires.0) }

pub overflow_add-result-2 : goal.overflow_add-result-2
overflow_add-result-2 c =
    record { fits = omega (arith, mul-le-mul_right (c.args.slots + 1) c.requires.0) }

pub overflow_mul-result-2 : goal.overflow_mul-result-2
overflow_mul-result-2 c =
    record { fits = omega (arith, mul-le-mul_right (c.args.slots + 1) c.requires.0) }
