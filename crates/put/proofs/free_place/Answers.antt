-- `put::free_place` is the offset of the definition. Assumes nothing.
use Prim.Native.Nat.{◌+◌, ◌-◌}
use native.Mathlib.Omega.{arith}
use Rattle.model.specs.Steps.{slot_at}
use Rattle.flash.proofs.Pages.{header_small}
use Rattle.put.proofs.free_place.Goals as goal

pub overflow_mul-result : goal.overflow_mul-result
overflow_mul-result c = omega (arith, header_small (c.args.room.first.0 + c.args.room.used - 1) c.args.geometry.segments c.args.geometry.slots c.requires.0 c.requires.1 c.requires.2)

pub overflow_add-result-2 : goal.overflow_add-result-2
overflow_add-result-2 c = omega (arith, header_small (c.args.room.first.0 + c.args.room.used - 1) c.args.geometry.segments c.args.geometry.slots c.requires.0 c.requires.1 c.requires.2)

pub overflow_add-result-3 : goal.overflow_add-result-3
overflow_add-result-3 c = omega (arith, header_small (c.args.room.first.0 + c.args.room.used - 1) c.args.geometry.segments c.args.geometry.slots c.requires.0 c.requires.1 c.requires.2)

pub overflow_mul-result-2 : goal.overflow_mul-result-2
overflow_mul-result-2 c = omega (arith, header_small (c.args.room.first.0 + c.args.room.used - 1) c.args.geometry.segments c.args.geometry.slots c.requires.0 c.requires.1 c.requires.2)

pub returns : goal.returns
unfolding slot_at
returns c = omega arith
