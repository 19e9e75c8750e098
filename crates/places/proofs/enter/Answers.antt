-- `places::enter` enters the segments of the definition. The invariant: those that are left, entered, give the whole. Assumes nothing.
use Prim.Native.Nat.{◌+◌}
use native.Mathlib.Omega.{arith}
use Rattle.places.proofs.Laws.Walk.{rounding_start, rounding_next, rounding_end, slots_within, few_bytes}
use Rattle.places.proofs.enter.Goals as goal

pub loop-turn-init : goal.loop-turn-init
loop-turn-init c = rounding_start _ _ _ _ _ _

pub enter_slots-requires : goal.enter_slots-requires
enter_slots-requires c =
    let z = c.requires.0 in (
      omega (arith, c.first_slot-from.ensures, slots_within c.args.geometry.segments c.args.geometry.slots (c.args.first.0 + c.loop-turn.turn) _ z),
      omega (arith, few_bytes _ _ _ z),
      omega (arith, c.requires.2, c.loop-turn.invariant.long),
    )

pub loop-turn-preserved : goal.loop-turn-preserved
loop-turn-preserved c =
    rounding_next _ _ _ _ _ _ _ _ c.loop-turn.invariant _ _ c.loop-turn-test.true c.requires.0.some c.first_slot-from.ensures c.enter_slots.ensures

pub shape_of-places : goal.shape_of-places
shape_of-places c = c.loop-turn.invariant.long

pub returns : goal.returns
returns c = rounding_end _ _ _ _ _ _ _ _ c.loop-turn.invariant c.loop-turn-test.false
