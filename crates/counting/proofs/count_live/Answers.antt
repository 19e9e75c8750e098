-- `counting::count_live` counts the table's blocks. The invariant: the segments that are left, met by what there is, give the whole. Assumes nothing.
use Prim.Native.Nat.{◌+◌}
use mathlib.Core.Path.{refl}
use native.Mathlib.Omega.{arith}
use Rattle.places.proofs.Laws.Walk.{slots_within}
use Rattle.counting.proofs.Laws.Walk.{rounding_start, rounding_next, rounding_end}
use Rattle.counting.proofs.Laws.Rows.{image_fits, image_met}
use Rattle.counting.proofs.count_live.Goals as goal

pub loop-turn-init : goal.loop-turn-init
loop-turn-init c = rounding_start _ _ _ _ _ _ _ _ (omega arith) refl

pub overflow_cast-number : goal.overflow_cast-number
overflow_cast-number c = omega (arith, image_fits _ _ _ _ _ c.requires)

pub overflow_add-number : goal.overflow_add-number
overflow_add-number c = omega (arith, image_fits _ _ _ _ _ c.requires)

pub first_slot-from-requires : goal.first_slot-from-requires
first_slot-from-requires c =
    let z = (image_fits _ _ _ _ _ c.requires).0 in
    (z.some, z.segments, z.slots)

pub meet_slots-met-requires : goal.meet_slots-met-requires
meet_slots-met-requires c =
    let f = image_fits _ _ _ _ _ c.requires in (
      omega (arith, c.first_slot-from.ensures, slots_within c.args.geometry.segments c.args.geometry.slots (c.args.first.0 + c.loop-turn.turn) _ f.0),
      omega (arith, c.loop-turn.invariant.few, f.0.slots, f.2),
    )

pub loop-turn-preserved : goal.loop-turn-preserved
loop-turn-preserved c =
    let z = (image_fits _ _ _ _ _ c.requires).0 in
    rounding_next _ _ _ _ _ _ _ _ c.loop-turn.invariant _ _ c.loop-turn-test.true z.some z.slots c.first_slot-from.ensures c.meet_slots-met.ensures

pub returns : goal.returns
returns c =
    image_met _ _ _ _ _ c.requires _ _ (rounding_end _ _ _ _ _ _ _ _ c.loop-turn.invariant c.loop-turn-test.false)
