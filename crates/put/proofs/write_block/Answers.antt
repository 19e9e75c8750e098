-- `put::write_block` takes the last steps of a put, on any image. Assumes nothing.
use native.Mathlib.Omega.{arith}
use Rattle.flash.proofs.Laws.{ran_length, ran_left}
use Rattle.put.proofs.Laws.LastSteps.{place_inside, old_inside, wrote_new, wrote_old}
use Rattle.put.proofs.write_block.Goals as goal

pub free_place-place-requires : goal.free_place-place-requires
free_place-place-requires c =
    let k = c.requires in
    (k.sized.some, k.sized.segments, k.sized.slots, k.room, k.some, k.few)

pub write_slot-written-requires : goal.write_slot-written-requires
write_slot-written-requires c =
    let a = c.args in
    (place_inside a.geometry.segments a.geometry.slots a.room a.old a.block.0 a.contents.now a.budget a.image.now c.requires _ c.free_place-place.ensures, c.requires.short)

pub finished-requires : goal.finished-requires
finished-requires c =
    let a = c.args in
    omega (arith, c.requires.left, ran_left (c.write_slot-written.ensures a.geometry.slots))

pub finished-requires-2 : goal.finished-requires-2
finished-requires-2 c =
    let a = c.args in
    omega (
      arith,
      c.requires.left,
      ran_left (c.write_slot-written.ensures a.geometry.slots),
      ran_left (c.mark_dead-left.ensures a.geometry.slots),
    )

pub returns-in_default : goal.returns-in_default
returns-in_default c =
    let a = c.args in
    wrote_new a.geometry.segments a.geometry.slots a.room a.old a.block.0 a.contents.now a.budget a.image.now c.requires _ _ c.free_place-place.ensures c.write_slot-written.ensures c.in_default.is c.finished.ensures

pub mark_dead-left-requires : goal.mark_dead-left-requires
mark_dead-left-requires c =
    let a = c.args in
    omega (
      arith,
      old_inside a.geometry.segments a.geometry.slots a.room a.old a.block.0 a.contents.now a.budget a.image.now c.requires _ c.in-Some.is,
      ran_length (c.write_slot-written.ensures a.geometry.slots),
    )

pub returns : goal.returns
returns c =
    let a = c.args in
    wrote_old a.geometry.segments a.geometry.slots a.room a.old a.block.0 a.contents.now a.budget a.image.now c.requires _ _ c.free_place-place.ensures c.write_slot-written.ensures _ c.in-Some.is _
    c.mark_dead-left.ensures c.finished-2.ensures
