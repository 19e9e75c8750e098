-- `put::put_accepted` is the put of the definition, where nothing refuses it. Assumes nothing.
use Rattle.room.proofs.Laws.{plannable}
use Rattle.put.proofs.Laws.LastSteps.{ready_placed}
use Rattle.put.proofs.Laws.Put.{accepted_writable, put_spent, room_sized, room_number, found_still, room_ready, put_done}
use Rattle.put.proofs.put_accepted.Goals as goal

pub make_room-room-requires : goal.make_room-room-requires
make_room-room-requires c =
    let a = c.args in
    plannable a.geometry.segments a.geometry.slots a.plan a.image.now c.requires.0.put.plan c.requires.1

pub returns-then-room-eq0 : goal.returns-then-room-eq0
returns-then-room-eq0 c =
    let a = c.args in
    let d = c.make_room-room.ensures.exact (accepted_writable a.geometry.segments a.geometry.slots a.plan a.total a.found a.block.0 a.contents.now a.image.now c.requires.0 a.budget) in
    put_spent a.geometry.segments a.geometry.slots a.plan a.total a.found a.block.0 a.contents.now a.image.now c.requires.0 a.budget d c.if-room-eq0.true c.finished.ensures

pub old_slot-old-requires : goal.old_slot-old-requires
old_slot-old-requires c =
    let a = c.args in
    let d = c.make_room-room.ensures.exact (accepted_writable a.geometry.segments a.geometry.slots a.plan a.total a.found a.block.0 a.contents.now a.image.now c.requires.0 a.budget) in
    let l = c.if-room-eq0.false in (
      room_sized a.geometry.segments a.geometry.slots a.plan a.total a.found a.block.0 a.contents.now a.image.now c.requires.0 a.budget _ _ d l,
      room_number a.geometry.segments a.geometry.slots a.plan a.total a.found a.block.0 a.contents.now a.image.now c.requires.0 a.budget _ _ d l,
      found_still a.geometry.segments a.geometry.slots a.plan a.total a.found a.block.0 a.contents.now a.image.now c.requires.0 a.budget _ _ d l,
    )

pub write_block-requires : goal.write_block-requires
write_block-requires c =
    let a = c.args in
    let d = c.make_room-room.ensures.exact (accepted_writable a.geometry.segments a.geometry.slots a.plan a.total a.found a.block.0 a.contents.now a.image.now c.requires.0 a.budget) in
    ready_placed a.geometry.segments a.geometry.slots _ _ a.block.0 a.contents.now a.budget _
    (room_ready a.geometry.segments a.geometry.slots a.plan a.total a.found a.block.0 a.contents.now a.image.now c.requires.0 a.budget _ _ d c.if-room-eq0.false _ c.old_slot-old.ensures)

pub returns : goal.returns
returns c =
    let a = c.args in
    let d = c.make_room-room.ensures.exact (accepted_writable a.geometry.segments a.geometry.slots a.plan a.total a.found a.block.0 a.contents.now a.image.now c.requires.0 a.budget) in
    put_done a.geometry.segments a.geometry.slots a.plan a.total a.found a.block.0 a.contents.now a.image.now c.requires.0 a.budget _ _ d c.if-room-eq0.false _ c.old_slot-old.ensures c.write_block.ensures
