-- `adding::add` writes the slot of a page after the steps that found an empty one. Assumes nothing.
use Prim.Native.Nat.{◌-◌}
use native.Mathlib.Omega.{arith}
use Rattle.adding.proofs.Laws.{page_fits, slot_inside, slot_place_lem, opened_length, page_added}
use Rattle.adding.proofs.add.Goals as goal

pub overflow_add-place : goal.overflow_add-place
overflow_add-place c =
    let q = c.next_slot-at.result in
    record {
      fits = omega (
        arith,
        slot_place_lem c.args.geometry.segments c.args.geometry.slots q.top.0 (c.args.geometry.slots - q.free) _ c.first_slot-first.ensures,
        slot_inside c.args.geometry.segments c.args.geometry.slots q.top.0 (c.args.geometry.slots - q.free) _ c.requires.0.sized (omega (arith, c.next_slot-at.ensures.some, c.next_slot-at.ensures.came.free)),
      );
    }

pub bounds-page-1 : goal.bounds-page-1
bounds-page-1 c =
    omega (arith, (page_fits c.args.page.now c.requires.1).0)

pub write_page-left-requires : goal.write_page-left-requires
write_page-left-requires c =
    let q = c.next_slot-at.result in
    let fit = page_fits c.args.page.now c.requires.1 in (
      omega (
        arith,
        opened_length _ _ _ _ _ _ c.next_slot-at.ensures,
        slot_place_lem c.args.geometry.segments c.args.geometry.slots q.top.0 (c.args.geometry.slots - q.free) _ c.first_slot-first.ensures,
        slot_inside c.args.geometry.segments c.args.geometry.slots q.top.0 (c.args.geometry.slots - q.free) _ c.requires.0.sized (omega (arith, c.next_slot-at.ensures.some, c.next_slot-at.ensures.came.free)),
      ),
      fit.0,
      omega (arith, c.from-length.ensures, fit.1),
    )

pub returns : goal.returns
returns c =
    let q = c.next_slot-at.result in
    page_added c.args.geometry.segments c.args.geometry.slots c.args.from q _ _ c.next_slot-at.ensures c.args.page.now c.requires.1 c.from-length.result _ c.from-length.ensures
    (slot_place_lem c.args.geometry.segments c.args.geometry.slots q.top.0 (c.args.geometry.slots - q.free) _ c.first_slot-first.ensures) c.write_page-left.ensures
