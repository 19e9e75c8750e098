-- `copying::copy_live` writes the live slots of the old segment to the new one. The invariant: whatever finishes the rest of the copying finishes the whole, and
-- the old segment's pages are as they were. Assumes nothing.
use Prim.Native.Nat.{◌+◌, ◌*◌}
use mathlib.Core.Path.{refl, sym, ap, ◌∙◌}
use native.Mathlib.Omega.{arith}
use Rattle.model.specs.Chip.{Page}
use Rattle.model.specs.Slot.{slot_of, kind_of}
use Rattle.live_slots.proofs.Laws.{copying_start, copying_skip, copying_unwritten, copying_turn, copying_end, live_page, slots_inside}
use borrow.Author.Rules.{rules}
use Rattle.copying.proofs.copy_live.Goals as goal

pub overflow_add-end : goal.overflow_add-end
overflow_add-end c =
    let a = c.args in
    record { fits = omega (arith, slots_inside a.geometry.segments a.geometry.slots c.index_of-target.result c.index_of-target.ensures.1) }

pub loop-slot-init : goal.loop-slot-init
loop-slot-init c =
    copying_start c.args.geometry.segments c.args.geometry.slots _ _ c.args.old.0 c.args.number.0 c.args.budget c.args.image.now c.requires.0
    c.index_of-source.ensures.0 c.index_of-target.ensures.0 c.requires.1

pub loop-slot-preserved-then-image-at-ne-WRITTEN : goal.loop-slot-preserved-then-image-at-ne-WRITTEN
loop-slot-preserved-then-image-at-ne-WRITTEN c =
    copying_unwritten _ _ _ _ _ _ _ _ _ _ (c.slots_place-from.result + c.loop-slot.slot * 256) c.loop-slot.invariant c.loop-slot-test.true
    _ (omega (arith, c.slots_place-from.ensures)) refl c.if-image-at-ne-WRITTEN.true

pub returns : goal.returns
returns c =
    let a = c.args in
    copying_end a.geometry.segments a.geometry.slots _ _ a.old.0 a.number.0 a.budget c.loop-slot.invariant c.loop-slot-test.false c.index_of-source.ensures.0 c.index_of-target.ensures.0

pub loop-slot-preserved-in_default : goal.loop-slot-preserved-in_default
loop-slot-preserved-in_default c =
    copying_skip _ _ _ _ _ _ _ _ _ _ (c.slots_place-from.result + c.loop-slot.slot * 256) c.loop-slot.invariant c.loop-slot-test.true
    _ (omega (arith, c.slots_place-from.ensures)) refl c.slot_kind.result c.slot_kind.ensures c.in_default.not-Live

pub write_page-left-requires : goal.write_page-left-requires
write_page-left-requires c =
    let v = live_page _ c.in-Live.length c.in-Live.block c.slot_kind.ensures c.in-Live.is in
    (search rules, search rules, omega (arith, v.short))

pub loop-slot-preserved : goal.loop-slot-preserved
loop-slot-preserved c =
    copying_turn _ _ _ _ _ _ _ _ _ _ (c.slots_place-from.result + c.loop-slot.slot * 256) c.loop-slot.invariant c.loop-slot-test.true
    c.page_of-page.result (omega (arith, c.slots_place-from.ensures)) c.page_of-page.ensures c.slot_kind.result c.in-Live.length c.in-Live.block _ _ _
    (c.slot_kind.ensures ∙ ap (λ (p : Page). kind_of (slot_of p)) (sym c.page_of-page.ensures)) c.in-Live.is c.slots_place-start.ensures c.write_page-left.ensures
