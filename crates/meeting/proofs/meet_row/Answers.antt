-- `meeting::meet_row`. The invariant: the slots behind those that are left were met. Assumes nothing.
use Prim.Native.Nat.{◌+◌, ◌-◌, ◌*◌, ◌≤◌}
use mathlib.Core.Path.{◌≡◌, sym, ◌∙◌, subst}
use native.Mathlib.Omega.{arith}
use lib.ListN.{length, take, drop}
use Rattle.model.specs.Slot.{slot_of, kind_of}
use Rattle.meeting.specs.declared.Sheet.{Sheet}
use Rattle.meeting.specs.Sheet.{Within, kind_within}
use Rattle.meeting.proofs.Laws.{row_none, row_more}
use Rattle.meeting.proofs.meet_row.Goals as goal

pub loop-slot-init : goal.loop-slot-init
loop-slot-init c =
    let a = c.args in
    let e : a.slots - a.slots ≡ 0 = omega arith in
    (rw e (sym (row_none a.image.now ((a.header + a.slots + 1) * 256) a.sheet.now (a.header + a.slots + 1))), c.requires.2)

pub loop-slot-preserved : goal.loop-slot-preserved
loop-slot-preserved c =
    let l = c.loop-slot in
    let a = c.args in
    let m = c.meet_slot.ensures in
    let page = a.header + 1 + (l.slot - 1) in
    let e : page ≡ a.header + l.slot = omega (arith, c.loop-slot-test.true) in
    let few : l.slot ≤ a.slots = omega (arith, l.auto.slot) in (
      m ∙ row_more a.image.now a.header l.slot a.slots page l.sheet a.sheet.now e c.loop-slot-test.true few l.invariant.0,
      subst (λ (x : Sheet). Within x.places (length a.image.now)) (sym m) (kind_within a.image.now page (kind_of (slot_of (take 256 (drop (page * 256) a.image.now)))) l.sheet (length a.image.now) (omega (arith, c.requires, few, e)) l.invariant.1),
    )
