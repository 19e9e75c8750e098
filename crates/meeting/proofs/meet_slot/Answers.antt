-- `meeting::meet_slot`, by the status and the kind. Assumes nothing.
use mathlib.Core.Path.{◌∙◌}
use native.Mathlib.Omega.{arith}
use Rattle.meeting.proofs.Laws.{not_written, not_live, is_short, is_live}
use Rattle.meeting.proofs.meet_slot.Goals as goal

pub returns-then-image-at-ne-WRITTEN : goal.returns-then-image-at-ne-WRITTEN
returns-then-image-at-ne-WRITTEN c =
    let a = c.args in
    not_written a.image.now a.page a.sheet.now c.if-image-at-ne-WRITTEN.true

pub returns-in_default : goal.returns-in_default
returns-in_default c =
    let a = c.args in
    not_live a.image.now a.page a.sheet.now c.slot_kind-kind.result c.slot_kind-kind.ensures c.in_default.not-Live

pub meet-requires : goal.meet-requires
meet-requires c =
    let a = c.args in
    (c.requires.0, omega (arith, c.requires.1), is_short a.image.now a.page a.sheet.now c.slot_kind-kind.result c.slot_kind-kind.ensures _ _ c.in-Live.is, c.requires.2)

pub returns : goal.returns
returns c =
    let a = c.args in
    c.meet.ensures ∙ is_live a.image.now a.page a.sheet.now c.slot_kind-kind.result c.slot_kind-kind.ensures _ _ c.in-Live.is
