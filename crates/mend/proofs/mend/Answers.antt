-- `mend::mend` takes the steps of a recovery. Assumes nothing.
use mathlib.Core.Path.{sym, subst}
use Prim.Native.Nat.{ℕ}
use lib.ListN.{length}
use Rattle.flash.proofs.Pages.{sized}
use Rattle.mend.specs.Marks.{PageAt}
use Rattle.scan.proofs.Laws.Told.{survey_clean, survey_damaged, survey_torn_segment, survey_pending, survey_torn_slot, survey_old_slot}
use Rattle.mend.proofs.Laws.Mend.{torn_page, older_page, mend_clean, mend_damaged, mend_a, mend_b, mend_c, mend_d}
use Rattle.mend.proofs.mend.Goals as goal

pub erase_torn-requires : goal.erase_torn-requires
erase_torn-requires c = sized c.args.geometry.segments c.args.geometry.slots c.args.image.now c.requires.0

pub erase_pending-requires : goal.erase_pending-requires
erase_pending-requires c = sized c.args.geometry.segments c.args.geometry.slots c.args.image.now c.requires.0

pub mark_slot-requires-in-OldSlot : goal.mark_slot-requires-in-OldSlot
mark_slot-requires-in-OldSlot c =
    let t = survey_old_slot c.args.geometry.segments c.args.geometry.slots c.args.image.now c.args.survey c.requires.1 _ c.in-OldSlot.is in
    subst (λ (x : ℕ). PageAt x (length c.args.image.now)) (sym t.1) (older_page c.args.geometry.segments c.args.geometry.slots c.args.image.now c.requires.0 t.0)

pub returns-in-Clean : goal.returns-in-Clean
returns-in-Clean c =
    mend_clean c.args.geometry.segments c.args.geometry.slots c.args.image.now c.requires.0 c.args.budget
    (survey_clean c.args.geometry.segments c.args.geometry.slots c.args.image.now c.args.survey c.requires.1 _ _ _ _ _ c.in-Clean.is) c.refused.ensures

pub returns-in-TornSegment : goal.returns-in-TornSegment
returns-in-TornSegment c =
    let t = survey_torn_segment c.args.geometry.segments c.args.geometry.slots c.args.image.now c.args.survey c.requires.1 _ c.in-TornSegment.is in
    mend_a c.args.geometry.segments c.args.geometry.slots c.args.image.now c.requires.0 c.args.budget _ t.1 t.0 c.erase_torn.ensures

pub returns-in-ErasePending : goal.returns-in-ErasePending
returns-in-ErasePending c =
    let t = survey_pending c.args.geometry.segments c.args.geometry.slots c.args.image.now c.args.survey c.requires.1 _ _ c.in-ErasePending.is in
    mend_b c.args.geometry.segments c.args.geometry.slots c.args.image.now c.requires.0 c.args.budget _ t.1 t.0 _ t.2 c.erase_pending.ensures

pub returns-in-TornSlot : goal.returns-in-TornSlot
returns-in-TornSlot c =
    let t = survey_torn_slot c.args.geometry.segments c.args.geometry.slots c.args.image.now c.args.survey c.requires.1 _ c.in-TornSlot.is in
    mend_c c.args.geometry.segments c.args.geometry.slots c.args.image.now c.requires.0 c.args.budget _ t.0 t.1 c.mark_slot.ensures

pub returns-in-OldSlot : goal.returns-in-OldSlot
returns-in-OldSlot c =
    let t = survey_old_slot c.args.geometry.segments c.args.geometry.slots c.args.image.now c.args.survey c.requires.1 _ c.in-OldSlot.is in
    mend_d c.args.geometry.segments c.args.geometry.slots c.args.image.now c.requires.0 c.args.budget _ t.0 t.1 c.mark_slot-in-OldSlot.ensures

pub returns-in-Damaged : goal.returns-in-Damaged
returns-in-Damaged c =
    mend_damaged c.args.geometry.segments c.args.geometry.slots c.args.image.now c.requires.0 c.args.budget
    (survey_damaged c.args.geometry.segments c.args.geometry.slots c.args.image.now c.args.survey c.requires.1 c.in-Damaged.is) c.refused-in-Damaged.ensures

pub mark_slot-requires : goal.mark_slot-requires
mark_slot-requires c =
    let t = survey_torn_slot c.args.geometry.segments c.args.geometry.slots c.args.image.now c.args.survey c.requires.1 _ c.in-TornSlot.is in
    subst (λ (x : ℕ). PageAt x (length c.args.image.now)) (sym t.1) (torn_page c.args.geometry.segments c.args.geometry.slots c.args.image.now c.requires.0 t.0)
