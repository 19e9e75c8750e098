-- `prognosis::foretell`: by the state that the survey says. Assumes nothing.
use native.Mathlib.Omega.{arith}
use Rattle.flash.proofs.Pages.{sized}
use Rattle.scan.proofs.Laws.Told.{survey_clean, survey_damaged, survey_torn_segment, survey_pending, survey_torn_slot, survey_old_slot}
use Rattle.prognosis.proofs.Laws.{foretold_clean, foretold_a, foretold_b, foretold_c, foretold_d, foretold_damaged}
use Rattle.prognosis.proofs.foretell.Goals as goal

pub erase_steps-requires : goal.erase_steps-requires
erase_steps-requires c = sized _ _ _ c.requires.0

pub settle_steps-requires : goal.settle_steps-requires
settle_steps-requires c = sized _ _ _ c.requires.0

pub overflow_cast-place : goal.overflow_cast-place
overflow_cast-place c = omega (arith, c.first_failing-place.ensures.1)

pub returns-in-Clean : goal.returns-in-Clean
returns-in-Clean c =
    let a = c.args in
    (foretold_clean a.geometry.segments a.geometry.slots a.image.now c.requires.0 (survey_clean a.geometry.segments a.geometry.slots a.image.now a.survey c.requires.1 _ _ _ _ _ c.in-Clean.is), omega arith)

pub returns-in-TornSegment : goal.returns-in-TornSegment
returns-in-TornSegment c =
    let a = c.args in
    let t = survey_torn_segment a.geometry.segments a.geometry.slots a.image.now a.survey c.requires.1 _ c.in-TornSegment.is in
    (foretold_a a.geometry.segments a.geometry.slots a.image.now c.requires.0 _ _ t.1 t.0 c.erase_steps.ensures.0, omega (arith, c.erase_steps.ensures.1))

pub returns-in-ErasePending : goal.returns-in-ErasePending
returns-in-ErasePending c =
    let a = c.args in
    let t = survey_pending a.geometry.segments a.geometry.slots a.image.now a.survey c.requires.1 _ _ c.in-ErasePending.is in
    (foretold_b a.geometry.segments a.geometry.slots a.image.now c.requires.0 _ _ t.1 t.0 _ t.2 c.settle_steps.ensures.0, c.settle_steps.ensures.1)

pub returns-in-TornSlot : goal.returns-in-TornSlot
returns-in-TornSlot c =
    let a = c.args in
    (foretold_c a.geometry.segments a.geometry.slots a.image.now c.requires.0 (survey_torn_slot a.geometry.segments a.geometry.slots a.image.now a.survey c.requires.1 _ c.in-TornSlot.is).0, omega arith)

pub returns-in-OldSlot : goal.returns-in-OldSlot
returns-in-OldSlot c =
    let a = c.args in
    (foretold_d a.geometry.segments a.geometry.slots a.image.now c.requires.0 (survey_old_slot a.geometry.segments a.geometry.slots a.image.now a.survey c.requires.1 _ c.in-OldSlot.is).0, omega arith)

pub returns-in-Damaged : goal.returns-in-Damaged
returns-in-Damaged c =
    let a = c.args in
    (foretold_damaged a.geometry.segments a.geometry.slots a.image.now c.requires.0 _ (survey_damaged a.geometry.segments a.geometry.slots a.image.now a.survey c.requires.1 c.in-Damaged.is) c.first_failing-place.ensures.0, c.first_failing-place.ensures.1)
