-- `scan::survey_slots` is the survey of an image whose slots decide. Assumes nothing.
use Prim.Native.Nat.{ℕ, ◌+◌, ◌*◌}
use mathlib.Core.Path.{ap₂, ◌∙◌}
use native.Mathlib.Omega.{arith}
use Rattle.model.specs.Steps.{slot_at}
use Rattle.judge.specs.Verdict.{orderly, torn_within, twin_within}
use Rattle.scan.proofs.Laws.Surveys.{tested, clean_small, slots_orderly, slots_torn_last, twin_small, twin_chain, slots_twin_last, slots_bad}
use Rattle.scan.proofs.survey_slots.Goals as goal

pub clean_survey-requires : goal.clean_survey-requires
clean_survey-requires c =
    clean_small c.args.geometry.segments c.args.geometry.slots c.args.image.now c.args.seen c.args.exam c.requires.0 c.requires.1 c.requires.2 (tested orderly c.args.exam.sum c.capacity-most.ensures.0 c.orderly.ensures ∙ c.if-orderly.true)

pub returns-then-orderly : goal.returns-then-orderly
returns-then-orderly c =
    c.clean_survey.ensures ∙ slots_orderly c.args.geometry.segments c.args.geometry.slots c.args.image.now c.args.seen c.args.exam c.requires.0 c.requires.1 c.requires.2 (tested orderly c.args.exam.sum c.capacity-most.ensures.0 c.orderly.ensures ∙ c.if-orderly.true)

pub slot_place-place-requires : goal.slot_place-place-requires
slot_place-place-requires c =
    let w = c.requires.0 in
    (w.size.some, w.size.segments, w.size.slots, omega (arith, c.saturating_sub.ensures, w.bounded.written))

pub returns-then-torn_within : goal.returns-then-torn_within
returns-then-torn_within c =
    slots_torn_last c.args.geometry.segments c.args.geometry.slots c.args.image.now c.args.seen c.args.exam c.requires.0 c.requires.1 c.requires.2 c.slot_place-place.result (tested orderly c.args.exam.sum c.capacity-most.ensures.0 c.orderly.ensures ∙ c.if-orderly.false) (tested torn_within c.args.exam.sum c.capacity-most.ensures.0 c.torn_within.ensures ∙ c.if-torn_within.true)
    (c.slot_place-place.ensures ∙ ap₂ (λ (n j : ℕ). slot_at c.args.geometry.segments c.args.geometry.slots n j * 256) c.saturating_sub-number.ensures c.saturating_sub.ensures)

pub overflow_add-most : goal.overflow_add-most
overflow_add-most c = omega (arith, c.capacity-most.ensures.1)

pub old_slot-requires : goal.old_slot-requires
old_slot-requires c =
    let t = (tested (λ y. twin_within (y + 1)) c.args.exam.sum c.capacity-most.ensures.0 c.twin_within.ensures ∙ c.if-twin_within.true) in
    (c.requires.0.size, twin_small c.args.geometry.segments c.args.geometry.slots c.args.image.now c.args.seen c.args.exam c.requires.0 c.requires.1 c.requires.2 t, twin_chain c.args.geometry.segments c.args.geometry.slots c.args.image.now c.args.seen c.args.exam c.requires.0 c.requires.1 c.requires.2 t, c.requires.0.bounded.whole)

pub returns-then-twin_within : goal.returns-then-twin_within
returns-then-twin_within c =
    c.old_slot.ensures ∙ slots_twin_last c.args.geometry.segments c.args.geometry.slots c.args.image.now c.args.seen c.args.exam c.requires.0 c.requires.1 c.requires.2 (tested orderly c.args.exam.sum c.capacity-most.ensures.0 c.orderly.ensures ∙ c.if-orderly.false) (tested torn_within c.args.exam.sum c.capacity-most.ensures.0 c.torn_within.ensures ∙ c.if-torn_within.false) (tested (λ y. twin_within (y + 1)) c.args.exam.sum c.capacity-most.ensures.0 c.twin_within.ensures ∙ c.if-twin_within.true)

pub returns : goal.returns
returns c =
    slots_bad c.args.geometry.segments c.args.geometry.slots c.args.image.now c.args.seen c.args.exam c.requires.0 c.requires.1 c.requires.2 (tested orderly c.args.exam.sum c.capacity-most.ensures.0 c.orderly.ensures ∙ c.if-orderly.false) (tested torn_within c.args.exam.sum c.capacity-most.ensures.0 c.torn_within.ensures ∙ c.if-torn_within.false) (tested (λ y. twin_within (y + 1)) c.args.exam.sum c.capacity-most.ensures.0 c.twin_within.ensures ∙ c.if-twin_within.false)
