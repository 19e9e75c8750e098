-- `put::put_clean` is the put of the definition, on a clean image. Assumes nothing.
use Rattle.model.specs.Answers.{put}
use Rattle.request.proofs.Answered.{refused_outcome}
use Rattle.room.proofs.Laws.{find_fits, plannable}
use Rattle.put_answers.proofs.Laws.{ranged, top_seen}
use Rattle.put.proofs.Laws.Writing.{former_refuses, answer_refuses, answer_accepts}
use Rattle.put.proofs.put_clean.Goals as goal

pub top_number-requires : goal.top_number-requires
top_number-requires c =
    let a = c.args in
    let z = find_fits a.geometry.segments a.geometry.slots a.plan a.image.now c.requires.0.plan in
    let r = ranged a.geometry.segments a.geometry.slots a.plan a.image.now c.requires.0.plan.size (plannable a.geometry.segments a.geometry.slots a.plan a.image.now c.requires.0.plan c.requires.2) in
    (r.some, r.spare, z.1)

pub tally_in-tally-requires : goal.tally_in-tally-requires
tally_in-tally-requires c =
    let a = c.args in
    (find_fits a.geometry.segments a.geometry.slots a.plan a.image.now c.requires.0.plan).0

pub returns-then-tally : goal.returns-then-tally
returns-then-tally c =
    let a = c.args in
    let t = top_seen a.geometry.segments a.geometry.slots a.plan a.image.now c.requires.0.plan _ _ c.top_number.ensures c.tally_in-tally.ensures.0 in
    let r = former_refuses a.geometry.segments a.geometry.slots a.plan a.live a.block.0 a.contents.now a.image.now c.requires.0 _ t c.if-tally.true in
    refused_outcome a.geometry.segments a.geometry.slots a.image.now a.budget (put a.block.0 a.contents.now) _ _ r.0 r.1 c.refused.ensures

pub slot_before-found-requires : goal.slot_before-found-requires
slot_before-found-requires c =
    let a = c.args in
    let z = find_fits a.geometry.segments a.geometry.slots a.plan a.image.now c.requires.0.plan in
    (ranged a.geometry.segments a.geometry.slots a.plan a.image.now c.requires.0.plan.size (plannable a.geometry.segments a.geometry.slots a.plan a.image.now c.requires.0.plan c.requires.2), z.0, z.1)

pub put_answer-answer-requires : goal.put_answer-answer-requires
put_answer-answer-requires c =
    let a = c.args in
    let z = find_fits a.geometry.segments a.geometry.slots a.plan a.image.now c.requires.0.plan in
    (ranged a.geometry.segments a.geometry.slots a.plan a.image.now c.requires.0.plan.size (plannable a.geometry.segments a.geometry.slots a.plan a.image.now c.requires.0.plan c.requires.2), z.1, c.tally_in-tally.ensures.1)

pub returns-in_default : goal.returns-in_default
returns-in_default c =
    let a = c.args in
    let t = top_seen a.geometry.segments a.geometry.slots a.plan a.image.now c.requires.0.plan _ _ c.top_number.ensures c.tally_in-tally.ensures.0 in
    let r = answer_refuses a.geometry.segments a.geometry.slots a.plan a.live a.block.0 a.contents.now a.image.now c.requires.0 _ t c.requires.1 c.if-tally.false _ c.slot_before-found.ensures _ c.put_answer-answer.ensures c.in_default.not-Done in
    refused_outcome a.geometry.segments a.geometry.slots a.image.now a.budget (put a.block.0 a.contents.now) _ _ r.0 r.1 c.refused-in_default.ensures

pub put_accepted-requires : goal.put_accepted-requires
put_accepted-requires c =
    let a = c.args in
    let t = top_seen a.geometry.segments a.geometry.slots a.plan a.image.now c.requires.0.plan _ _ c.top_number.ensures c.tally_in-tally.ensures.0 in
    (answer_accepts a.geometry.segments a.geometry.slots a.plan a.live a.block.0 a.contents.now a.image.now c.requires.0 _ t c.requires.1 c.if-tally.false _ c.slot_before-found.ensures _ c.put_answer-answer.ensures c.in-Done.is, c.requires.2)
