-- `store::count` counts as the definition does. Assumes nothing.
use mathlib.Core.Path.{ap, ◌∙◌}
use Rattle.bridge.specs.Refusals.{answer_in}
use Rattle.request.proofs.Laws.{wrong_size, right_size_lem}
use Rattle.scan.proofs.Laws.Told.{survey_says}
use Rattle.looking.proofs.Laws.Survey.{survey_other, survey_plan}
use Rattle.store.proofs.Laws.Counts.{count_size, count_unclean, count_clean}
use Rattle.store.proofs.count.Goals as goal

pub returns-then-not-right_size : goal.returns-then-not-right_size
returns-then-not-right_size c =
    let a = c.args in
    count_size a.segments a.slots a.image.now a.first.0 a.last.0 a.block.0
    (wrong_size a.segments a.slots a.image.now _ c.right_size.ensures c.if-not-right_size.true) c.uncounted.ensures

pub survey-surveyed-requires : goal.survey-surveyed-requires
survey-surveyed-requires c =
    let a = c.args in
    right_size_lem a.segments a.slots a.image.now _ c.right_size.ensures c.if-not-right_size.false

pub returns-in_default : goal.returns-in_default
returns-in_default c =
    let a = c.args in
    let r = c.survey-surveyed in
    count_unclean a.segments a.slots a.image.now a.first.0 a.last.0 a.block.0
    (right_size_lem a.segments a.slots a.image.now _ c.right_size.ensures c.if-not-right_size.false) _
    (survey_other a.segments a.slots a.image.now r.result r.ensures c.in_default.not-Clean)
    (c.state_answer.ensures ∙ ap answer_in (survey_says a.segments a.slots a.image.now r.result r.ensures)) c.uncounted-in_default.ensures

pub count_live-met-requires : goal.count_live-met-requires
count_live-met-requires c =
    let a = c.args in
    let z = right_size_lem a.segments a.slots a.image.now _ c.right_size.ensures c.if-not-right_size.false in
    let k = survey_plan a.segments a.slots a.image.now c.survey-surveyed.result c.survey-surveyed.ensures _ _ _ _ _ c.in-Clean.is z in
    record { size = z; fine = k.state; oldest = k.first; count = k.used }

pub returns : goal.returns
returns c =
    let a = c.args in
    let z = right_size_lem a.segments a.slots a.image.now _ c.right_size.ensures c.if-not-right_size.false in
    let k = survey_plan a.segments a.slots a.image.now c.survey-surveyed.result c.survey-surveyed.ensures _ _ _ _ _ c.in-Clean.is z in
    count_clean a.segments a.slots a.image.now a.first.0 a.last.0 a.block.0 z _ _ k.state c.count_live-met.ensures
