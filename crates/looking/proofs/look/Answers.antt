-- `looking::look` finds what the definition says, or gives the code of a read's refusal. Assumes nothing.
use mathlib.Core.Path.{sym, ap, ◌∙◌}
use Rattle.bridge.specs.Refusals.{answer_in}
use Rattle.request.proofs.Laws.{wrong_size, right_size_lem}
use Rattle.scan.proofs.Laws.Told.{survey_says}
use Rattle.looking.proofs.Laws.Survey.{survey_other, survey_plan}
use Rattle.looking.proofs.Laws.Look.{look_size, look_number, look_unclean}
use Rattle.looking.proofs.look.Goals as goal

pub returns-then-not-right_size : goal.returns-then-not-right_size
returns-then-not-right_size c =
    let a = c.args in
    look_size a.segments a.slots a.image.now a.block.0 (wrong_size a.segments a.slots a.image.now _ c.right_size.ensures c.if-not-right_size.true)

pub returns-then-not-number_ok : goal.returns-then-not-number_ok
returns-then-not-number_ok c =
    let a = c.args in
    look_number a.segments a.slots a.image.now a.block.0 (right_size_lem a.segments a.slots a.image.now _ c.right_size.ensures c.if-not-right_size.false)
    (sym c.number_ok.ensures ∙ c.if-not-number_ok.true)

pub survey-surveyed-requires : goal.survey-surveyed-requires
survey-surveyed-requires c =
    let a = c.args in
    right_size_lem a.segments a.slots a.image.now _ c.right_size.ensures c.if-not-right_size.false

pub returns-in_default : goal.returns-in_default
returns-in_default c =
    let a = c.args in
    let r = c.survey-surveyed in
    look_unclean a.segments a.slots a.image.now a.block.0 (right_size_lem a.segments a.slots a.image.now _ c.right_size.ensures c.if-not-right_size.false)
    (sym c.number_ok.ensures ∙ c.if-not-number_ok.false) _
    (survey_other a.segments a.slots a.image.now r.result r.ensures c.in_default.not-Clean)
    (c.state_answer.ensures ∙ ap answer_in (survey_says a.segments a.slots a.image.now r.result r.ensures))

pub look_clean-requires : goal.look_clean-requires
look_clean-requires c =
    let a = c.args in
    let r = c.survey-surveyed in (
      survey_plan a.segments a.slots a.image.now r.result r.ensures _ _ _ _ _ c.in-Clean.is (right_size_lem a.segments a.slots a.image.now _ c.right_size.ensures c.if-not-right_size.false),
      sym c.number_ok.ensures ∙ c.if-not-number_ok.false,
    )
