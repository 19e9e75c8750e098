-- `mounting::mount` gives the answer and the table of the definition. Assumes nothing.
use mathlib.Core.Path.{sym, ap, ◌∙◌}
use native.Mathlib.Omega.{arith}
use Rattle.model.specs.declared.Answer.TheVariants.{Done}
use Rattle.model.specs.Mounted.{mounted_as}
use Rattle.bridge.specs.Refusals.{answer_in}
use Rattle.request.proofs.Laws.{wrong_size, right_size_lem}
use Rattle.scan.proofs.Laws.Told.{survey_says}
use Rattle.looking.proofs.Laws.Survey.{survey_other, survey_plan}
use Rattle.model.specs.Answers.{code_of}
use Rattle.model.proofs.Laws.Mounted.{mount_size, mount_short, mount_clean}
use Rattle.mounting.proofs.Laws.{mount_unclean}
use Rattle.mounting.proofs.mount.Goals as goal

pub returns-then-not-right_size : goal.returns-then-not-right_size
unfolding mounted_as code_of
returns-then-not-right_size c =
    let a = c.args in
    sym (mount_size a.segments a.slots a.image.now a.places.now (wrong_size a.segments a.slots a.image.now _ c.right_size.ensures c.if-not-right_size.true))

pub returns-then-places-lt-LEAST_PLACES : goal.returns-then-places-lt-LEAST_PLACES
unfolding mounted_as code_of
returns-then-places-lt-LEAST_PLACES c =
    let a = c.args in
    sym (mount_short a.segments a.slots a.image.now a.places.now (right_size_lem a.segments a.slots a.image.now _ c.right_size.ensures c.if-not-right_size.false) c.if-places-lt-LEAST_PLACES.true)

pub survey-surveyed-requires : goal.survey-surveyed-requires
survey-surveyed-requires c =
    let a = c.args in
    right_size_lem a.segments a.slots a.image.now _ c.right_size.ensures c.if-not-right_size.false

pub returns-in_default : goal.returns-in_default
returns-in_default c =
    let a = c.args in
    let r = c.survey-surveyed in
    mount_unclean a.segments a.slots a.image.now a.places.now (right_size_lem a.segments a.slots a.image.now _ c.right_size.ensures c.if-not-right_size.false) (omega (arith, c.if-places-lt-LEAST_PLACES.false)) _
    (survey_other a.segments a.slots a.image.now r.result r.ensures c.in_default.not-Clean)
    (c.state_answer.ensures ∙ ap answer_in (survey_says a.segments a.slots a.image.now r.result r.ensures))

pub fill-requires : goal.fill-requires
fill-requires c =
    let a = c.args in
    let z = right_size_lem a.segments a.slots a.image.now _ c.right_size.ensures c.if-not-right_size.false in
    let k = survey_plan a.segments a.slots a.image.now c.survey-surveyed.result c.survey-surveyed.ensures _ _ _ _ _ c.in-Clean.is z in
    (record { size = z; fine = k.state; oldest = k.first; count = k.used }, omega (arith, c.if-places-lt-LEAST_PLACES.false))

pub returns : goal.returns
unfolding mounted_as code_of
returns c =
    let a = c.args in
    let z = right_size_lem a.segments a.slots a.image.now _ c.right_size.ensures c.if-not-right_size.false in
    let k = survey_plan a.segments a.slots a.image.now c.survey-surveyed.result c.survey-surveyed.ensures _ _ _ _ _ c.in-Clean.is z in
    ap (mounted_as Done) c.fill.ensures ∙ sym (mount_clean a.segments a.slots a.image.now a.places.now z (omega (arith, c.if-places-lt-LEAST_PLACES.false)) k.state)
