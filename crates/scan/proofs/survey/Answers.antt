-- `scan::survey` is the survey of the definition. Assumes nothing.
use mathlib.Core.Path.{◌∙◌}
use Rattle.scan.proofs.Laws.Surveys.{right_size_lem, looked, owing_survey, torn_survey}
use Rattle.scan.proofs.survey.Goals as goal

pub see_headers-seen-requires : goal.see_headers-seen-requires
see_headers-seen-requires c =
    let r = right_size_lem c.args.geometry.segments c.args.geometry.slots c.args.image.now c.requires in
    (r.0, r.1)

pub examine-exam-requires : goal.examine-exam-requires
examine-exam-requires c =
    ((right_size_lem c.args.geometry.segments c.args.geometry.slots c.args.image.now c.requires).0, c.see_headers-seen.ensures.2)

pub survey_owing-requires : goal.survey_owing-requires
survey_owing-requires c =
    let h = c.see_headers-seen in
    let w = looked c.args.geometry.segments c.args.geometry.slots c.args.image.now h.result c.examine-exam.result c.requires h.ensures.0 h.ensures.1 c.examine-exam.ensures.0 c.examine-exam.ensures.1 in
    (w.least, w.size.segments, w.slots, w.size.slots, w.below, w.bounded.used)

pub returns-then-seen : goal.returns-then-seen
returns-then-seen c =
    let h = c.see_headers-seen in
    c.survey_owing.ensures ∙ owing_survey c.args.geometry.segments c.args.geometry.slots c.args.image.now h.result c.examine-exam.result (looked c.args.geometry.segments c.args.geometry.slots c.args.image.now h.result c.examine-exam.result c.requires h.ensures.0 h.ensures.1 c.examine-exam.ensures.0 c.examine-exam.ensures.1) c.if-seen.true

pub survey_torn-requires : goal.survey_torn-requires
survey_torn-requires c =
    let h = c.see_headers-seen in
    let w = looked c.args.geometry.segments c.args.geometry.slots c.args.image.now h.result c.examine-exam.result c.requires h.ensures.0 h.ensures.1 c.examine-exam.ensures.0 c.examine-exam.ensures.1 in
    (w.least, w.size.segments, w.slots, w.size.slots, w.below)

pub returns-then-seen-2 : goal.returns-then-seen-2
returns-then-seen-2 c =
    let h = c.see_headers-seen in
    c.survey_torn.ensures ∙ torn_survey c.args.geometry.segments c.args.geometry.slots c.args.image.now h.result c.examine-exam.result (looked c.args.geometry.segments c.args.geometry.slots c.args.image.now h.result c.examine-exam.result c.requires h.ensures.0 h.ensures.1 c.examine-exam.ensures.0 c.examine-exam.ensures.1) c.if-seen.false c.if-seen-2.true

pub survey_slots-requires : goal.survey_slots-requires
survey_slots-requires c =
    let h = c.see_headers-seen in
    (looked c.args.geometry.segments c.args.geometry.slots c.args.image.now h.result c.examine-exam.result c.requires h.ensures.0 h.ensures.1 c.examine-exam.ensures.0 c.examine-exam.ensures.1, c.if-seen.false, c.if-seen-2.false)
