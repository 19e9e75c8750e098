-- `store::put` is the request of the definition. Assumes nothing.
use mathlib.Core.Path.{refl, sym, ap, ◌∙◌}
use native.Mathlib.Omega.{arith}
use Rattle.model.specs.Answers.{code_of, put}
use Rattle.model.specs.declared.Answer.TheVariants.{Number, Length}
use Rattle.bridge.specs.Refusals.{answer_in, put_number, put_length}
use Rattle.request.proofs.Laws.{wrong_size, right_size_lem}
use Rattle.model.proofs.Laws.Bytes.{bytes_known}
use Rattle.request.proofs.Answered.{refused_outcome}
use Rattle.scan.proofs.Laws.Told.{survey_says}
use Rattle.looking.proofs.Laws.Survey.{survey_other, survey_plan, survey_live, survey_few}
use Rattle.store.proofs.Laws.Requests.{size_refused, put_unclean_refused}
use Rattle.store.proofs.put.Goals as goal

pub returns-then-not-right_size : goal.returns-then-not-right_size
returns-then-not-right_size c =
    let a = c.args in
    size_refused a.segments a.slots a.image.now a.budget (put a.block.0 a.contents.now) (wrong_size a.segments a.slots a.image.now _ c.right_size.ensures c.if-not-right_size.true) c.refused.ensures

pub returns-then-not-number_ok : goal.returns-then-not-number_ok
unfolding code_of
returns-then-not-number_ok c =
    let a = c.args in
    refused_outcome a.segments a.slots a.image.now a.budget (put a.block.0 a.contents.now) Number _
    (put_number a.segments a.slots a.image.now (right_size_lem a.segments a.slots a.image.now _ c.right_size.ensures c.if-not-right_size.false) a.block.0 a.contents.now
    (sym c.number_ok.ensures ∙ c.if-not-number_ok.true))
    refl c.refused-then-not-number_ok.ensures

pub returns-then-not-length_ok : goal.returns-then-not-length_ok
unfolding code_of
returns-then-not-length_ok c =
    let a = c.args in
    refused_outcome a.segments a.slots a.image.now a.budget (put a.block.0 a.contents.now) Length _
    (put_length a.segments a.slots a.image.now (right_size_lem a.segments a.slots a.image.now _ c.right_size.ensures c.if-not-right_size.false) a.block.0 a.contents.now
    (sym c.number_ok.ensures ∙ c.if-not-number_ok.false) (sym c.length_ok.ensures ∙ c.if-not-length_ok.true))
    refl c.refused-then-not-length_ok.ensures

pub survey-surveyed-requires : goal.survey-surveyed-requires
survey-surveyed-requires c =
    let a = c.args in
    right_size_lem a.segments a.slots a.image.now _ c.right_size.ensures c.if-not-right_size.false

pub returns-in_default : goal.returns-in_default
returns-in_default c =
    let a = c.args in
    let r = c.survey-surveyed in
    put_unclean_refused a.segments a.slots a.image.now a.budget a.block.0 a.contents.now (right_size_lem a.segments a.slots a.image.now _ c.right_size.ensures c.if-not-right_size.false)
    (sym c.number_ok.ensures ∙ c.if-not-number_ok.false) (sym c.length_ok.ensures ∙ c.if-not-length_ok.false) _
    (survey_other a.segments a.slots a.image.now r.result r.ensures c.in_default.not-Clean)
    (c.state_answer.ensures ∙ ap answer_in (survey_says a.segments a.slots a.image.now r.result r.ensures)) c.refused-in_default.ensures

pub put_clean-requires : goal.put_clean-requires
put_clean-requires c =
    let a = c.args in
    let r = c.survey-surveyed in
    let w = c.in-Clean.is in (
      record {
        plan = survey_plan a.segments a.slots a.image.now r.result r.ensures _ _ _ _ _ w (right_size_lem a.segments a.slots a.image.now _ c.right_size.ensures c.if-not-right_size.false);
        bytes = bytes_known a.image.now (λ i. omega (arith, c.slice_known-1.given i));
        number = sym c.number_ok.ensures ∙ c.if-not-number_ok.false;
        taken = sym c.length_ok.ensures ∙ c.if-not-length_ok.false;
      },
      survey_live a.segments a.slots a.image.now r.result r.ensures _ _ _ _ _ w,
      survey_few a.segments a.slots a.image.now r.result r.ensures _ _ _ _ _ w,
    )
