-- `moving::move_to` gives the outcome of the definition. Assumes nothing.
use mathlib.Core.Path.{◌∙◌, ap}
use native.Mathlib.Omega.{arith}
use Rattle.model.specs.Table.{table_of}
use Rattle.model.proofs.Laws.Chip.{size_facts}
use Rattle.bridge.specs.Refusals.{answer_in}
use Rattle.request.proofs.Laws.{wrong_size, right_size_lem}
use Rattle.scan.proofs.Laws.Told.{survey_says}
use Rattle.looking.proofs.Laws.Survey.{survey_other, survey_plan, survey_live}
use Rattle.moving.proofs.Laws.Moves.{wrong_source, wrong_target, not_clean, too_many}
use Rattle.moving.proofs.move_to.Goals as goal

pub survey-surveyed-requires : goal.survey-surveyed-requires
survey-surveyed-requires c =
    let a = c.args in
    right_size_lem a.segments a.slots a.source.now _ c.right_size.ensures c.if-not-right_size.false

pub returns-then-not-right_size : goal.returns-then-not-right_size
returns-then-not-right_size c =
    wrong_source _ _ _ _ _ _ _ (wrong_size _ _ _ _ c.right_size.ensures c.if-not-right_size.true) c.refused.ensures

pub returns-then-not-right_size-2 : goal.returns-then-not-right_size-2
returns-then-not-right_size-2 c =
    wrong_target _ _ _ _ _ _ _ (right_size_lem _ _ _ _ c.right_size.ensures c.if-not-right_size.false) (wrong_size _ _ _ _ c.right_size-2.ensures c.if-not-right_size-2.true) c.refused-then-not-right_size-2.ensures

pub returns-in_default : goal.returns-in_default
returns-in_default c =
    let a = c.args in
    let r = c.survey-surveyed in
    not_clean a.segments a.slots a.source.now a.target_segments a.target_slots a.target.now a.budget
    (right_size_lem a.segments a.slots a.source.now _ c.right_size.ensures c.if-not-right_size.false)
    (right_size_lem a.target_segments a.target_slots a.target.now _ c.right_size-2.ensures c.if-not-right_size-2.false)
    c.state_answer.result
    (survey_other a.segments a.slots a.source.now r.result r.ensures c.in_default.not-Clean)
    (c.state_answer.ensures ∙ ap answer_in (survey_says a.segments a.slots a.source.now r.result r.ensures))
    c.refused-in_default.ensures

pub capacity-requires : goal.capacity-requires
capacity-requires c =
    let a = c.args in
    let z = size_facts a.target_segments a.target_slots a.target.now (right_size_lem a.target_segments a.target_slots a.target.now _ c.right_size-2.ensures c.if-not-right_size-2.false) in
    (z.two, z.most, z.slots, omega (arith, z.most_b))

pub returns-then-capacity-live : goal.returns-then-capacity-live
unfolding table_of
returns-then-capacity-live c =
    let a = c.args in
    let r = c.survey-surveyed in
    let z = right_size_lem a.segments a.slots a.source.now _ c.right_size.ensures c.if-not-right_size.false in
    let clean = c.in-Clean.is in
    let k = survey_plan a.segments a.slots a.source.now r.result r.ensures _ _ _ _ _ clean z in
    let live = survey_live a.segments a.slots a.source.now r.result r.ensures _ _ _ _ _ clean in
    too_many a.segments a.slots a.source.now a.target_segments a.target_slots a.target.now a.budget z
    (right_size_lem a.target_segments a.target_slots a.target.now _ c.right_size-2.ensures c.if-not-right_size-2.false)
    k.state (omega (arith, c.if-capacity-live.true, c.capacity.ensures.0, live)) c.refused-then-capacity-live.ensures

pub carry-requires : goal.carry-requires
unfolding table_of
carry-requires c =
    let a = c.args in
    let r = c.survey-surveyed in
    let z = right_size_lem a.segments a.slots a.source.now _ c.right_size.ensures c.if-not-right_size.false in
    let clean = c.in-Clean.is in
    let k = survey_plan a.segments a.slots a.source.now r.result r.ensures _ _ _ _ _ clean z in
    let live = survey_live a.segments a.slots a.source.now r.result r.ensures _ _ _ _ _ clean in
    record {
      movable = record {
        source = z;
        target = right_size_lem a.target_segments a.target_slots a.target.now _ c.right_size-2.ensures c.if-not-right_size-2.false;
        fine = k.state;
        few = omega (arith, c.if-capacity-live.false, c.capacity.ensures.0, live);
      };
      fillable = record { size = z; fine = k.state; oldest = k.first; count = k.used };
    }
