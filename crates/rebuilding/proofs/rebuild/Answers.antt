-- `rebuilding::rebuild` gives the outcome of the definition. Assumes nothing.
use Rattle.request.proofs.Laws.{wrong_size, right_size_lem}
use Rattle.rebuilding.proofs.Laws.{wrong_source, wrong_target}
use Rattle.rebuilding.proofs.rebuild.Goals as goal

pub returns-then-not-right_size : goal.returns-then-not-right_size
returns-then-not-right_size c =
    let a = c.args in
    wrong_source a.segments a.slots a.source.now a.target_segments a.target_slots a.target.now a.budget
    (wrong_size a.segments a.slots a.source.now _ c.right_size.ensures c.if-not-right_size.true) c.refused.ensures

pub returns-then-not-right_size-2 : goal.returns-then-not-right_size-2
returns-then-not-right_size-2 c =
    let a = c.args in
    wrong_target a.segments a.slots a.source.now a.target_segments a.target_slots a.target.now a.budget
    (right_size_lem a.segments a.slots a.source.now _ c.right_size.ensures c.if-not-right_size.false)
    (wrong_size a.target_segments a.target_slots a.target.now _ c.right_size-2.ensures c.if-not-right_size-2.true) c.refused-then-not-right_size-2.ensures

pub restore-requires : goal.restore-requires
restore-requires c =
    let a = c.args in
    (right_size_lem a.segments a.slots a.source.now _ c.right_size.ensures c.if-not-right_size.false, right_size_lem a.target_segments a.target_slots a.target.now _ c.right_size-2.ensures c.if-not-right_size-2.false)
