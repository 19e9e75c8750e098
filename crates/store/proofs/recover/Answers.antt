-- `store::recover` is the request of the definition. Assumes nothing.
use Rattle.model.specs.Answers.{recover}
use Rattle.request.proofs.Laws.{wrong_size, right_size_lem}
use Rattle.store.proofs.Laws.Requests.{size_refused}
use Rattle.store.proofs.recover.Goals as goal

pub returns-then-not-right_size : goal.returns-then-not-right_size
returns-then-not-right_size c =
    let a = c.args in
    size_refused a.segments a.slots a.image.now a.budget recover (wrong_size a.segments a.slots a.image.now _ c.right_size.ensures c.if-not-right_size.true) c.refused.ensures

pub survey-surveyed-requires : goal.survey-surveyed-requires
survey-surveyed-requires c =
    let a = c.args in
    right_size_lem a.segments a.slots a.image.now _ c.right_size.ensures c.if-not-right_size.false

pub mend-requires : goal.mend-requires
mend-requires c =
    let a = c.args in
    (right_size_lem a.segments a.slots a.image.now _ c.right_size.ensures c.if-not-right_size.false, c.survey-surveyed.ensures)
