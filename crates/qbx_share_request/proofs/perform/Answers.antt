-- `qbx_share_request::perform`: each verb is the layer's request. Assumes nothing.
use Rattle.qbx_share_request.specs.ShareRequest.{asked_by, carried_by}
use Rattle.qbx_share_request.proofs.Laws.{written, read}
use Rattle.qbx_share_request.proofs.perform.Goals as goal

pub returns-in-Get : goal.returns-in-Get
unfolding carried_by asked_by
returns-in-Get c =
    let a = c.args in
    rw c.in-Get.is (read _ _ _ _ _ _ a.given.now _ _ c.read.ensures.0)

pub returns-in-Delete : goal.returns-in-Delete
unfolding carried_by asked_by
returns-in-Delete c = rw c.in-Delete.is (written _ _ _ _ c.delete-answer.ensures)

pub returns-in-Put : goal.returns-in-Put
unfolding carried_by asked_by
returns-in-Put c = rw c.in-Put.is (written _ _ _ _ c.put-answer.ensures)
