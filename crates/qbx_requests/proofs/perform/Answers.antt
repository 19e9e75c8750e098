-- `qbx_requests::perform`: each verb is the model's request. Assumes nothing.
use Rattle.model.specs.Answers.{performed}
use Rattle.qbx_requests.specs.Requests.{performed_by}
use Rattle.qbx_requests.proofs.perform.Goals as goal

pub returns-in-Format : goal.returns-in-Format
unfolding performed_by
returns-in-Format c = rw c.in-Format.is c.format.ensures

pub returns-in-Put : goal.returns-in-Put
unfolding performed_by
returns-in-Put c = rw c.in-Put.is c.put.ensures

pub returns-in-Delete : goal.returns-in-Delete
unfolding performed_by
returns-in-Delete c = rw c.in-Delete.is c.delete.ensures

pub returns-in-Recover : goal.returns-in-Recover
unfolding performed_by
returns-in-Recover c = rw c.in-Recover.is c.recover.ensures
