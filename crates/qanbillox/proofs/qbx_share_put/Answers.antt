-- `qanbillox::qbx_share_put` gives the outcome of the definition. Assumes nothing.
use Rattle.qanbillox.proofs.Laws.{serves}
use Rattle.qanbillox.proofs.qbx_share_put.Goals as goal

pub returns : goal.returns
returns c = serves _ _ _ _ c.put.ensures c.number_of.ensures.0
