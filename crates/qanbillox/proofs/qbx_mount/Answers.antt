-- `qanbillox::qbx_mount` gives the outcome of the definition. Assumes nothing.
use Rattle.qanbillox.proofs.Laws.{mounts}
use Rattle.qanbillox.proofs.qbx_mount.Goals as goal

pub returns : goal.returns
returns c = mounts _ _ _ _ c.mount.ensures c.number_of.ensures.0
