-- `qanbillox::qbx_mounted_put` gives a packed outcome that the contract allows. Assumes nothing.
use Rattle.qanbillox.proofs.Laws.{packs}
use Rattle.qanbillox.proofs.qbx_mounted_put.Goals as goal

pub returns : goal.returns
returns c = (_, (c.put.ensures, packs _ _ _ c.packed_mounted.ensures))
