-- `qanbillox::qbx_mounted_delete` gives a packed outcome that the contract allows. Assumes nothing.
use Rattle.qanbillox.proofs.Laws.{packs}
use Rattle.qanbillox.proofs.qbx_mounted_delete.Goals as goal

pub returns : goal.returns
returns c = (_, (c.delete.ensures, packs _ _ _ c.packed_mounted.ensures))
