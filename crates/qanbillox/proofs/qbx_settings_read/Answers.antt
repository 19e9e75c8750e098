-- `qanbillox::qbx_settings_read` gives the packed outcome of the definition. Assumes nothing.
use Rattle.qanbillox.proofs.Laws.{settings_tells}
use Rattle.qanbillox.proofs.qbx_settings_read.Goals as goal

pub packed_spot-requires : goal.packed_spot-requires
packed_spot-requires c = c.read.ensures.1

pub returns : goal.returns
returns c = settings_tells _ _ _ c.read.ensures.0 c.packed_spot.ensures
