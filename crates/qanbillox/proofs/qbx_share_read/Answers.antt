-- `qanbillox::qbx_share_read` gives the packed outcome of the definition. Assumes nothing.
use native.Mathlib.Omega.{arith}
use Rattle.model.specs.Slot.{most_contents}
use Rattle.qanbillox.proofs.Laws.{prints}
use Rattle.qanbillox.proofs.qbx_share_read.Goals as goal

pub packed_print-requires : goal.packed_print-requires
unfolding most_contents
packed_print-requires c = omega (arith, c.read.ensures.1)

pub returns : goal.returns
returns c = prints _ _ _ _ c.read.ensures.0 c.packed_print.ensures
