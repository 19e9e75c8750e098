-- `qanbillox::qbx_account` gives the packed print of the definition. Assumes nothing.
use Rattle.qanbillox.proofs.Laws.{prints}
use Rattle.qanbillox.proofs.qbx_account.Goals as goal

pub packed_print-requires : goal.packed_print-requires
packed_print-requires c = c.account.ensures.1

pub returns : goal.returns
returns c = prints _ _ _ _ c.account.ensures.0 c.packed_print.ensures
