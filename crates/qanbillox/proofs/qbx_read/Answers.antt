-- `qanbillox::qbx_read` gives the packed outcome of the definition. Assumes nothing.
use Rattle.qanbillox.proofs.Laws.{small, tells}
use Rattle.qanbillox.proofs.qbx_read.Goals as goal

pub packed_read-requires : goal.packed_read-requires
packed_read-requires c =
    small c.args.n c.args.b c.args.image.now c.args.block _ c.read.ensures

pub returns : goal.returns
returns c =
    tells c.args.n c.args.b c.args.image.now c.args.block _ _ c.read.ensures c.packed_read.ensures
