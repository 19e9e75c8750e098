-- `qanbillox::qbx_mounted_read` gives a packed place that the contract allows. Assumes nothing.
use Rattle.qanbillox.proofs.Laws.{mounted_small, mounted_tells}
use Rattle.qanbillox.proofs.qbx_mounted_read.Goals as goal

pub packed_read-requires : goal.packed_read-requires
packed_read-requires c =
    let a = c.args in
    mounted_small a.n a.b a.block a.image.now a.table.now _ c.read.ensures

pub returns : goal.returns
returns c = (_, (c.read.ensures, mounted_tells _ _ c.packed_read.ensures))
