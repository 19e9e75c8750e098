-- `qanbillox::qbx_settings_write` gives the packed outcome of the definition. Assumes nothing.
use native.Mathlib.Omega.{arith}
use Rattle.qanbillox.proofs.Laws.{settings_few, settings_gives}
use Rattle.qanbillox.proofs.qbx_settings_write.Goals as goal

pub packed_write-requires : goal.packed_write-requires
packed_write-requires c =
    let a = c.args in
    settings_few a.partitions a.layout.now a.image.now a.item a.contents.now a.budget _ _ (λ i. omega (arith, c.type_inv.layout i)) c.write.ensures

pub returns : goal.returns
returns c = settings_gives _ _ _ _ c.write.ensures c.packed_write.ensures
