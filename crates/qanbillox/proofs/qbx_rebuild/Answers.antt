-- `qanbillox::qbx_rebuild` gives the packed outcome of the definition. Assumes nothing.
use native.Mathlib.Omega.{arith}
use Rattle.model.proofs.Laws.Bytes.{bytes_known}
use Rattle.salvage.proofs.Facts.{rebuilt_few}
use Rattle.qanbillox.proofs.Laws.{few_given, gives}
use Rattle.qanbillox.proofs.qbx_rebuild.Goals as goal

pub packed-requires : goal.packed-requires
packed-requires c =
    let a = c.args in
    few_given _ _ _ (rebuilt_few a.n a.b a.source.now a.target_n a.target_b a.target.now a.budget (bytes_known a.source.now (λ i. omega (arith, c.type_inv.source i)))) c.rebuild.ensures

pub returns : goal.returns
returns c = gives _ _ _ _ c.rebuild.ensures c.packed.ensures
