-- `qanbillox::qbx_move` gives the packed outcome of the definition. Assumes nothing.
use native.Mathlib.Omega.{arith}
use Rattle.model.proofs.Laws.Bytes.{bytes_known}
use Rattle.moves.proofs.Facts.{moved_few}
use Rattle.qanbillox.proofs.Laws.{few_given, gives}
use Rattle.qanbillox.proofs.qbx_move.Goals as goal

pub packed-requires : goal.packed-requires
packed-requires c =
    let a = c.args in
    few_given _ _ _ (moved_few a.n a.b a.source.now a.target_n a.target_b a.target.now a.budget (bytes_known a.source.now (λ i. omega (arith, c.type_inv.source i)))) c.move_to.ensures

pub returns : goal.returns
returns c = gives _ _ _ _ c.move_to.ensures c.packed.ensures
