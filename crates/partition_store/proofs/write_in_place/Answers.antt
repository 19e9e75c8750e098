-- `partition_store::write_in_place` programs one item. Assumes nothing.
use native.Mathlib.Omega.{arith}
use Rattle.partition_store.proofs.Answering.{item_written}
use Rattle.partition_store.proofs.write_in_place.Goals as goal

pub finished-requires : goal.finished-requires
finished-requires c = omega (arith, (c.write_item-left.ensures 0).rest)

pub returns : goal.returns
returns c =
    let a = c.args in
    λ S. item_written S a.at a.item a.contents.now c.write_item-left.ensures c.finished.ensures
