-- `partition_store::write_first` erases partition 0 and fills it with one item. Assumes nothing.
use mathlib.Core.List.{◌∷◌, []}
use native.Mathlib.Omega.{arith}
use Rattle.partition_store.specs.Answering.{entry_at}
use Rattle.partition_store.proofs.Answering.{filled, first_item}
use mathlib.Core.Path.{refl}
use Rattle.partition_store.proofs.write_first.Goals as goal

pub finished-requires : goal.finished-requires
finished-requires c =
    omega (arith, c.erase_unit-blank.ensures.rest, (c.write_item-filled.ensures 0).rest, (c.program_byte-left.ensures 0).rest)

pub returns : goal.returns
returns c =
    let a = c.args in
    filled a.size 0 0 (entry_at a.at a.item a.contents.now ∷ []) 0 0 (omega arith) refl c.erase_unit-blank.ensures
    (first_item a.size a.at a.item a.contents.now c.requires.0 c.write_item-filled.ensures) c.program_byte-left.ensures c.finished.ensures
