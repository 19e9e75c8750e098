-- `partition_store::write_next` erases a partition, and fills it with the items carried from another. Assumes nothing.
use Rattle.partition_store.proofs.Asking.{table_some}
use native.Mathlib.Omega.{arith}
use Rattle.partitions.specs.Partitions.{status_of}
use Rattle.partition_store.proofs.Answering.{erased_next, filled}
use mathlib.Core.Path.{refl}
use Rattle.partition_store.proofs.write_next.Goals as goal

pub bounds-image-from : goal.bounds-image-from
bounds-image-from c =
    omega (arith, c.requires.reads, table_some _ _ c.requires.right)

pub program_byte-left-requires : goal.program_byte-left-requires
program_byte-left-requires c =
    omega (arith, c.requires.writes, table_some _ _ c.requires.right)

pub finished-requires : goal.finished-requires
finished-requires c =
    omega (arith, c.erase_unit-blank.ensures.rest, c.carry_items-filled.ensures.rest, (c.program_byte-left.ensures 0).rest)

pub returns : goal.returns
unfolding status_of
returns c =
    let a = c.args in
    let same = erased_next a.size a.from a.to a.item a.layout.now a.contents.now c.requires c.erase_unit-blank.ensures in
    filled a.size a.to _ _ _ _ refl c.next_status-following.ensures c.erase_unit-blank.ensures (rw same at c.carry_items-filled.ensures) c.program_byte-left.ensures c.finished.ensures
