-- `partition_status::next_partition` counts round. Assumes nothing.
use native.Mathlib.Omega.{arith}
use Rattle.partition_status.proofs.Laws.{next_first, next_inner}
use Rattle.partition_status.proofs.next_partition.Goals as goal

pub returns-then-next-partitions : goal.returns-then-next-partitions
returns-then-next-partitions c = next_first _ _ c.if-next-partitions.true

pub returns : goal.returns
returns c = next_inner _ _ (omega (arith, c.if-next-partitions.false))
