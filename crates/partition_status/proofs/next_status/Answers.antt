-- `partition_status::next_status` is the definition. Assumes nothing.
use Rattle.partitions.specs.Partitions.{next_status}
use Rattle.partition_status.proofs.next_status.Goals as goal

pub returns : goal.returns
unfolding next_status
returns c = rw c.from.ensures
