-- `partition_status::find_newest`. The invariant: what is known of the partitions looked at. Assumes nothing.
use Rattle.partition_status.proofs.Laws.{Looked}
use Rattle.partition_status.proofs.find_newest.Given as goal

abbrev pub invariant-loop-partition : goal.invariant-loop-partition
invariant-loop-partition l = Looked l.partitions l.size l.image l.newest l.status l.at l.partition
