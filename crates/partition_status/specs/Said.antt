-- What the code says of the newest partition.
use Rattle.std.specs.Prelude.{ℕ, Option, Some, None, Result, Ok, Err}
use Rattle.partitions.specs.Partitions as partitions
use Rattle.partition_status.specs.declared.NoRun.{NoRun}

unfoldable pub said : Result (Option ℕ) NoRun → partitions.Newest
said (Ok None) = partitions.nothing
said (Ok (Some p)) = partitions.newest p
said (Err e) = partitions.no_run
