-- `partition_status::status_of` is the definition. Assumes nothing.
use mathlib.Core.Path.{refl}
use Rattle.partitions.specs.Partitions.{status_of}
use Rattle.partition_status.proofs.status_of.Goals as goal

pub returns : goal.returns
unfolding status_of
returns c = refl
