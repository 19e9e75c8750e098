-- `partition_items::write_item` programs the data, and then the identifier byte. Assumes nothing.
use Rattle.flash.proofs.Laws.{◌then◌}
use Rattle.partition_items.proofs.write_item.Goals as goal

pub returns : goal.returns
returns c =
    λ B. ◌then◌ (c.program_run-left.ensures B) (c.program_byte.ensures B)
