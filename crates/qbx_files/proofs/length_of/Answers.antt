use Rattle.qbx_files.proofs.Laws.{larger_count}
use Rattle.qbx_files.proofs.length_of.Goals as goal

pub returns-in-Ok : goal.returns-in-Ok
returns-in-Ok c = rw c.larger.ensures (larger_count _ _)
