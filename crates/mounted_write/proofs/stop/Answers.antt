-- `mounted_write::stop` makes the table unusable and says that the budget ran out. Assumes nothing.
use Rattle.mounted_write.proofs.Laws.Parts.{made_unusable}
use Rattle.mounted_write.proofs.stop.Goals as goal

pub returns : goal.returns
returns c = (c.finished.ensures, made_unusable _)
