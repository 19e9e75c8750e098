-- `slot::mark_dead` does the one step of the definition. Assumes nothing.
use Rattle.slot.proofs.Laws.Writes.{marked}
use Rattle.slot.proofs.mark_dead.Goals as goal

pub returns : goal.returns
returns c = marked _ c.program_byte.ensures
