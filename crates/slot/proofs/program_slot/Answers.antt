-- `slot::program_slot` does the steps of a written slot, call by call. Assumes nothing.
use Rattle.slot.proofs.Laws.Writes.{programmed_slot}
use borrow.Author.Rules.{rules}
use Rattle.slot.proofs.program_slot.Goals as goal

pub returns : goal.returns
returns c = search (rules, programmed_slot)
