-- `slot::write_page` does the steps of a written slot, in the slot's page. Assumes nothing.
use native.Mathlib.Omega.{arith}
use Rattle.slot.proofs.Laws.Writes.{page_written}
use Rattle.slot.proofs.write_page.Goals as goal

pub returns : goal.returns
returns c =
    page_written c.args.place.0 c.args.count c.args.image.now c.args.page.now (omega arith) (omega arith) c.program_slot.ensures
