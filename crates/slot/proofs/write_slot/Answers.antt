-- `slot::write_slot` does the steps of the definition, in the slot's page. Assumes nothing.
use Rattle.slot.proofs.Laws.Writes.{slot_written}
use Rattle.slot.proofs.write_slot.Goals as goal

pub returns : goal.returns
returns c =
    let a = c.args in
    slot_written a.place.0 a.block.0 a.contents.now _ c.slot_page-made.ensures c.write_page.ensures
