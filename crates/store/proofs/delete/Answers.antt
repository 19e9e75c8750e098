-- `store::delete` is the request of the definition. Assumes nothing.
use mathlib.Core.Path.{subst}
use Rattle.looking.specs.Look.{Looks}
use Rattle.store.proofs.Laws.Requests.{delete_refused, delete_page, delete_done}
use Rattle.store.proofs.delete.Goals as goal

pub returns-in-Ok : goal.returns-in-Ok
returns-in-Ok c =
    let a = c.args in
    delete_done a.segments a.slots a.image.now a.budget a.block.0
    (subst (Looks a.segments a.slots a.image.now a.block.0) c.in-Ok.is c.look-looked.ensures) c.mark_slot.ensures

pub mark_slot-requires : goal.mark_slot-requires
mark_slot-requires c =
    let a = c.args in
    delete_page a.segments a.slots a.image.now a.budget a.block.0 (subst (Looks a.segments a.slots a.image.now a.block.0) c.in-Ok.is c.look-looked.ensures)

pub returns-in-Err : goal.returns-in-Err
returns-in-Err c =
    let a = c.args in
    delete_refused a.segments a.slots a.image.now a.budget a.block.0 c.in-Err.answer
    (subst (Looks a.segments a.slots a.image.now a.block.0) c.in-Err.is c.look-looked.ensures) c.refused.ensures
