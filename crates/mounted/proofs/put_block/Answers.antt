-- `mounted::put_block` keeps the contract of a mounted put. Assumes nothing.
use lib.ListN.{length}
use Rattle.model.specs.Slot.{most_contents}
use Rattle.model.proofs.Laws.Bytes.{bytes_known}
use Rattle.bridge.specs.Accepted.{taken_short}
use Rattle.mounted_plan.proofs.Callers.{accepted_fits}
use Rattle.mounted_read.proofs.Laws.Refusals.{passed}
use Rattle.mounted.proofs.Laws.Puts.{put_refused, put_performed}
use borrow.Author.Rules.{rules}
use Rattle.mounted.proofs.put_block.Goals as goal

pub decide-decision-requires : goal.decide-decision-requires
decide-decision-requires c =
    let a = c.args in
    (passed a.segments a.slots a.image.now a.places.now a.block.0 _ c.requires.passed).size

pub returns-in-Err : goal.returns-in-Err
returns-in-Err c =
    let a = c.args in
    put_refused a.segments a.slots a.image.now a.places.now a.block.0 a.contents.now a.budget a.old c.requires _ c.is_none.ensures _ c.decide-decision.ensures _ c.in-Err.is c.refused.ensures

pub perform-requires : goal.perform-requires
unfolding most_contents
perform-requires c =
    let a = c.args in
    let i = passed a.segments a.slots a.image.now a.places.now a.block.0 _ c.requires.passed in
    (accepted_fits a.segments a.slots _ a.image.now _ c.decide-decision.ensures _ c.in-Ok.is, i.long, taken_short (length a.contents.now) i.right, c.requires.seen)

pub returns-in-Ok : goal.returns-in-Ok
returns-in-Ok c =
    let a = c.args in
    put_performed a.segments a.slots a.image.now a.places.now a.block.0 a.contents.now a.budget a.old c.requires _ c.is_none.ensures _ c.decide-decision.ensures _ c.in-Ok.is
    (bytes_known a.image.now (λ i. search rules)) c.perform.ensures
