-- `mounted_put::perform_moving` is the put of the definition in step, and harmless out of step. Assumes nothing.
use native.Mathlib.Omega.{arith}
use borrow.Author.Rules.{rules}
use Rattle.model.proofs.Laws.Bytes.{bytes_known}
use Rattle.mounted_put.proofs.Laws.AnyTable.{spent_performs, continued_performs}
use Rattle.mounted_put.proofs.perform_moving.Goals as goal

pub returns-then-room-eq0 : goal.returns-then-room-eq0
returns-then-room-eq0 c =
    let a = c.args in
    let stopped = c.stop.ensures in
    spent_performs a.geometry.segments a.geometry.slots a.plan a.total a.block.0 a.contents.now a.budget _ _ a.image.now _ c.make_room-room.ensures a.places.now _ c.requires.1 c.if-room-eq0.true stopped.0 stopped.1

pub returns : goal.returns
returns c =
    let a = c.args in
    continued_performs a.geometry.segments a.geometry.slots a.plan a.total a.block.0 a.contents.now a.budget _ _ a.image.now _ c.make_room-room.ensures a.places.now _ c.requires.1 c.if-room-eq0.false
    (bytes_known a.image.now (λ i. search rules)) (bytes_known a.contents.now (λ i. omega (arith, c.type_inv.contents i)))
    (omega (arith, c.well_formed)) _ _ c.enter_new.ensures c.write_found.ensures
