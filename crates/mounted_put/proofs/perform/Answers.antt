-- `mounted_put::perform` is the put of the definition in step, and harmless out of step. Assumes nothing.
use mathlib.Core.Path.{refl}
use native.Mathlib.Omega.{arith}
use borrow.Author.Rules.{rules}
use Rattle.model.proofs.Laws.Bytes.{bytes_known}
use Rattle.mounted_put.proofs.Laws.AnyTable.{there_placed, there_performs}
use Rattle.mounted_put.proofs.perform.Goals as goal

pub write_noted-requires : goal.write_noted-requires
write_noted-requires c =
    let a = c.args in
    (there_placed a.geometry.segments a.geometry.slots a.plan a.total a.block.0 a.contents.now a.budget _ a.image.now a.places.now c.requires.0 c.if-slot-geometry.true refl refl refl refl a.old c.requires.3 c.requires.2, c.requires.1)

pub returns-then-budget-gt0 : goal.returns-then-budget-gt0
returns-then-budget-gt0 c =
    let a = c.args in
    let written = c.write_noted.ensures in
    there_performs a.geometry.segments a.geometry.slots a.plan a.total a.block.0 a.contents.now a.budget _ a.image.now a.places.now c.requires.0 c.if-slot-geometry.true refl refl refl refl a.old c.requires.3
    c.if-budget-gt0.true c.requires.1 (bytes_known a.image.now (λ i. search rules)) (bytes_known a.contents.now (λ i. omega (arith, c.type_inv.contents i)))
    (omega (arith, c.well_formed)) written.0 written.1
