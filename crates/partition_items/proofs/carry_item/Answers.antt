-- `partition_items::carry_item` is the new data, the old data or nothing, by the two tests of the definition. Assumes nothing.
use Rattle.flash.proofs.Laws.{◌then◌}
use Rattle.partition_items.proofs.Carrying.{carry_new, carry_old, carry_none}
use Rattle.partition_items.proofs.carry_item.Goals as goal

pub returns-then-identifier-item : goal.returns-then-identifier-item
returns-then-identifier-item c =
    let a = c.args in
    carry_new a.image.now a.from a.to a.identifier a.size a.item a.contents.now c.if-identifier-item.true c.write_item.ensures

-- before `returns-then-image-from`, so that a test of another byte is refused for the item that is copied
pub returns : goal.returns
returns c =
    let a = c.args in
    carry_old a.image.now a.from a.to a.identifier a.size a.item a.contents.now c.if-identifier-item.false c.if-image-from.false
    (λ B. ◌then◌ (c.copy_data-left.ensures B) (c.program_byte.ensures B))

pub returns-then-image-from : goal.returns-then-image-from
returns-then-image-from c =
    let a = c.args in
    carry_none a.image.now a.from a.to a.identifier a.size a.item a.contents.now a.budget c.if-identifier-item.false c.if-image-from.true
