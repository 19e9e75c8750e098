-- `partition_store::read_found` tells the place that the definition tells by the newest partition. Assumes nothing.
use Rattle.partition_store.proofs.Answering.{told_unread, read_nothing, read_none, read_unwritten, read_written}
use Prim.Native.Nat.{◌/◌}
use native.Mathlib.Omega.{arith}
use lib.ListN.{length}
use mathlib.Core.Path.{◌∙◌, ap}
use Rattle.std.specs.Prelude.{Ok}
use Rattle.partition_store.proofs.Asking.{board_whole, newest_inside}
use Rattle.partition_store.proofs.read_found.Goals as goal

pub overflow_mul-place : goal.overflow_mul-place
overflow_mul-place c =
    let a = c.args in
    let here = newest_inside a.partitions a.at a.bytes a.image.now c.requires c.find_newest.ensures (c.in-Ok-Some.is ∙ ap Ok c.in-Ok-Some.field-0-is) in
    record { fits = omega arith }

pub overflow_add-place : goal.overflow_add-place
overflow_add-place c =
    let a = c.args in
    let here = newest_inside a.partitions a.at a.bytes a.image.now c.requires c.find_newest.ensures (c.in-Ok-Some.is ∙ ap Ok c.in-Ok-Some.field-0-is) in
    record { fits = omega arith }

pub bounds-image-place : goal.bounds-image-place
bounds-image-place c =
    let a = c.args in
    let here = newest_inside a.partitions a.at a.bytes a.image.now c.requires c.find_newest.ensures (c.in-Ok-Some.is ∙ ap Ok c.in-Ok-Some.field-0-is) in
    omega arith

-- before `returns`, so that a test of another byte is refused for the item that is read
pub returns-else-image-place : goal.returns-else-image-place
returns-else-image-place c =
    let a = c.args in
    let s = a.image.now in
    (read_written (length s / a.partitions) s a.item a.bytes a.at c.find_newest.ensures (c.in-Ok-Some.is ∙ ap Ok c.in-Ok-Some.field-0-is) c.if-image-place.false, c.requires.short)

pub returns-then-image-place : goal.returns-then-image-place
returns-then-image-place c =
    let a = c.args in
    let s = a.image.now in
    told_unread _ _ c.unread-then-image-place.ensures (read_unwritten (length s / a.partitions) s a.item a.bytes a.at c.find_newest.ensures (c.in-Ok-Some.is ∙ ap Ok c.in-Ok-Some.field-0-is) c.if-image-place.true)

pub overflow_add-result : goal.overflow_add-result
overflow_add-result c =
    let a = c.args in
    let here = newest_inside a.partitions a.at a.bytes a.image.now c.requires c.find_newest.ensures (c.in-Ok-Some.is ∙ ap Ok c.in-Ok-Some.field-0-is) in
    record { fits = omega arith }

pub returns-in-Ok-None : goal.returns-in-Ok-None
returns-in-Ok-None c =
    let a = c.args in
    let s = a.image.now in
    told_unread _ _ c.unread.ensures (read_nothing (length s / a.partitions) s a.item a.bytes a.at c.find_newest.ensures (c.in-Ok-None.is ∙ ap Ok c.in-Ok-None.field-0-is))

pub returns-in-Err : goal.returns-in-Err
returns-in-Err c =
    let a = c.args in
    let s = a.image.now in
    told_unread _ _ c.unread-in-Err.ensures (read_none (length s / a.partitions) s a.item a.bytes a.at c.find_newest.ensures c.in-Err.is)
