-- `partition_store::write_newest` writes in place or to the next partition, by the blank test of the item. Assumes nothing.
use Rattle.partition_store.proofs.Asking.{stands, place_inside, carry_next}
use Prim.Native.Nat.{◌/◌}
use lib.ListN.{length}
use native.Mathlib.Omega.{arith}
use mathlib.Core.Path.{sym, ◌∙◌}
use Rattle.partition_store.proofs.Answering.{steps_in_place, steps_to_next}
use Rattle.partition_store.proofs.write_newest.Goals as goal

pub overflow_mul-place : goal.overflow_mul-place
overflow_mul-place c =
    let a = c.args in
    let here = place_inside a.partitions a.at (length a.contents.now) (length a.image.now) a.partition (stands a.partitions a.layout.now a.image.now a.item a.at _ c.requires.0) c.requires.1 in
    record { fits = omega arith }

pub overflow_add-place : goal.overflow_add-place
overflow_add-place c =
    let a = c.args in
    let here = place_inside a.partitions a.at (length a.contents.now) (length a.image.now) a.partition (stands a.partitions a.layout.now a.image.now a.item a.at _ c.requires.0) c.requires.1 in
    record { fits = omega arith }

pub item_erased-requires : goal.item_erased-requires
item_erased-requires c =
    let a = c.args in
    let here = place_inside a.partitions a.at (length a.contents.now) (length a.image.now) a.partition (stands a.partitions a.layout.now a.image.now a.item a.at _ c.requires.0) c.requires.1 in
    omega arith

pub write_in_place-requires : goal.write_in_place-requires
write_in_place-requires c =
    let a = c.args in
    let here = place_inside a.partitions a.at (length a.contents.now) (length a.image.now) a.partition (stands a.partitions a.layout.now a.image.now a.item a.at _ c.requires.0) c.requires.1 in
    omega arith

pub returns-then-item_erased : goal.returns-then-item_erased
returns-then-item_erased c =
    let a = c.args in
    rw (steps_in_place a.partitions a.layout.now a.image.now a.item a.at a.contents.now c.requires.0 a.partition (sym c.item_erased.ensures ∙ c.if-item_erased.true)) (c.write_in_place.ensures (length a.image.now / a.partitions))

pub write_next-requires : goal.write_next-requires
write_next-requires c =
    let a = c.args in
    carry_next a.partitions a.layout.now a.image.now a.item a.at a.contents.now a.partition _ c.requires.0 c.requires.1 c.next_partition-next.ensures

pub returns : goal.returns
returns c =
    let a = c.args in
    rw (steps_to_next a.partitions a.layout.now a.image.now a.item a.at a.contents.now c.requires.0 a.partition (sym c.item_erased.ensures ∙ c.if-item_erased.false), ← c.next_partition-next.ensures) c.write_next.ensures
