-- `partition_store::find` refuses in the order of the refusals, and tells what the search of the table has found. Assumes nothing.
use Prim.Native.Nat.{◌/◌}
use mathlib.Core.Path.{sym, ◌∙◌}
use native.Mathlib.Omega.{arith}
use Rattle.partition_store.proofs.Asking.{partitions_some, wrong_partitions, wrong_length, right_image, wrong_table, found_or}
use native.Mathlib.Nat.{div-le_self}
use lib.ListN.{length}
use Rattle.partitions.proofs.Laws.{right_layout}
use Rattle.partition_store.proofs.find.Goals as goal

pub returns-then-not-partitions_ok : goal.returns-then-not-partitions_ok
returns-then-not-partitions_ok c =
    let a = c.args in
    wrong_partitions a.partitions a.layout.now a.image.now a.item (sym c.partitions_ok.ensures ∙ c.if-not-partitions_ok.true)

pub nonzero_rem-image : goal.nonzero_rem-image
nonzero_rem-image c = omega (arith, partitions_some _ (sym c.partitions_ok.ensures ∙ c.if-not-partitions_ok.false))

pub returns-then-image-partitions-ne0 : goal.returns-then-image-partitions-ne0
returns-then-image-partitions-ne0 c =
    let a = c.args in
    wrong_length a.partitions a.layout.now a.image.now a.item (sym c.partitions_ok.ensures ∙ c.if-not-partitions_ok.false) (λ e. omega (arith, c.if-image-partitions-ne0.true))

pub nonzero_div-image : goal.nonzero_div-image
nonzero_div-image c = omega (arith, partitions_some _ (sym c.partitions_ok.ensures ∙ c.if-not-partitions_ok.false))

pub returns-then-not-layout_ok : goal.returns-then-not-layout_ok
returns-then-not-layout_ok c =
    let a = c.args in
    let right = right_image a.partitions a.layout.now a.image.now a.item (sym c.partitions_ok.ensures ∙ c.if-not-partitions_ok.false) (omega (arith, c.if-image-partitions-ne0.false)) in
    wrong_table a.partitions a.layout.now a.image.now a.item right (sym c.layout_ok.ensures ∙ c.if-not-layout_ok.true)

pub find_item-requires : goal.find_item-requires
find_item-requires c =
    let a = c.args in
    let s = a.image.now in
    let table = sym c.layout_ok.ensures ∙ c.if-not-layout_ok.false in
    ((right_layout (length s / a.partitions) a.layout.now table).even, omega (arith, (right_layout (length s / a.partitions) a.layout.now table).fit, div-le_self (length s) a.partitions))

pub returns : goal.returns
returns c =
    let a = c.args in
    let right = right_image a.partitions a.layout.now a.image.now a.item (sym c.partitions_ok.ensures ∙ c.if-not-partitions_ok.false) (omega (arith, c.if-image-partitions-ne0.false)) in
    rw c.ok_or.ensures.value (found_or a.partitions a.layout.now a.image.now a.item right (sym c.layout_ok.ensures ∙ c.if-not-layout_ok.false) (λ k. omega (arith, c.type_inv.layout k)) c.find_item.result c.find_item.ensures)
