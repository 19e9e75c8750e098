-- `settings_list::list`: the tests of a request, in its order. Assumes nothing.
use mathlib.Core.Path.{refl, sym, ◌∙◌}
use native.Mathlib.Omega.{arith}
use Rattle.model.proofs.Laws.Bytes.{bytes_known}
use Rattle.partitions.proofs.Few.{short_table}
use Rattle.partition_store.proofs.Asking.{partitions_some}
use Rattle.settings_list.proofs.Laws.{refused_lists, wrong_partitions, wrong_length, wrong_table, right, right_lists}
use Rattle.settings_list.proofs.list.Goals as goal

pub returns-then-not-partitions_ok : goal.returns-then-not-partitions_ok
returns-then-not-partitions_ok c = refused_lists _ _ _ refl (wrong_partitions _ _ _ (sym c.partitions_ok.ensures ∙ c.if-not-partitions_ok.true))

pub nonzero_rem-image : goal.nonzero_rem-image
nonzero_rem-image c = omega (arith, partitions_some _ (sym c.partitions_ok.ensures ∙ c.if-not-partitions_ok.false))

pub returns-then-image-partitions-ne0 : goal.returns-then-image-partitions-ne0
returns-then-image-partitions-ne0 c = refused_lists _ _ _ refl (wrong_length _ _ _ (sym c.partitions_ok.ensures ∙ c.if-not-partitions_ok.false) c.if-image-partitions-ne0.true)

pub nonzero_div-image : goal.nonzero_div-image
nonzero_div-image c = omega (arith, partitions_some _ (sym c.partitions_ok.ensures ∙ c.if-not-partitions_ok.false))

pub returns-then-not-layout_ok : goal.returns-then-not-layout_ok
returns-then-not-layout_ok c = refused_lists _ _ _ refl (wrong_table _ _ _ (sym c.partitions_ok.ensures ∙ c.if-not-partitions_ok.false) c.if-image-partitions-ne0.false (sym c.layout_ok.ensures ∙ c.if-not-layout_ok.true))

pub list_board-requires : goal.list_board-requires
list_board-requires c = right _ _ _ (sym c.partitions_ok.ensures ∙ c.if-not-partitions_ok.false) c.if-image-partitions-ne0.false (sym c.layout_ok.ensures ∙ c.if-not-layout_ok.false) (short_table _ c.args.layout.now (sym c.layout_ok.ensures ∙ c.if-not-layout_ok.false) (bytes_known c.args.layout.now (λ i. omega (arith, c.type_inv.layout i))))

pub returns : goal.returns
returns c = right_lists _ _ _ (sym c.partitions_ok.ensures ∙ c.if-not-partitions_ok.false) c.if-image-partitions-ne0.false (sym c.layout_ok.ensures ∙ c.if-not-layout_ok.false) c.list_board.ensures
