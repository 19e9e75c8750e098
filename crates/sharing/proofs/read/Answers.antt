-- `sharing::read` is the tenant's request of the definition. Assumes nothing.
use Prim.Native.Nat.{◌+◌, ◌-◌}
use mathlib.Core.Path.{sym, ap, subst, ◌∙◌}
use native.Mathlib.Omega.{arith}
use lib.ListN.{length, drop, length-take}
use Rattle.model.specs.Slot.{most_contents}
use Rattle.text.specs.Buffer.{printed}
use Rattle.shares.specs.Layer.{reads, block_asked, gave_in}
use Rattle.share_list.specs.Places.{share_in}
use Rattle.admission.specs.Admission.{Admits}
use Rattle.sharing.proofs.Laws.Bounds.{refused_outcome, allowed_outcome}
use Rattle.sharing.proofs.Laws.Read.{told_small, not_read, told_inside, was_read}
use Rattle.sharing.proofs.read.Goals as goal

-- what is copied stands before the ranges, so that an edit of the test is refused for that
pub returns : goal.returns
unfolding block_asked most_contents
returns c =
    let a = c.args in
    let lent = a.contents.now in
    let part = c.in_default.field-0 in
    let p = c.read-located.result in (
      was_read a.segments a.slots a.image.now a.block.0 c.read-located.result c.read-located.ensures (omega (arith, c.if-code_of-gt0.false, c.code_of.ensures)) (share_in part) lent c.print.result _ c.print.ensures.0
          ∙ ap (λ o. gave_in o lent) (sym (allowed_outcome a.segments a.slots a.shares.now a.image.now a.tenant (reads a.block.0 (length lent)) part
          (subst (Admits a.segments a.slots a.shares.now a.image.now a.tenant a.block.0) c.in_default.is c.admit-admitted.ensures))),
      omega (arith, c.print.ensures.1, length-take (p.offset + p.length - p.offset) (drop p.offset a.image.now), told_small a.segments a.slots a.image.now a.block.0 p c.read-located.ensures),
    )

pub overflow_add-end : goal.overflow_add-end
overflow_add-end c =
    let a = c.args in
    omega (arith, told_inside a.segments a.slots a.image.now a.block.0 c.read-located.result c.read-located.ensures (omega (arith, c.if-code_of-gt0.false, c.code_of.ensures)))

pub slice_bounds-print-end : goal.slice_bounds-print-end
slice_bounds-print-end c =
    let a = c.args in
    omega (arith, told_inside a.segments a.slots a.image.now a.block.0 c.read-located.result c.read-located.ensures (omega (arith, c.if-code_of-gt0.false, c.code_of.ensures)))

pub print-requires : goal.print-requires
print-requires c =
    let a = c.args in
    let p = c.read-located.result in
    omega (arith, length-take (p.offset + p.length - p.offset) (drop p.offset a.image.now), told_small a.segments a.slots a.image.now a.block.0 p c.read-located.ensures)

pub returns-in-Err : goal.returns-in-Err
unfolding printed gave_in block_asked most_contents
returns-in-Err c =
    let a = c.args in
    let lent = a.contents.now in (
      ap (λ o. gave_in o lent) (sym (refused_outcome a.segments a.slots a.shares.now a.image.now a.tenant (reads a.block.0 (length lent)) c.in-Err.answer
          (subst (Admits a.segments a.slots a.shares.now a.image.now a.tenant a.block.0) c.in-Err.is c.admit-admitted.ensures))),
      omega arith,
    )

pub returns-then-code_of-gt0 : goal.returns-then-code_of-gt0
unfolding block_asked most_contents
returns-then-code_of-gt0 c =
    let a = c.args in
    let lent = a.contents.now in
    let part = c.in_default.field-0 in (
      not_read a.segments a.slots a.image.now a.block.0 c.read-located.result c.read-located.ensures (share_in part) lent (omega (arith, c.if-code_of-gt0.true, c.code_of.ensures))
          ∙ ap (λ o. gave_in o lent) (sym (allowed_outcome a.segments a.slots a.shares.now a.image.now a.tenant (reads a.block.0 (length lent)) part
          (subst (Admits a.segments a.slots a.shares.now a.image.now a.tenant a.block.0) c.in_default.is c.admit-admitted.ensures))),
      omega arith,
    )
