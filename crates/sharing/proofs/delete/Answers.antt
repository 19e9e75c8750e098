-- `sharing::delete` is the tenant's request of the definition. Assumes nothing.
use Rattle.sharing.proofs.Laws.Written.{deleted}
use Rattle.sharing.proofs.Laws.Bounds.{refused_outcome, allowed_outcome}
use Rattle.admission.specs.Admission.{Admits}
use Rattle.share_list.specs.Places.{share_in}
use Rattle.shares.specs.Layer.{deletes, block_asked, wrote}
use native.Mathlib.Omega.{arith}
use mathlib.Core.Path.{sym, subst, ◌∙◌}
use Rattle.sharing.proofs.delete.Goals as goal

pub returns-in-Err : goal.returns-in-Err
unfolding wrote block_asked
returns-in-Err c =
    let a = c.args in
    sym (refused_outcome a.segments a.slots a.shares.now a.image.now a.tenant (deletes a.block.0) c.in-Err.answer
    (subst (Admits a.segments a.slots a.shares.now a.image.now a.tenant a.block.0) c.in-Err.is c.admit-admitted.ensures))

pub returns : goal.returns
unfolding block_asked
returns c =
    let a = c.args in
    let part = c.in_default.field-0 in
    deleted a.segments a.slots a.image.now (share_in part) a.block.0 _ c.delete-performed.result _ (omega arith) c.delete-performed.ensures
    ∙ sym (allowed_outcome a.segments a.slots a.shares.now a.image.now a.tenant (deletes a.block.0) part
    (subst (Admits a.segments a.slots a.shares.now a.image.now a.tenant a.block.0) c.in_default.is c.admit-admitted.ensures))
