-- `sharing::put` is the tenant's request of the definition. Assumes nothing.
use Rattle.sharing.proofs.Laws.Bounds.{refused_outcome, allowed_outcome}
use Rattle.isolation.specs.Codes.{passes}
use Rattle.admission.specs.Admission.{Admits}
use Rattle.shares.specs.Layer.{puts, block_asked, wrote}
use mathlib.Core.Path.{sym, subst, ◌∙◌}
use Rattle.sharing.proofs.put.Goals as goal

pub put_within-requires : goal.put_within-requires
put_within-requires c =
    let a = c.args in
    let p = passes a.segments a.slots a.shares.now a.image.now a.tenant a.block.0
    (subst (Admits a.segments a.slots a.shares.now a.image.now a.tenant a.block.0) c.in-Ok.is c.admit-admitted.ensures).code in
    (p.size, p.number)

pub returns-in-Err : goal.returns-in-Err
unfolding wrote block_asked
returns-in-Err c =
    let a = c.args in
    sym (refused_outcome a.segments a.slots a.shares.now a.image.now a.tenant (puts a.block.0 a.contents.now) c.in-Err.answer
    (subst (Admits a.segments a.slots a.shares.now a.image.now a.tenant a.block.0) c.in-Err.is c.admit-admitted.ensures))

pub returns-in-Ok : goal.returns-in-Ok
unfolding block_asked
returns-in-Ok c =
    let a = c.args in
    c.put_within.ensures
    ∙ sym (allowed_outcome a.segments a.slots a.shares.now a.image.now a.tenant (puts a.block.0 a.contents.now) c.in-Ok.part
    (subst (Admits a.segments a.slots a.shares.now a.image.now a.tenant a.block.0) c.in-Ok.is c.admit-admitted.ensures))
