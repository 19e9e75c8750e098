-- `sharing::put_within` is a put of the definition, once the share is known. Assumes nothing.
use mathlib.Core.Path.{sym, ◌∙◌}
use native.Mathlib.Omega.{arith}
use Rattle.sharing.proofs.Laws.Put.{stored, not_stored}
use Rattle.sharing.proofs.put_within.Goals as goal

pub returns-then-quota_used : goal.returns-then-quota_used
returns-then-quota_used c =
    let a = c.args in
    not_stored a.segments a.slots a.image.now a.block.0 a.contents.now c.requires.0 c.requires.1 a.part c.count-counted.result c.count-counted.ensures c.put-asked.result _
    (sym c.quota_used.ensures ∙ c.if-quota_used.true) c.put-asked.ensures c.before_full.result c.before_full.ensures

pub returns : goal.returns
returns c =
    let a = c.args in
    stored a.segments a.slots a.image.now a.block.0 a.contents.now c.requires.0 c.requires.1 a.part c.count-counted.result c.count-counted.ensures c.put-performed.result _
    (sym c.quota_used.ensures ∙ c.if-quota_used.false) _ (omega arith) c.put-performed.ensures
