-- `admission::quota_used` is the test of the definition. Assumes nothing.
use lib.Dec.{leb}
use Rattle.admission.proofs.Laws.{held_passes, new_counts}
use Rattle.admission.proofs.quota_used.Goals as goal

pub returns-then-counted : goal.returns-then-counted
returns-then-counted c = let a = c.args in held_passes a.counted.stored (leb a.quota a.counted.blocks) c.if-counted.true

pub returns : goal.returns
returns c = let a = c.args in new_counts a.counted.stored (leb a.quota a.counted.blocks) c.if-counted.false
