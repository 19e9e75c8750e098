-- `header_seen::old_index` is byte 16 of the definition. Assumes nothing.
use Prim.Native.Nat.{◌+◌}
use mathlib.Core.Path.{sym}
use native.Mathlib.Omega.{arith}
use native.Mathlib.Nat.{mod-lt}
use Rattle.header_seen.proofs.Laws.{old_opened, old_next}
use Rattle.header_seen.proofs.old_index.Goals as goal

pub returns-then-status-eq-OPENED : goal.returns-then-status-eq-OPENED
returns-then-status-eq-OPENED c = sym (old_opened _ _ _ c.if-status-eq-OPENED.true)

-- what the index is stands before its range: an edit is refused for that
pub returns : goal.returns
returns c = sym (old_next _ _ _ c.if-status-eq-OPENED.false)

pub overflow_cast-result : goal.overflow_cast-result
overflow_cast-result c = record { fits = omega (arith, mod-lt (c.args.index + 1) {m = c.args.segments} (omega arith)) }
