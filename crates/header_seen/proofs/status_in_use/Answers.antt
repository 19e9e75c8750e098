-- `header_seen::status_in_use` is the test of the definition. Assumes nothing.
use mathlib.Core.Path.{sym}
use Rattle.header_seen.proofs.Laws.{use_opened, use_pending, use_compacted}
use Rattle.header_seen.proofs.status_in_use.Goals as goal

pub returns-then-status-eq-OPENED : goal.returns-then-status-eq-OPENED
returns-then-status-eq-OPENED c = sym (use_opened _ c.if-status-eq-OPENED.true)

pub returns-then-status-eq-ERASE_PENDING : goal.returns-then-status-eq-ERASE_PENDING
returns-then-status-eq-ERASE_PENDING c = sym (use_pending _ c.if-status-eq-ERASE_PENDING.true)

pub returns : goal.returns
returns c = sym (use_compacted _ c.if-status-eq-OPENED.false c.if-status-eq-ERASE_PENDING.false)
