-- `settings_work::list`: every list is within its buffer. Assumes nothing.
use mathlib.Core.Path.{sym, ◌∙◌}
use native.Mathlib.Omega.{arith}
use lib.Seq.{length-take-le}
use Rattle.qbx_rooms.proofs.Laws.{as_many}
use Rattle.settings_list.proofs.Laws.{listed_within}
use Rattle.settings_work.proofs.list.Goals as goal

pub slice_bounds-text-end : goal.slice_bounds-text-end
slice_bounds-text-end c = omega (arith, listed_within _ c.list-listed.ensures c.in-Ok.is, c.list-listed.ensures.prints.kept ∙ sym (as_many 180224 0))

pub slice_bounds-send-end : goal.slice_bounds-send-end
slice_bounds-send-end c = sym (length-take-le _ _ (omega (arith, listed_within _ c.list-listed.ensures c.in-Ok.is, c.list-listed.ensures.prints.kept ∙ sym (as_many 180224 0))))
