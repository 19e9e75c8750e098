-- `settings_work::work`: the count is within the buffer. Assumes nothing.
use mathlib.Core.Path.{sym}
use native.Mathlib.Omega.{arith}
use lib.Seq.{length-take-le}
use Rattle.settings_work.proofs.work.Goals as goal

pub slice_bounds-act-end-2 : goal.slice_bounds-act-end-2
slice_bounds-act-end-2 c = sym (length-take-le _ _ (omega arith))
