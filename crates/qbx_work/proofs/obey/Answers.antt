-- `qbx_work::obey`: the count is within the image. Assumes nothing.
use mathlib.Core.Path.{sym}
use native.Mathlib.Omega.{arith}
use lib.Seq.{length-take-le}
use Rattle.qbx_work.proofs.obey.Goals as goal

pub slice_bounds-act-end-2 : goal.slice_bounds-act-end-2
slice_bounds-act-end-2 c = sym (length-take-le _ _ (omega arith))
