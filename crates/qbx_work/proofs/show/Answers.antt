-- `qbx_work::show`: the count is within the image, and the text within its buffer. Assumes nothing.
use mathlib.Core.Path.{sym}
use native.Mathlib.Omega.{arith}
use lib.Seq.{length-take-le}
use Rattle.qbx_work.proofs.show.Goals as goal

pub slice_bounds-describe-end-2 : goal.slice_bounds-describe-end-2
slice_bounds-describe-end-2 c = sym (length-take-le _ _ (omega arith))
