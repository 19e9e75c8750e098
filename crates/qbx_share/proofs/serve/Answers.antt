-- `qbx_share::serve`: the text is within its buffer, and what is listed within the list. Assumes nothing.
use mathlib.Core.Path.{sym, ◌∙◌}
use native.Mathlib.Omega.{arith}
use lib.Seq.{length-take-le}
use Rattle.qbx_share_file.proofs.Laws.Lines.{listed_within}
use Rattle.qbx_share.proofs.serve.Goals as goal

pub slice_bounds-read_shares-end : goal.slice_bounds-read_shares-end
slice_bounds-read_shares-end c = sym (length-take-le _ _ (omega arith))

pub slice_bounds-shares-end : goal.slice_bounds-shares-end
slice_bounds-shares-end c = omega (arith, listed_within 123 _ _ (sym c.in-Ok.is ∙ c.read_shares-listing.ensures.0))

pub slice_bounds-work-end : goal.slice_bounds-work-end
slice_bounds-work-end c = sym (length-take-le _ _ (omega (arith, listed_within 123 _ _ (sym c.in-Ok.is ∙ c.read_shares-listing.ensures.0))))
