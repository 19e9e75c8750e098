-- `settings_work::on_layout`: the text is within its buffer, and what is listed within the table. Assumes nothing.
use mathlib.Core.Path.{sym, ◌∙◌}
use native.Mathlib.Omega.{arith}
use lib.Seq.{length-take-le}
use Rattle.qbx_share_file.proofs.Laws.Lines.{listed_within}
use Rattle.settings_work.proofs.on_layout.Goals as goal

pub slice_bounds-read_layout-end : goal.slice_bounds-read_layout-end
slice_bounds-read_layout-end c = sym (length-take-le _ _ (omega arith))

pub slice_bounds-layout-end : goal.slice_bounds-layout-end
slice_bounds-layout-end c = omega (arith, listed_within 512 _ _ (sym c.in-Ok.is ∙ c.read_layout-listing.ensures.0))

pub slice_bounds-on_image-end : goal.slice_bounds-on_image-end
slice_bounds-on_image-end c = sym (length-take-le _ _ (omega (arith, listed_within 512 _ _ (sym c.in-Ok.is ∙ c.read_layout-listing.ensures.0))))
