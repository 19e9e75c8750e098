-- `header_steps::finish_copy` does the last part of the definition's steps, in the header's page. Assumes nothing.
use native.Mathlib.Omega.{arith}
use Rattle.model.specs.Header.{new_version}
use Rattle.flash.proofs.Pages.{header_inside}
use Rattle.header_steps.proofs.Laws.{copy_finished}
use Rattle.header_steps.proofs.finish_copy.Goals as goal

pub overflow_add-end : goal.overflow_add-end
overflow_add-end c =
    record { fits = omega (arith, c.header_place-at.ensures, header_inside c.args.geometry.segments c.args.geometry.slots c.args.number.0 _ c.requires) }

pub slice_bounds-finish_header-end : goal.slice_bounds-finish_header-end
slice_bounds-finish_header-end c =
    omega (arith, c.header_place-at.ensures, header_inside c.args.geometry.segments c.args.geometry.slots c.args.number.0 _ c.requires)

pub returns : goal.returns
returns c =
    copy_finished c.args.geometry.segments c.args.geometry.slots _ c.args.image.now _ c.requires (new_version c.args.total) c.args.old.0 c.args.number.0
    c.header_place-at.ensures c.compaction_page-made.ensures c.finish_header.ensures
