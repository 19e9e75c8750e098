-- `header_steps::open_header` does the steps of the definition, in the header's page. Assumes nothing.
use native.Mathlib.Omega.{arith}
use Rattle.model.specs.Header.{new_version}
use Rattle.flash.proofs.Pages.{header_inside}
use Rattle.header_steps.proofs.Laws.{header_opened}
use Rattle.header_steps.proofs.open_header.Goals as goal

pub overflow_add-end : goal.overflow_add-end
overflow_add-end c =
    record { fits = omega (arith, c.header_place-at.ensures, header_inside c.args.geometry.segments c.args.geometry.slots c.args.number.0 _ c.requires) }

pub slice_bounds-header-end : goal.slice_bounds-header-end
slice_bounds-header-end c =
    omega (arith, c.header_place-at.ensures, header_inside c.args.geometry.segments c.args.geometry.slots c.args.number.0 _ c.requires)

pub returns : goal.returns
returns c =
    header_opened c.args.geometry.segments c.args.geometry.slots _ c.args.image.now _ c.requires (new_version c.args.total) c.args.number.0
    c.header_place-at.ensures c.header_page-made.ensures c.begin_header-begun.ensures c.finish_header.ensures
