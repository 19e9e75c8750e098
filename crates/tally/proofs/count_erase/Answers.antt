-- `tally::count_erase` does the step of the definition, in the header's page. Assumes nothing.
use native.Mathlib.Omega.{arith}
use Rattle.flash.proofs.Pages.{header_inside}
use Rattle.tally.proofs.Laws.{counted_in}
use Rattle.tally.proofs.count_erase.Goals as goal

pub overflow_add-end : goal.overflow_add-end
overflow_add-end c =
    record { fits = omega (arith, c.header_place-at.ensures, header_inside c.args.geometry.segments c.args.geometry.slots c.args.number.0 _ c.requires) }

pub slice_bounds-count_in-end : goal.slice_bounds-count_in-end
slice_bounds-count_in-end c =
    omega (arith, c.header_place-at.ensures, header_inside c.args.geometry.segments c.args.geometry.slots c.args.number.0 _ c.requires)

pub returns : goal.returns
returns c =
    counted_in c.args.geometry.segments c.args.geometry.slots c.args.number.0 _ c.args.image.now c.requires c.header_place-at.ensures c.count_in.ensures
