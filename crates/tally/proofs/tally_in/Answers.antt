-- `tally::tally_in` shows what the definition shows, of the header's page. Assumes nothing.
use native.Mathlib.Omega.{arith}
use Rattle.flash.proofs.Pages.{header_inside}
use Rattle.tally.proofs.Laws.{seen_in}
use Rattle.tally.proofs.tally_in.Goals as goal

pub overflow_add-end : goal.overflow_add-end
overflow_add-end c =
    record { fits = omega (arith, c.header_place-at.ensures, header_inside c.args.geometry.segments c.args.geometry.slots c.args.number.0 _ c.requires) }

pub slice_bounds-see_tally-end : goal.slice_bounds-see_tally-end
slice_bounds-see_tally-end c =
    omega (arith, c.header_place-at.ensures, header_inside c.args.geometry.segments c.args.geometry.slots c.args.number.0 _ c.requires)

pub returns : goal.returns
returns c =
    (seen_in c.args.geometry.segments c.args.geometry.slots c.args.number.0 _ c.args.image.now c.requires c.header_place-at.ensures _ c.see_tally.ensures.0, c.see_tally.ensures.1)
