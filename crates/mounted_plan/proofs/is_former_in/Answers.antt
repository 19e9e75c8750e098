-- `mounted_plan::is_former_in` tells the version in the header of the segment with a number. Assumes nothing.
use native.Mathlib.Omega.{arith}
use Rattle.flash.proofs.Pages.{header_inside}
use Rattle.mounted_plan.proofs.Laws.Seen.{former_in_lem}
use Rattle.mounted_plan.proofs.is_former_in.Goals as goal

pub overflow_add-end : goal.overflow_add-end
overflow_add-end c =
    record { fits = omega (arith, c.header_place-at.ensures, header_inside c.args.geometry.segments c.args.geometry.slots c.args.number.0 _ c.requires) }

pub slice_bounds-is_former-end : goal.slice_bounds-is_former-end
slice_bounds-is_former-end c =
    omega (arith, c.header_place-at.ensures, header_inside c.args.geometry.segments c.args.geometry.slots c.args.number.0 _ c.requires)

pub returns : goal.returns
returns c =
    let a = c.args in
    former_in_lem a.geometry.segments a.geometry.slots a.number.0 _ a.image.now _ c.header_place-at.ensures c.is_former.ensures
