-- `ring::number_at` reads the number in a header. Assumes nothing.
use mathlib.Core.Path.{refl}
use native.Mathlib.Omega.{arith}
use Rattle.ring.proofs.Laws.Search.{header_inside, header_number_lem}
use Rattle.ring.proofs.number_at.Goals as goal

pub overflow_mul-at : goal.overflow_mul-at
overflow_mul-at c =
    record { fits = omega (arith, header_inside c.args.geometry.segments c.args.geometry.slots c.args.index _ c.requires.0 c.requires.1) }

pub overflow_mul-at-2 : goal.overflow_mul-at-2
overflow_mul-at-2 c =
    record { fits = omega (arith, header_inside c.args.geometry.segments c.args.geometry.slots c.args.index _ c.requires.0 c.requires.1) }

pub overflow_add-end : goal.overflow_add-end
overflow_add-end c =
    record { fits = omega (arith, header_inside c.args.geometry.segments c.args.geometry.slots c.args.index _ c.requires.0 c.requires.1) }

pub slice_bounds-header_number-end : goal.slice_bounds-header_number-end
slice_bounds-header_number-end c =
    omega (arith, header_inside c.args.geometry.segments c.args.geometry.slots c.args.index _ c.requires.0 c.requires.1)

pub returns : goal.returns
returns c =
    let a = c.args in
    (header_number_lem a.geometry.slots a.index _ _ a.image.now refl c.header_number-number.ensures, omega arith)
