-- `ring::status_at` reads the status of a header. Assumes nothing.
use native.Mathlib.Omega.{arith}
use Rattle.ring.proofs.Laws.Search.{header_inside, header_status_lem}
use Rattle.ring.proofs.status_at.Goals as goal

pub overflow_mul-result : goal.overflow_mul-result
overflow_mul-result c = record { fits = omega (arith, header_inside c.args.geometry.segments c.args.geometry.slots c.args.index _ c.requires.0 c.requires.1) }

pub overflow_mul-result-2 : goal.overflow_mul-result-2
overflow_mul-result-2 c = record { fits = omega (arith, header_inside c.args.geometry.segments c.args.geometry.slots c.args.index _ c.requires.0 c.requires.1) }

pub overflow_add-result-2 : goal.overflow_add-result-2
overflow_add-result-2 c = record { fits = omega (arith, header_inside c.args.geometry.segments c.args.geometry.slots c.args.index _ c.requires.0 c.requires.1) }

pub bounds-image-index : goal.bounds-image-index
bounds-image-index c =
    omega (arith, header_inside c.args.geometry.segments c.args.geometry.slots c.args.index _ c.requires.0 c.requires.1)

pub returns : goal.returns
returns c = let a = c.args in header_status_lem a.geometry.slots a.index a.image.now
