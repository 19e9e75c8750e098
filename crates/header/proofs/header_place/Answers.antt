-- `header::header_place` is the offset of the page of the definition. Assumes nothing.
use native.Mathlib.Omega.{arith}
use mathlib.Core.Path.{refl}
use Rattle.model.specs.Steps.{header_at}
use Rattle.flash.proofs.Pages.{header_small}
use Rattle.header.proofs.header_place.Goals as goal

pub overflow_mul-result : goal.overflow_mul-result
overflow_mul-result c =
    let a = c.args in
    record { fits = omega (arith, header_small a.number.0 a.geometry.segments a.geometry.slots (omega arith) (omega arith) (omega arith)) }

pub overflow_mul-result-2 : goal.overflow_mul-result-2
overflow_mul-result-2 c =
    let a = c.args in
    record { fits = omega (arith, header_small a.number.0 a.geometry.segments a.geometry.slots (omega arith) (omega arith) (omega arith)) }

pub returns : goal.returns
unfolding header_at
returns c = refl
