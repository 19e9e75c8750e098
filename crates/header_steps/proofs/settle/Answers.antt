-- `header_steps::settle` does the one step of the definition, in the header's page. Assumes nothing.
use native.Mathlib.Omega.{arith}
use Rattle.flash.proofs.Pages.{header_inside}
use Rattle.header_steps.proofs.Laws.{settled}
use Rattle.header_steps.proofs.settle.Goals as goal

pub program_byte-requires : goal.program_byte-requires
program_byte-requires c =
    omega (arith, c.header_place-at.ensures, header_inside c.args.geometry.segments c.args.geometry.slots c.args.number.0 _ c.requires)

pub returns : goal.returns
returns c =
    let a = c.args in
    settled a.geometry.segments a.geometry.slots a.number.0 _ c.header_place-at.ensures c.program_byte.ensures
