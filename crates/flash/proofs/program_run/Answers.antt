-- `flash::program_run` programs the bytes as far as the budget goes. The invariant: the first `i` are programmed, and paid for. Assumes nothing.
use Prim.Native.Nat.{◌-◌}
use mathlib.Core.Path.{◌≡◌, refl}
use native.Mathlib.Omega.{arith}
use lib.ListN.{length-set}
use Rattle.model.specs.Chip.{run}
use Rattle.model.specs.Steps.{programs}
use Rattle.flash.proofs.Laws.{programs_turn, programs_covered}
use Rattle.flash.proofs.program_run.Goals as goal

pub loop-i-init : goal.loop-i-init
unfolding programs run
loop-i-init c = (λ B. refl, omega arith, omega arith, refl)

pub overflow_sub-left : goal.overflow_sub-left
overflow_sub-left c = omega (arith, c.loop-i.invariant.1, c.min-covered.ensures)

pub loop-i-preserved : goal.loop-i-preserved
loop-i-preserved c =
    let a = c.args in
    let e = c.min-covered.ensures in (
      programs_turn a.at c.loop-i.i a.bytes.now a.image.now c.loop-i.image (omega (arith, e)) c.loop-i.invariant.0,
      omega (arith, c.loop-i.invariant.1),
      omega (arith, e),
      simp length-set c.loop-i.invariant.3,
    )

pub returns : goal.returns
returns c =
    let a = c.args in
    let e = c.min-covered.ensures in
    let paid : c.loop-i.left ≡ a.budget - c.loop-i.i = c.loop-i.invariant.1 in
    rw paid (programs_covered a.at a.budget c.loop-i.i a.bytes.now a.image.now c.loop-i.image (omega (arith, e)) c.loop-i.invariant.0)
