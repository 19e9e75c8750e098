-- `partition_items::copy_data` programs the bytes as far as the budget goes. The invariant: the first `i` are programmed, and paid for. Assumes nothing.
use Prim.Native.Nat.{◌-◌, min}
use mathlib.Core.Path.{◌≡◌, refl}
use native.Mathlib.Omega.{arith}
use lib.ListN.{length, take, drop, length-set}
use Rattle.model.specs.Chip.{run}
use Rattle.model.specs.Steps.{programs}
use Rattle.flash.proofs.Laws.{programs_covered}
use Rattle.partition_items.proofs.Laws.{copied_turn, copied_length}
use Rattle.partition_items.proofs.copy_data.Goals as goal

pub loop-i-init : goal.loop-i-init
unfolding programs run
loop-i-init c = (λ B. refl, omega arith, omega arith, refl)

pub overflow_sub-left : goal.overflow_sub-left
overflow_sub-left c = omega (arith, c.loop-i.invariant.1, c.min-covered.ensures)

pub loop-i-preserved : goal.loop-i-preserved
loop-i-preserved c =
    let a = c.args in
    let e = c.min-covered.ensures in (
      copied_turn a.from a.to a.size c.loop-i.i a.image.now c.loop-i.image c.requires.0 c.requires.2 (omega (arith, e)) c.loop-i.invariant.0,
      omega (arith, c.loop-i.invariant.1),
      omega (arith, e),
      simp length-set c.loop-i.invariant.3,
    )

pub returns : goal.returns
returns c =
    let a = c.args in
    let e = c.min-covered.ensures in
    let paid : c.loop-i.left ≡ a.budget - c.loop-i.i = c.loop-i.invariant.1 in
    let all : c.loop-i.i ≡ min a.budget (length (take a.size (drop a.from a.image.now))) = rw (copied_length a.from a.size a.image.now c.requires.0) (omega (arith, e)) in
    rw paid (programs_covered a.to a.budget c.loop-i.i (take a.size (drop a.from a.image.now)) a.image.now c.loop-i.image all c.loop-i.invariant.0)
