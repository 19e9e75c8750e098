-- A segment of the store's chip is an erase unit of B + 1 pages.
use mathlib.Core.Path.{◌≡◌}
use Prim.Native.Nat.{ℕ, ◌+◌, ◌*◌}
use native.Mathlib.Nat.{mul_assoc}
use native.Mathlib.Omega.{arith}
use Rattle.model.specs.Chip.{Image, erase, with_segment, step}
use Rattle.flash.specs.Units.{with_unit, step_in}

pub segment_is_unit : (B i : ℕ) (s : Image) → step_in ((B + 1) * 256) (erase i) s ≡ step B (erase i) s
unfolding step_in with_unit step with_segment
segment_is_unit B i s =
    let from : i * ((B + 1) * 256) ≡ i * (B + 1) * 256 = omega (arith, mul_assoc i (B + 1) 256) in
    let to : i * ((B + 1) * 256) + (B + 1) * 256 ≡ (i * (B + 1) + (B + 1)) * 256 = omega arith in
    rw (to, from)
