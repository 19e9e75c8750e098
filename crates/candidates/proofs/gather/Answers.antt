-- `candidates::gather`: the walk on tables that hold none. Assumes nothing.
use mathlib.Core.Path.{refl}
use Prim.Native.Nat.{ℕ, ◌+◌, ◌≤◌}
use native.Mathlib.Omega.{arith}
use native.Mathlib.Nat.{mul-le-mul_right}
use lib.ListN.{length}
use Rattle.flash.specs.Pages.{Sized}
use Rattle.flash.proofs.Pages.{sized}
use Rattle.candidates.proofs.Laws.{none_within, gathered}
use Rattle.candidates.proofs.gather.Goals as goal

-- an image has a page
least : (N B bytes : ℕ) → Sized N B bytes → 256 ≤ bytes
least N B bytes z = omega (arith, z.whole, mul-le-mul_right (B + 1) z.some)

pub walk-requires : goal.walk-requires
walk-requires c =
    let a = c.args in
    let z = sized a.geometry.segments a.geometry.slots a.image.now c.requires.0 in
    (z, none_within a.sheet.now.places 65536 (length a.image.now) c.requires.1 (least a.geometry.segments a.geometry.slots (length a.image.now) z))

pub returns : goal.returns
returns c =
    let a = c.args in
    gathered a.geometry.segments a.geometry.slots a.image.now c.requires.0 65536 a.sheet.now _ refl c.requires.1 c.requires.2 c.requires.3 c.walk.ensures
