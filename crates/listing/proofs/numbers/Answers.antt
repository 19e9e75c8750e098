-- `listing::numbers`. The invariant: the first `i` are there. Assumes nothing.
use mathlib.Core.Path.{◌≡◌, refl}
use native.Mathlib.Omega.{arith}
use Rattle.listing.proofs.numbers.Goals as goal

pub loop-i-init : goal.loop-i-init
loop-i-init c = (refl, omega arith, refl)

pub returns : goal.returns
returns c =
    let l = c.loop-i in
    let e : l.i ≡ c.args.segments = omega (arith, c.loop-i-test.false) in
    (rw e at l.invariant.0, l.invariant.2)
