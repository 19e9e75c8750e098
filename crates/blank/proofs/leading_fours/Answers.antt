-- `blank::leading_fours` counts the groups before the first that differs, four to a turn. The invariant: those looked at are blank. Assumes nothing.
use Prim.Native.Nat.{◌*◌, ◌/◌}
use lib.ListN.{length}
use mathlib.Core.Path.{◌≡◌, refl}
use native.Mathlib.Omega.{arith}
use Rattle.blank.proofs.Blank.{no_part, parts_whole, four_turn, four_stops}
use Rattle.blank.proofs.leading_fours.Goals as goal

pub loop-i-init : goal.loop-i-init
loop-i-init c = (omega arith, no_part 32 c.args.bytes.now)

pub returns-then-k-lt4 : goal.returns-then-k-lt4
returns-then-k-lt4 c =
    four_stops c.args.bytes.now c.loop-i.i _ c.loop-i.invariant.1 (omega arith) c.leading_four-k.ensures c.if-k-lt4.true

pub loop-i-preserved : goal.loop-i-preserved
loop-i-preserved c =
    (omega arith, four_turn c.args.bytes.now c.loop-i.i _ c.loop-i.invariant.1 (omega arith) c.leading_four-k.ensures (omega arith))

pub returns : goal.returns
returns c =
    let n = length c.args.bytes.now / 32 in
    let i : c.loop-i.i ≡ n = omega arith in
    let e : 4 * n * 8 ≡ n * 32 = omega arith in
    parts_whole 8 c.args.bytes.now (4 * n) (rw e (rw i at c.loop-i.invariant.1)) _ refl
