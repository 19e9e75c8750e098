-- `counting::meet` counts one slot as the definition does. Assumes nothing.
use Prim.Native.Nat.{◌+◌}
use mathlib.Core.Path.{◌≡◌, refl}
use mathlib.Core.Bool.{cond}
use Rattle.counting.proofs.Laws.Meet.{meet_made}
use Rattle.counting.proofs.meet.Goals as goal
use Rattle.counting.proofs.meet.Goals.{then-counted, else-counted}

pub returns : goal.returns
returns c =
    let test = c.counts-counted in
    let a = c.args in
    let n : c.if-counted.blocks ≡ cond test.result (a.met.blocks + 1) a.met.blocks =
    elim c.if-counted.branch [ then-counted w ↦ rw w.if-counted.true w.blocks-is | else-counted w ↦ rw w.if-counted.false w.blocks-is ] in
    meet_made a.sought a.met a.block a.live test.result _ _ test.ensures n refl
