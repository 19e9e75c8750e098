-- `meeting::pages_differ`. The invariant: whether the bytes so far differ. Assumes nothing.
use Prim.Native.Nat.{◌<◌}
use mathlib.Core.Path.{sym, ap, ◌∙◌}
use mathlib.Core.Bool.{not}
use native.Mathlib.Omega.{arith}
use lib.ListN.{length}
use Rattle.meeting.proofs.Laws.{same_none, differ_here, differ_before}
use Rattle.meeting.proofs.pages_differ.Goals as goal
use Rattle.meeting.proofs.pages_differ.Goals.{then-a-i, else-a-i}

pub loop-i-init : goal.loop-i-init
loop-i-init c = ap not (sym (same_none c.args.a.now c.args.b.now))

pub loop-i-preserved : goal.loop-i-preserved
loop-i-preserved c =
    let l = c.loop-i in
    let t = c.loop-i-test.true in
    let h : l.i < length c.args.a.now = omega (arith, c.requires.0) in
    let k : l.i < length c.args.b.now = omega (arith, c.requires.1) in
    elim c.if-a-i.branch [
      | then-a-i w ↦ w.differ-is ∙ differ_here c.args.a.now c.args.b.now l.i h k w.if-a-i.true
      | else-a-i w ↦ w.differ-is ∙ (l.invariant ∙ differ_before c.args.a.now c.args.b.now l.i h k w.if-a-i.false)
    ]
