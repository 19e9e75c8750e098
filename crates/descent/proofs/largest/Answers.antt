-- `descent::largest`. The invariant: the largest so far, and of what is left, is the largest. Assumes nothing.
use Prim.Native.Nat.{ℕ, ◌+◌, ◌-◌, ◌<◌, max}
use mathlib.Core.Path.{sym, ap, ◌∙◌}
use native.Mathlib.Omega.{arith}
use lib.ListN.{length, take, drop}
use Rattle.descent.specs.Descent.{largest}
use Rattle.descent.proofs.Laws.{largest_start, largest_more, largest_end}
use Rattle.descent.proofs.largest.Goals as goal

pub loop-i-init : goal.loop-i-init
loop-i-init c = (largest_start c.args.segments c.args.left.now, omega arith)

pub loop-i-preserved : goal.loop-i-preserved
loop-i-preserved c =
    let l = c.loop-i in
    let t = c.loop-i-test.true in
    let k : l.i < length c.args.left.now = omega (arith, c.requires.0, c.requires.1) in
    (ap (λ (z : ℕ). max z (largest (take (c.args.segments - (l.i + 1)) (drop (l.i + 1) c.args.left.now)))) c.max-most.ensures ∙ (largest_more c.args.segments l.i l.most c.args.left.now t k ∙ l.invariant.0), omega arith)

pub returns : goal.returns
returns c =
    let l = c.loop-i in
    sym (largest_end c.args.segments l.i l.most c.args.left.now c.loop-i-test.false) ∙ l.invariant.0
