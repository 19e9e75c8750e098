-- `text::add`. The invariant: the first `i` bytes are there. Assumes nothing.
use Prim.Native.Nat.{ℕ, ◌+◌}
use mathlib.Core.Path.{◌≡◌, refl, ap, ◌∙◌}
use mathlib.Core.List.{List}
use native.Mathlib.Omega.{arith}
use lib.ListN.{take, set, get_or, length-set}
use lib.Seq.{take_all}
use Rattle.text.specs.Buffer.{over}
use Rattle.text.proofs.Laws.{copy_none, copy_more}
use Rattle.text.proofs.add.Goals as goal

pub returns-then-end-text : goal.returns-then-end-text
returns-then-end-text c = record { ends = refl; kept = refl; there = λ h. absurd (omega (arith, c.if-end-text.true)) }

pub loop-i-init : goal.loop-i-init
loop-i-init c = (omega arith, omega (arith, c.if-end-text.false), refl, copy_none c.args.text.now c.args.at c.args.bytes.now)

pub loop-i-preserved : goal.loop-i-preserved
loop-i-preserved c =
    let t = c.loop-i-test.true in
    let e = c.loop-i.invariant.3 in (
      omega arith,
      c.loop-i.invariant.1,
      length-set c.loop-i.text (c.args.at + c.loop-i.i) (get_or c.args.bytes.now c.loop-i.i 0) ∙ c.loop-i.invariant.2,
      ap (λ (z : List ℕ). set z (c.args.at + c.loop-i.i) (get_or c.args.bytes.now c.loop-i.i 0)) e ∙ copy_more _ _ _ _ t c.loop-i.invariant.1,
    )

pub returns : goal.returns
returns c =
    let a = c.args in
    let w : take c.loop-i.i a.bytes.now ≡ a.bytes.now = take_all c.loop-i.i a.bytes.now c.loop-i-test.false in
    record { ends = refl; kept = c.loop-i.invariant.2; there = λ h. c.loop-i.invariant.3 ∙ ap (over a.text.now a.at) w }
